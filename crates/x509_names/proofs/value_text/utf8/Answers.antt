use Rattle.std.proofs.Common.{refl}
use Rattle.x509_names.proofs.Texts.{utf8_in_good, utf8_in_bad}
use Rattle.x509_names.proofs.value_text.utf8.Goals as goal

pub returns-in-Ok : goal.returns-in-Ok
returns-in-Ok c = rw (utf8_in_good c.args.octets.now c.in-Ok.ensures.cases.1, c.in-Ok.ensures.cases.0) refl

pub returns-in-Err : goal.returns-in-Err
returns-in-Err c = rw (utf8_in_bad c.args.octets.now c.in-Err.ensures.cases.0) refl
