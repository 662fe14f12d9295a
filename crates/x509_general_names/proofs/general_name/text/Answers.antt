use Rattle.std.proofs.Common.{refl}
use Rattle.x509_general_names.proofs.Texts.{utf8_good, utf8_bad}
use Rattle.x509_general_names.proofs.general_name.text.Goals as goal

pub returns-in-Ok : goal.returns-in-Ok
returns-in-Ok c = rw (utf8_good c.args.contents.now c.in-Ok.ensures.cases.1, c.in-Ok.ensures.cases.0) refl

pub returns-in-Err : goal.returns-in-Err
returns-in-Err c = rw (utf8_bad c.args.contents.now c.in-Err.ensures.cases.0) refl
