-- The identifier that was read, or why there is none.
use Rattle.std.proofs.Common.{refl, false}
use Rattle.x509_general_names.specs.KeyIdentifier.{key_identifier}
use Rattle.x509_c.proofs.Telling.{tells_read, tells_refused}
use Rattle.x509_c.proofs.authorities.rtv_read_key_identifier.Goals as goal

pub returns-in-Ok : goal.returns-in-Ok
returns-in-Ok c = tells_read false _ key_identifier c.args.value.now _ _ _ c.args.at.now c.in-Ok.ensures refl

pub returns-in-Err : goal.returns-in-Err
returns-in-Err c = tells_refused false _ key_identifier c.args.value.now _ _ c.in-Err.refusal c.args.at.now _ _ c.in-Err.ensures refl c.refused.ensures.at c.refused.ensures.status
