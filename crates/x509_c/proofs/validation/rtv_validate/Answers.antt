-- What the validators tell of the certificate that was read, or why there is none.
use Rattle.std.proofs.Common.{refl, true, rules}
use Rattle.x509_certs.specs.Certificate.{certificate}
use Rattle.x509_c.proofs.Telling.{tells_read, tells_refused}
use Rattle.x509_c.proofs.validation.rtv_validate.Goals as goal

pub returns-in-Ok-told : goal.returns-in-Ok-told
returns-in-Ok-told c =
    tells_read true _ (certificate true) c.args.der.now _ _ _ c.args.at.now c.in-Ok.ensures (search rules)

pub returns : goal.returns
returns c = tells_refused true _ (certificate true) c.args.der.now _ _ c.in-Err.refusal c.args.at.now _ _ c.in-Err.ensures (refl, refl, refl) c.refused.ensures.at c.refused.ensures.status
