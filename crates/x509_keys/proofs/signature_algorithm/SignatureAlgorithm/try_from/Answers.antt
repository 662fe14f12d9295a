-- What the parameters hold is what their reader says.
use Rattle.std.proofs.Common.{refl, ap}
use Rattle.x509_keys.specs.RsaAesOaepParams.{oaep_of, oaep_fields}
use Rattle.x509_keys.specs.RsaSsaPssParams.{pss_of, pss_fields}
use Rattle.x509_keys.specs.SignatureAlgorithm.{RSASSA_PSS, RSAAES_OAEP}
use Rattle.x509_keys.proofs.SignatureRead.{element_given, read_signature, refused_signature, no_room_for_signature}
use Rattle.x509_keys.proofs.signature_algorithm.SignatureAlgorithm.try_from.Goals as goal

pub returns-in_default-try_from-clause-pss : goal.returns-in_default-try_from-clause-pss
returns-in_default-try_from-clause-pss c e has =
    refused_signature (λ p. RSASSA_PSS p) pss_of pss_fields _ e c.in_default-try_from.field-0 (element_given c.args.value.now.parameters c.in-Some-parameters.given e c.in-Some-parameters.is has.1) c.in_default-try_from.ensures.exact

pub returns-in-Ok-new-clause-pss : goal.returns-in-Ok-new-clause-pss
returns-in-Ok-new-clause-pss c e has =
    read_signature (λ p. RSASSA_PSS p) pss_of pss_fields _ e c.in-Ok.params _ (element_given c.args.value.now.parameters c.in-Some-parameters.given e c.in-Some-parameters.is has.1) c.in-Ok.ensures.exact
    (ap (λ p. RSASSA_PSS (pss_of p)) c.in-Ok-new.ensures.ok)

pub returns-in-Err-clause-pss : goal.returns-in-Err-clause-pss
returns-in-Err-clause-pss c e has =
    no_room_for_signature (λ p. RSASSA_PSS p) pss_of pss_fields _ e c.in-Ok.params (element_given c.args.value.now.parameters c.in-Some-parameters.given e c.in-Some-parameters.is has.1) (λ a. refl) c.in-Ok.ensures.exact

pub returns-in_default-try_from-2-clause-oaep : goal.returns-in_default-try_from-2-clause-oaep
returns-in_default-try_from-2-clause-oaep c e has =
    refused_signature (λ p. RSAAES_OAEP p) oaep_of oaep_fields _ e c.in_default-try_from-2.field-0 (element_given c.args.value.now.parameters c.in-Some-parameters-2.given e c.in-Some-parameters-2.is has.1) c.in_default-try_from-2.ensures.exact

pub returns-in-Ok-new-2-clause-oaep : goal.returns-in-Ok-new-2-clause-oaep
returns-in-Ok-new-2-clause-oaep c e has =
    read_signature (λ p. RSAAES_OAEP p) oaep_of oaep_fields _ e c.in-Ok-try_from.params _ (element_given c.args.value.now.parameters c.in-Some-parameters-2.given e c.in-Some-parameters-2.is has.1) c.in-Ok-try_from.ensures.exact
    (ap (λ p. RSAAES_OAEP (oaep_of p)) c.in-Ok-new-2.ensures.ok)

pub returns-in-Err-new-clause-oaep : goal.returns-in-Err-new-clause-oaep
returns-in-Err-new-clause-oaep c e has =
    no_room_for_signature (λ p. RSAAES_OAEP p) oaep_of oaep_fields _ e c.in-Ok-try_from.params (element_given c.args.value.now.parameters c.in-Some-parameters-2.given e c.in-Some-parameters-2.is has.1) (λ a. refl) c.in-Ok-try_from.ensures.exact
