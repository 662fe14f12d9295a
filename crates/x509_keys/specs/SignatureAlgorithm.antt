-- Algorithms of signatures (RFC 5280, 4.1.1.2), by the kind of their identifier.
use Rattle.std.specs.Prelude.{◌≡◌, Bool, true, false, cond, Option, Some, None, Result, Ok, Err, IfOk, IfErr}
use Rattle.std.specs.Box.{box_value}
use Rattle.x509_der.specs.Reading.{Element}
use Rattle.x509_fields.specs.declared.error.X509Error.{X509Error}
use Rattle.x509_fields.specs.declared.error.X509Error.TheVariants as x509
use Rattle.x509_fields.specs.Algorithm.{Algorithm}
use Rattle.x509_fields.specs.Errors.{is_x509_memory}
use Rattle.x509_fields.specs.Fields.{Field}
use Rattle.x509_keys.specs.declared.signature_algorithm.SignatureAlgorithm.{SignatureAlgorithm}
use Rattle.x509_keys.specs.declared.signature_algorithm.SignatureAlgorithm.TheVariants as variants
use Rattle.x509_keys.specs.declared.signature_kind.SignatureKind.{SignatureKind}
use Rattle.x509_keys.specs.declared.signature_kind.SignatureKind.TheVariants as kinds
use Rattle.x509_keys.specs.Parameters.{parameters, HoldsFields, RefusesFields}
use Rattle.x509_keys.specs.RsaAesOaepParams.{Oaep, oaep_of, oaep_fields}
use Rattle.x509_keys.specs.RsaSsaPssParams.{Pss, pss_of, pss_fields}
use Rattle.x509_keys.specs.SignatureKinds.{signature_kind_of}

-- ---- the value

pub data Signature : Type 0 where
  RSA : Signature
  RSASSA_PSS : Pss → Signature
  RSAAES_OAEP : Oaep → Signature
  DSA : Signature
  ECDSA : Signature
  ED25519 : Signature

abbrev pub signature_of : SignatureAlgorithm → Signature
signature_of variants.RSA = RSA
signature_of (variants.RSASSA_PSS params) = RSASSA_PSS (pss_of (box_value params))
signature_of (variants.RSAAES_OAEP params) = RSAAES_OAEP (oaep_of (box_value params))
signature_of variants.DSA = DSA
signature_of variants.ECDSA = ECDSA
signature_of variants.ED25519 = ED25519

-- ---- the kind and its parameters

abbrev pub made_or_invalid : {A : Type 0} → (A → Signature) → Result A X509Error → Result Signature X509Error
made_or_invalid make (Ok a) = Ok (make a)
made_or_invalid make (Err e) = Err x509.InvalidSignatureValue

-- with the parameters that such fields make; InvalidSignatureValue where there are none, or bad ones
abbrev pub with_fields : {A : Type 0} → (A → Signature) → Field A → Option Element → Result Signature X509Error
with_fields make fields None = Err x509.InvalidSignatureValue
with_fields make fields (Some e) = made_or_invalid make (parameters fields e)

-- the parameters of other kinds are not looked at
abbrev pub of_kind : Option SignatureKind → Option Element → Result Signature X509Error
of_kind None given = Err x509.InvalidSignatureValue
of_kind (Some kinds.Rsa) given = Ok RSA
of_kind (Some kinds.Pss) given = with_fields (λ params. RSASSA_PSS params) pss_fields given
of_kind (Some kinds.Oaep) given = with_fields (λ params. RSAAES_OAEP params) oaep_fields given
of_kind (Some kinds.Dsa) given = Ok DSA
of_kind (Some kinds.Ecdsa) given = Ok ECDSA
of_kind (Some kinds.Ed25519) given = Ok ED25519

abbrev pub signature : Algorithm → Result Signature X509Error
signature a = of_kind (signature_kind_of a.algorithm) a.parameters

-- ---- memory

-- whether the value holds parameters, which take a box
abbrev pub takes_box : Result Signature X509Error → Bool
takes_box (Ok (RSASSA_PSS params)) = true
takes_box (Ok (RSAAES_OAEP params)) = true
takes_box _ = false

-- the signature, or else, for one with parameters alone, want of memory
abbrev pub AnswersSignature : Result SignatureAlgorithm X509Error → Result Signature X509Error → Type 0
AnswersSignature (Ok s) wanted = wanted ≡ Ok (signature_of s)
AnswersSignature (Err e) wanted = cond (is_x509_memory e) (takes_box wanted ≡ true) (wanted ≡ Err e)

-- ---- kinds with parameters

-- an algorithm of this kind, whose parameters are this element
abbrev pub HasParameters : SignatureKind → Algorithm → Element → Type 0
HasParameters kind a e = (signature_kind_of a.algorithm ≡ Some kind) × (a.parameters ≡ Some e)

-- The signature that the fields of its parameters make, both ways, and InvalidSignatureValue exactly where they are refused; or want of memory.
pub record ReadsSignature {A : Type 0} (make : A → Signature) (fields : Field A) (e : Element) (result : Result SignatureAlgorithm X509Error) : Type 0 where
  pub holds : IfOk result (λ s. (a : A) × HoldsFields fields e.header.tag.0 e.contents a × (signature_of s ≡ make a))
  pub every : (a : A) → HoldsFields fields e.header.tag.0 e.contents a → AnswersSignature result (Ok (make a))
  pub refused : IfErr result (λ why. is_x509_memory why ≡ false → (r : X509Error) × RefusesFields fields e.header.tag.0 e.contents r)
  pub refuses : (r : X509Error) → RefusesFields fields e.header.tag.0 e.contents r → result ≡ Err x509.InvalidSignatureValue
