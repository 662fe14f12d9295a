-- Kinds of signatures as numbers.
use Rattle.std.specs.Prelude.{ℕ, Option, Some, None}
use Rattle.x509_keys.specs.declared.signature_kind.SignatureKind.{SignatureKind}
use Rattle.x509_keys.specs.declared.signature_kind.SignatureKind.TheVariants as kinds

-- 0 where the kind isn't known
abbrev pub kind_number : Option SignatureKind → ℕ
kind_number None = 0
kind_number (Some kinds.Rsa) = 1
kind_number (Some kinds.Pss) = 2
kind_number (Some kinds.Oaep) = 3
kind_number (Some kinds.Dsa) = 4
kind_number (Some kinds.Ecdsa) = 5
kind_number (Some kinds.Ed25519) = 6
