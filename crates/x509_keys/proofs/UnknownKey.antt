-- Identifiers of no algorithm whose keys are known.
use Rattle.std.proofs.Common.{◌≡◌, ℕ, false, List, refl}
use Rattle.std.specs.Str.{bytes_eq}
use Rattle.x509_keys.specs.declared.key_kind.KeyKind.TheVariants.{Unknown}
use Rattle.x509_keys.specs.KeyKinds.{rsa_encryption, ec_public_key, dsa, gost_2001, gost_2012_256, gost_2012_512, kind_of}

pub unknown_key : (id : List ℕ)
    → false ≡ bytes_eq id rsa_encryption → false ≡ bytes_eq id ec_public_key → false ≡ bytes_eq id dsa → false ≡ bytes_eq id gost_2001 → false ≡ bytes_eq id gost_2012_256 → false ≡ bytes_eq id gost_2012_512
    → Unknown ≡ kind_of id
unfolding kind_of
unknown_key id a b c d e f = rw (← a, ← b, ← c, ← d, ← e, ← f) refl
