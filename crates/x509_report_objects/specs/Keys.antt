-- What a report says of a public key (RFC 5280, 4.1.2.7).
use Rattle.std.specs.Prelude.{ℕ, Bool, List, [], ◌∷◌, ◌++◌, codes, Option, Result, Ok, Err}
use Rattle.json.specs.Json.{Json, null, string}
use Rattle.x509_fields.specs.declared.error.X509Error.{X509Error}
use Rattle.x509_keys.specs.declared.key_algorithm.KeyAlgorithm.{KeyAlgorithm}
use Rattle.x509_keys.specs.declared.key_algorithm.NamedCurve.{NamedCurve}
use Rattle.x509_keys.specs.KeyAlgorithms.{key_algorithm_word, named_curve_word}
use Rattle.x509_keys.specs.KeyInfo.{KeyInfo}
use Rattle.x509_keys.specs.KeySizes.{algorithm_in, curve_in, size_in}
use Rattle.x509_keys.specs.PublicKey.{Key, RSA, EC, DSA, GostR3410, GostR3410_2012, Unknown, key_in}
use Rattle.x509_report_lines.specs.Says.{count, optional, record_of}
use Rattle.x509_report_objects.specs.Algorithms.{algorithm_report, bits_report}
use Rattle.x509_report_objects.specs.Octets.{hex, fingerprint}

abbrev pub no_number : List (List ℕ × Json)
no_number = (codes "modulus", null) ∷ (codes "exponent", null) ∷ []

-- the two numbers of an RSA key
abbrev pub key_numbers : Result Key X509Error → List (List ℕ × Json)
key_numbers (Ok (RSA key)) = (codes "modulus", hex key.modulus) ∷ (codes "exponent", hex key.exponent) ∷ []
key_numbers (Ok (EC point)) = no_number
key_numbers (Ok (DSA y)) = no_number
key_numbers (Ok (GostR3410 y)) = no_number
key_numbers (Ok (GostR3410_2012 y)) = no_number
key_numbers (Ok (Unknown bits)) = no_number
key_numbers (Err e) = no_number

unfoldable pub kind_report : KeyAlgorithm → Json
kind_report algorithm = string (key_algorithm_word algorithm)

-- in bits
unfoldable pub size_report : Option ℕ → Json
size_report size = optional count size

unfoldable pub curve_report : Option NamedCurve → Json
curve_report curve = optional (λ c. string (named_curve_word c)) curve

abbrev pub key_kind_members : KeyInfo → List (List ℕ × Json)
key_kind_members info =
    (codes "algorithm", algorithm_report info.algorithm) ∷
    (codes "kind", kind_report (algorithm_in info)) ∷ []

abbrev pub key_size_members : KeyInfo → List (List ℕ × Json)
key_size_members info =
    (codes "size", size_report (size_in info)) ∷
    (codes "curve", curve_report (curve_in info)) ∷ []

-- the fingerprint is that of the whole key info
unfoldable pub key_report : Bool → KeyInfo → Json
key_report fingerprints info = record_of (
    key_kind_members info
    ++ key_size_members info
    ++ key_numbers (key_in info)
    ++ (codes "bits", bits_report info.key)
    ∷ (codes "sha256", fingerprint fingerprints info.raw) ∷ [])
