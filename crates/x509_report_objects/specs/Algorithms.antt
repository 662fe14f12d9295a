-- What a report says of algorithms and of bits (RFC 5280, 4.1.1.2).
use Rattle.std.specs.Prelude.{[], ◌∷◌, ◌++◌, codes}
use Rattle.json.specs.Json.{Json, string}
use Rattle.x509_der.specs.Primitives.{Bits}
use Rattle.x509_der.specs.Reading.{Element}
use Rattle.x509_fields.specs.Algorithm.{Algorithm}
use Rattle.x509_keys.specs.HashAlgorithms.{hash_signed, hash_word}
use Rattle.x509_report_lines.specs.Says.{count, optional, record_of}
use Rattle.x509_report_objects.specs.Identifiers.{oid_members}
use Rattle.x509_report_objects.specs.Octets.{hex}

unfoldable pub bits_report : Bits → Json
bits_report b = record_of ((codes "hex", hex b.bytes) ∷ (codes "unused_bits", count b.unused_bits) ∷ [])

unfoldable pub parameters_report : Element → Json
parameters_report e = record_of ((codes "tag", count e.header.tag.0) ∷ (codes "hex", hex e.contents) ∷ [])

-- the hash is that which a signature by this algorithm is over
unfoldable pub algorithm_report : Algorithm → Json
algorithm_report a = record_of (
    oid_members a.algorithm
    ++ (codes "hash", optional (λ h. string (hash_word h)) (hash_signed a))
    ∷ (codes "parameters", optional parameters_report a.parameters) ∷ [])
