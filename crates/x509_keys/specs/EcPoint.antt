-- ECPoint ::= OCTET STRING (RFC 5480, 2.2): 04, x and y uncompressed; 02 or 03 and x compressed (SEC 1, 2.3.3).
use Rattle.std.specs.Prelude.{ℕ, ◌/◌, ◌==◌, ◌||◌, List, [], ◌∷◌, length, if◌then◌else◌}
use Rattle.x509_keys.specs.declared.ec_point.ECPoint.{ECPoint}
use Rattle.x509_keys.specs.Sizes.{bits_in}

-- the octets of the point
abbrev pub point_bytes : ECPoint → List ℕ
point_bytes p = p.bytes.now

-- the bits of one coordinate, by the first octet; none where the octets have neither form
abbrev pub point_size : List ℕ → ℕ
point_size [] = 0
point_size (form ∷ coordinates) =
    if form == 4 then bits_in (length coordinates) / 2
    else if form == 2 || form == 3 then bits_in (length coordinates)
    else 0
