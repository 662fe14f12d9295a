-- Octets as text.
use Rattle.std.specs.Prelude.{ℕ, Bool, List, if◌then◌else◌}
use Rattle.hex.specs.Hex.{encode_lower}
use Rattle.json.specs.Json.{Json, null, string}
use Rattle.sha2.specs.Sha256.{sha256}

-- in lower-case hex
abbrev pub hex : List ℕ → Json
hex octets = string (encode_lower octets)

-- their SHA-256, where fingerprints are wanted
abbrev pub fingerprint : Bool → List ℕ → Json
fingerprint wanted octets = if wanted then hex (sha256 octets) else null
