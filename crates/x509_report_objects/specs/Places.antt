-- The front of a line: where an object was found, and its octets.
use Rattle.std.specs.Prelude.{ℕ, List, [], ◌∷◌, codes, Bool, Option, length}
use Rattle.json.specs.Json.{Json, string}
use Rattle.x509_report_lines.specs.Says.{count, optional}
use Rattle.x509_report_objects.specs.Octets.{fingerprint}

-- where an object was found: in which file, the how manyth in it, at which octet, under which label
pub record Found : Type 0 where
  pub file : List ℕ
  pub index : ℕ
  pub offset : ℕ
  pub label : Option (List ℕ)

-- which kinds are tried, whether only plain objects are taken, and whether fingerprints are told
pub record Wishes : Type 0 where
  pub certificates : Bool
  pub lists : Bool
  pub requests : Bool
  pub strict : Bool
  pub fingerprints : Bool

-- 1 is the number of this shape
abbrev pub place_members : List ℕ → Found → List (List ℕ × Json)
place_members kind p =
    (codes "report", count 1) ∷
    (codes "kind", string kind) ∷
    (codes "file", string p.file) ∷
    (codes "index", count p.index) ∷
    (codes "offset", count p.offset) ∷ []

abbrev pub octets_members : Bool → Found → List ℕ → List (List ℕ × Json)
octets_members fingerprints p octets =
    (codes "label", optional (λ s. string s) p.label) ∷
    (codes "length", count (length octets)) ∷
    (codes "sha256", fingerprint fingerprints octets) ∷ []
