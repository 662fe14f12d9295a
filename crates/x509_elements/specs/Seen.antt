-- The element at the front of a window, and what stands in it.
use Rattle.std.specs.Prelude.{ℕ, ◌-◌, ◌==◌, nat_le, ◌&&◌, min, Bool, false, List, [], ◌∷◌, length, take, drop, Option, Some, None, Ok, Err}
use Rattle.x509_der.specs.declared.header.Header.{Header}
use Rattle.x509_der.specs.Reading.{Reading, header_at, loose}
use Rattle.x509_elements.specs.declared.seen.Seen.{Seen as RustSeen}

-- ---- the element at the front of a window

-- its header, how many octets that has, its contents as far as they are there, and what stands behind it
pub record Seen : Type 0 where
  pub header : Header
  pub size : ℕ
  pub contents : List ℕ
  pub behind : List ℕ

abbrev pub seen_of : RustSeen → Seen
seen_of s = record { header = s.header; size = s.size; contents = s.contents.now; behind = s.behind.now }

abbrev pub seen_by : ℕ → Reading Header → Option Seen
seen_by whole (Ok x) = Some (record {
  header = x.1;
  size = whole - length x.0;
  contents = take (min (length x.0) x.1.length) x.0;
  behind = drop (min (length x.0) x.1.length) x.0;
})
seen_by whole (Err e) = None

unfoldable pub seen : List ℕ → Option Seen
seen window = seen_by (length window) (header_at loose window)

-- its contents, of which there are none where no header stands there
abbrev pub contents_by : Option Seen → List ℕ
contents_by (Some s) = s.contents
contents_by None = []

abbrev pub front_contents : List ℕ → List ℕ
front_contents octets = contents_by (seen octets)

-- ---- octets that are an element

-- whether one element stands there, and nothing behind it
abbrev pub fills : Reading Header → Bool
fills (Ok x) = length x.0 == x.1.length
fills (Err e) = false

abbrev pub is_one : List ℕ → Bool
is_one octets = fills (header_at loose octets)

-- whether an element stands at the front, whole
abbrev pub has_all : Reading Header → Bool
has_all (Ok x) = nat_le x.1.length (length x.0)
has_all (Err e) = false

abbrev pub begins_element : List ℕ → Bool
begins_element octets = has_all (header_at loose octets)

-- the octets begin with that of a SEQUENCE (X.690, 8.9.1)
abbrev pub begins_sequence : List ℕ → Bool
begins_sequence [] = false
begins_sequence (b ∷ bs) = b == 48

-- of the contents of a BIT STRING (X.690, 8.6.2): no bit is unused, and a SEQUENCE stands behind
abbrev pub holds_sequence : List ℕ → Bool
holds_sequence [] = false
holds_sequence (unused ∷ octets) = unused == 0 && begins_sequence octets && is_one octets
