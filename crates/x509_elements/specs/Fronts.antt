-- The element at the front of a window: its header, what it is called, and which octets its line holds.
use Rattle.std.specs.Prelude.{ℕ, suc, ◌+◌, ◌-◌, ◌==◌, ◌&&◌, ◌||◌, min, Bool, List, length, take, codes, Result, Ok, Err, if◌then◌else◌}
use Rattle.std.specs.Str.{bytes_eq}
use Rattle.x509_der.specs.declared.error.BerError.{BerError}
use Rattle.x509_der.specs.declared.error.Err.{Err as Refusal}
use Rattle.x509_der.specs.declared.header.Header.{Header}
use Rattle.x509_der.specs.Primitives.{is_universal}
use Rattle.x509_der.specs.Reading.{Reading, header_at, loose}
use Rattle.x509_elements.specs.declared.front.Front.{Front as RustFront}
use Rattle.x509_elements.specs.Cursors.{Called, Standing, Step, called_of, standing_of, stepped}
use Rattle.x509_elements.specs.Seen.{holds_sequence, is_one}

-- ---- what holds elements

-- an OCTET STRING that is the value of an extension (RFC 5280, 4.1)
abbrev pub is_value : List ℕ → Header → Bool
is_value name h = is_universal h.class && h.tag.0 == 4 && bytes_eq name (codes "extnValue")

-- a BIT STRING that is a key (RFC 5280, 4.1.2.7) or a signature (RFC 5280, 4.1.1.3 and 5.1.1.3; RFC 2986, 4.2)
abbrev pub is_bits : List ℕ → Header → Bool
is_bits name h =
    is_universal h.class && h.tag.0 == 3
    && (bytes_eq name (codes "subjectPublicKey") || bytes_eq name (codes "signatureValue") || bytes_eq name (codes "signature"))

-- how many octets of the contents the line of an element holds: none where they are elements (X.690, 8.1.2.5), as those of an extension's
-- value are; of a key or a signature that is a SEQUENCE the one that says how many bits are unused; else all
abbrev pub own_in : List ℕ → Header → List ℕ → ℕ
own_in name h contents =
    if h.constructed then 0
    else if is_value name h && is_one contents then 0
    else if is_bits name h && holds_sequence contents then 1
    else length contents

-- ---- the element at the front

-- its header, how many octets that has, how many octets of its contents are there, what it is called, where reading stands behind it, and
-- how many octets its line holds
pub record Front : Type 0 where
  pub header : Header
  pub size : ℕ
  pub there : ℕ
  pub called : Called
  pub next : Standing
  pub own : ℕ

abbrev pub front_of : RustFront → Front
front_of f = record { header = f.header; size = f.size; there = f.there; called = called_of f.called; next = standing_of f.next; own = f.own }

abbrev pub Fronts : Type 0
Fronts = Result Front (Refusal BerError)

-- what was read of so many octets: one of them at least
abbrev pub size_of : ℕ → ℕ → ℕ
size_of whole rest = suc (whole - suc rest)

abbrev pub there_of : ℕ → ℕ → Header → ℕ
there_of whole size h = min (whole - size) h.length

-- a header, the octets behind it, and what it is called
abbrev pub front_with : ℕ → ℕ → Header → List ℕ → Step → Front
front_with whole size h rest step = record {
  header = h;
  size = size;
  there = there_of whole size h;
  called = step.0;
  next = step.1;
  own = size + own_in step.0.name h (take (there_of whole size h) rest);
}

abbrev pub front_by : Standing → ℕ → Reading Header → Fronts
front_by s whole (Ok x) =
    let size = size_of whole (length x.0) in
    Ok (front_with whole size x.1 x.0 (stepped s x.1 (take (there_of whole size x.1) x.0)))
front_by s whole (Err e) = Err e

unfoldable pub front_at : Standing → List ℕ → Fronts
front_at s window = front_by s (length window) (header_at loose window)
