-- What is kept of an element that was cut: its header, and where it lies in its window.
use Rattle.std.specs.Prelude.{◌≡◌, ℕ, ◌≤◌, List, length, slice_index, drop, Ok}
use Rattle.x509_der.specs.declared.children.Entry.{Entry}
use Rattle.x509_der.specs.declared.look.Form.{Form}
use Rattle.x509_der.specs.declared.look.Seen.{Seen}
use Rattle.x509_der.specs.Reading.{header_at}
use Rattle.x509_der.specs.Looks.{wanted, header_of}

-- the header that is kept
abbrev pub seen_in : Entry → Seen
seen_in e = record { octet = e.octet; tag = e.tag; length = e.length; fewest = e.fewest }

-- the entry is of the element at this place of the window
abbrev pub IsEntry : List ℕ → List ℕ → Entry → Type 0
IsEntry window place e =
    (e.start ≤ length window) × (e.beyond ≤ length window) × (drop e.start window ≡ place)
    × ((form : Form) → header_at form place ≡ wanted (λ s. (drop e.beyond window, header_of s)) (λ s. s.fewest) form (Ok (seen_in e)))
    × (slice_index place 0 ≡ e.octet)
