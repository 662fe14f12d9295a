-- What one look at the bytes of a place tells the readers of both forms, and the places of a window.
use Rattle.std.specs.Prelude.{◌≡◌, ℕ, zero, suc, ◌+◌, ◌*◌, ◌≤◌, ◌-◌, ◌/◌, ◌%◌, ◌^◌, ◌==◌, Bool, true, false, List, Result, Ok, Err, if◌then◌else◌}
use Rattle.x509_der.specs.declared.error.BerError.{BerError}
use Rattle.x509_der.specs.declared.error.Err.{Err as Refusal}
use Rattle.x509_der.specs.declared.error.BerError.TheVariants as kinds
use Rattle.x509_der.specs.declared.error.Err.TheVariants.{Incomplete, Error}
use Rattle.x509_der.specs.declared.header.Header.{Header}
use Rattle.x509_der.specs.declared.look.Form.{Form}
use Rattle.x509_der.specs.declared.look.Form.TheVariants.{Strict, Loose}
use Rattle.x509_der.specs.declared.look.HeaderError.{HeaderError}
use Rattle.x509_der.specs.declared.look.HeaderError.TheVariants as failures
use Rattle.x509_der.specs.declared.look.Packed.{Packed}
use Rattle.x509_der.specs.declared.look.Seen.{Seen}
use Rattle.x509_der.specs.Reading.{Reading, Element, class_in, constructed_in, element_at, invalid_length, loose, tried}

-- whether the form takes a length that stands in the fewest octets, or in more
abbrev pub takes : Form → Bool → Bool
takes Strict fewest = fewest
takes Loose fewest = true

-- the refusal of octets that are no header
abbrev pub refusal_of : HeaderError → Refusal BerError
refusal_of failures.CutShort = Incomplete
refusal_of failures.InvalidTag = Error kinds.InvalidTag
refusal_of failures.InvalidLength = Error kinds.InvalidLength

-- what reading gives where octets are no header
abbrev pub no_header : HeaderError → Reading Header
no_header why = Err (refusal_of why)

-- what octets spelled is what reading gives
abbrev pub Spelled : {X Y : Type 0} → (X → Y) → Result X HeaderError → Result Y (Refusal BerError) → Type 0
Spelled view (Ok x) read = read ≡ Ok (view x)
Spelled view (Err why) read = read ≡ Err (refusal_of why)

-- what was seen once, for a reader of this form
abbrev pub wanted : {X Y : Type 0} → (X → Y) → (X → Bool) → Form → Result X HeaderError → Result Y (Refusal BerError)
wanted view fewest form (Ok x) = if takes form (fewest x) then Ok (view x) else invalid_length
wanted view fewest form (Err why) = Err (refusal_of why)

-- the header that these octets spell
abbrev pub header_of : Seen → Header
header_of s = record { class = class_in s.octet; constructed = constructed_in s.octet; tag = s.tag; length = s.length }

-- what a look found: a header, or why none
abbrev pub found_or : Bool → Seen → HeaderError → Result Seen HeaderError
found_or true seen why = Ok seen
found_or false seen why = Err why

-- the header behind this first octet that two words pack
abbrev pub seen_in : Packed → ℕ → Seen
seen_in p octet = record { octet = octet; tag = record { 0 = p.numbers / 2 ^ 32 }; length = p.numbers % 2 ^ 32; fewest = p.size % 2 == 1 }

-- why two words pack no header
abbrev pub failure_in : Packed → HeaderError
failure_in p = if p.numbers == 0 then failures.CutShort else if p.numbers == 1 then failures.InvalidTag else failures.InvalidLength

-- ---- places

abbrev pub rest_or : List ℕ → Reading Element → List ℕ
rest_or bytes (Ok x) = x.0
rest_or bytes (Err e) = bytes

-- the bytes behind the first element, its length in any octets; where no element stands, the bytes themselves
unfoldable pub behind : List ℕ → List ℕ
behind bytes = rest_or bytes (element_at loose bytes)

abbrev pub is_some_reading : Reading Element → Bool
is_some_reading (Ok x) = true
is_some_reading (Err e) = false

-- whether an element stands first, its length in any octets
unfoldable pub is_element : List ℕ → Bool
is_element bytes = is_some_reading (element_at loose bytes)

-- the place behind this many elements of a window
abbrev pub place_at : List ℕ → ℕ → List ℕ
place_at window zero = window
place_at window (suc n) = behind (place_at window n)

-- the count after the place behind the first element was looked at too; where no element stands, nothing more is tried
abbrev pub tried_behind : ℕ → List ℕ → ℕ
tried_behind count bytes = if is_element bytes then tried count (behind bytes) else count

-- ---- tries of a reader of a place that was looked at: one less for each bound, since the look has paid

abbrev pub CountedBehind : {X F : Type 0} → ℕ → ℕ → ℕ → ℕ → Result X F → Type 0
CountedBehind left old new n (Ok x) = new + 9 + 8 * left ≤ old + 8 * n
CountedBehind left old new n (Err e) = new ≤ old + (8 * n - 8)
