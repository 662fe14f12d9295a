-- Serials with the positions of their entries, in order of the serials.
use Rattle.std.specs.Prelude.{ℕ, ◌<◌, ◌≤◌, ◌+◌, List, [], ◌∷◌, Option, Some, None, length, cond, ◌==◌, slice_index_or}
use Rattle.x509_der.specs.Unsigned.{unsigned_number}
use Rattle.x509_revoked.specs.declared.entry.Entry.{Entry}
use Rattle.x509_revoked.specs.declared.headed_serial.HeadedSerial.{HeadedSerial}

-- the serial as a number
abbrev pub number_of : HeadedSerial → ℕ
number_of serial = unsigned_number serial.serial

-- a serial as a number, and where its entry stands: its position on the list, or the offset at which it begins
pub record Indexed : Type 0 where
  pub number : ℕ
  pub position : ℕ

abbrev pub indexed : Entry → Indexed
indexed e = record { number = number_of e.serial; position = e.position }

-- the numbers with their positions, from this one on
abbrev pub indexed_from : ℕ → List ℕ → List Indexed
indexed_from k [] = []
indexed_from k (n ∷ ns) = record { number = n; position = k } ∷ indexed_from (k + 1) ns

-- the position that stands first with the number
abbrev pub position_in : List Indexed → ℕ → Option ℕ
position_in [] number = None
position_in (x ∷ xs) number = cond (x.number == number) (Some x.position) (position_in xs number)

abbrev pub number_at : List Indexed → ℕ → ℕ
number_at xs k = let x = slice_index_or xs k (record { number = 0; position = 0 }) in x.number

abbrev pub position_at : List Indexed → ℕ → ℕ
position_at xs k = let x = slice_index_or xs k (record { number = 0; position = 0 }) in x.position

-- the numbers don't fall
abbrev pub AreInOrder : List Indexed → Type 0
AreInOrder xs = (i j : ℕ) → i ≤ j → j < length xs → number_at xs i ≤ number_at xs j
