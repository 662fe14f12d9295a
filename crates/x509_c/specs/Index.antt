-- Indexes of lists as C sees them.
use Rattle.std.specs.Prelude.{◌≡◌, ℕ, ◌+◌, ◌*◌, ◌^◌, ◌<◌, ◌≤◌, List, length, take, map, Option, Some, None}
use Rattle.std.specs.Int.Digits.{number_from_digits}
use Rattle.std.specs.List.Sorted.{IsPermutation}
use Rattle.x509_lists.specs.FindRevoked.{first_of}
use Rattle.x509_revoked.specs.Entries.{Indexed, AreInOrder, indexed_from, position_in}
use Rattle.x509_c.specs.declared.index.IndexRow.{IndexRow}

-- the serial as a number, and the position
abbrev pub row_of : IndexRow → Indexed
row_of r = record { number = number_from_digits 256 r.serial.now; position = r.position }

-- the number that rows are sorted by: positions are below 2 ^ 64
abbrev pub rank : IndexRow → ℕ
rank r = number_from_digits 256 r.serial.now * 2 ^ 64 + r.position

-- The rows are the index of a list whose entries have these serials: they are in order, each entry has one row, and for each serial
-- they have the least position, or none.
pub record IsIndexOf (numbers : List ℕ) (rows : List IndexRow) : Type 0 where
  pub order : AreInOrder (map row_of rows)
  pub entries : IsPermutation (indexed_from 0 numbers) (map row_of rows)
  pub answers : (number : ℕ) → position_in (map row_of rows) number ≡ first_of numbers number

-- 0 and the position, or 50
abbrev pub IsPosition : Option ℕ → ℕ → ℕ → Type 0
IsPosition (Some k) position status = (status ≡ 0) × (position ≡ k)
IsPosition None position status = status ≡ 50

abbrev pub IsPositionOf : List ℕ → ℕ → ℕ → ℕ → Type 0
IsPositionOf numbers number = IsPosition (first_of numbers number)

-- Their count; the first rows are their index where there are as many, and else all are as they were.
pub record ShowsIndex (before rows : List IndexRow) (told : ℕ) (numbers : List ℕ) : Type 0 where
  pub count : told ≡ length numbers
  pub index : length numbers ≤ length rows → IsIndexOf numbers (take (length numbers) rows)
  pub kept : length rows < length numbers → rows ≡ before
