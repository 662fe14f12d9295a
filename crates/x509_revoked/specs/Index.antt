-- What the index of a list answers, and in how many comparisons.
use Rattle.std.specs.Prelude.{◌≡◌, ℕ, List, Option, map, length}
use Rattle.std.specs.Int.Digits.{digits_of}
use Rattle.std.specs.List.Sorted.{IsPermutation}
use Rattle.x509_lists.specs.FindRevoked.{first_of}
use Rattle.x509_revoked.specs.Entries.{indexed, indexed_from, position_in}
use Rattle.x509_revoked.specs.declared.index.RevocationIndex.{RevocationIndex}

-- how many entries an index has
abbrev pub size : RevocationIndex → ℕ
size index = length index.entries.items

-- what it answers for a serial
abbrev pub answer : RevocationIndex → ℕ → Option ℕ
answer index number = position_in (map indexed index.entries.items) number

-- It is the index of a list whose entries have these serials: each of them stands in it once, with its position, and for each
-- serial it answers the least position, or none.
pub record IsIndexOf (numbers : List ℕ) (index : RevocationIndex) : Type 0 where
  pub count : size index ≡ length numbers
  pub entries : IsPermutation (indexed_from 0 numbers) (map indexed index.entries.items)
  pub answers : (number : ℕ) → answer index number ≡ first_of numbers number

-- how many binary digits a number has; 0 has none
abbrev pub binary_digits : ℕ → ℕ
binary_digits n = length (digits_of 2 n)
