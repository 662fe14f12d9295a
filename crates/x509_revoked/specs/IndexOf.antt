-- When offsets are the index of the entries that fill octets, and when a file is (RFC 5280, 5.1.2.6).
use Rattle.std.specs.Prelude.{◌≡◌, ℕ, List, length}
use Rattle.std.specs.List.Sorted.{IsPermutation, IsSorted}
use Rattle.x509_revoked.specs.Beginnings.{beginnings}
use Rattle.x509_revoked.specs.Entries.{Indexed}
use Rattle.x509_revoked.specs.IndexFile.{index_octets}
use Rattle.x509_revoked.specs.SerialOrder.{by_serial, number_at_offset}

-- Each place where an entry begins, once, in order of the serials as numbers, and of one serial in the list's order. (∥ ∥₁: that there is
-- such a permutation, whichever.)
pub record AreIndexOf (octets offsets : List ℕ) : Type 0 where
  pub each_once : ∥ IsPermutation (beginnings octets) offsets ∥₁
  pub in_order : IsSorted (by_serial octets) offsets

-- an offset with the serial there
abbrev pub placed : List ℕ → ℕ → Indexed
placed octets offset = record { number = number_at_offset octets offset; position = offset }

-- ---- as octets

-- a file that is the index of the entries which fill the window
abbrev pub IsFileOf : List ℕ → List ℕ → Type 0
IsFileOf window file = (offsets : List ℕ) × AreIndexOf window offsets × (file ≡ index_octets (length window) offsets)
