-- Object identifiers: arcs, their text (RFC 4512, section 1.4) and their octets (X.690, section 8.19).
use Rattle.std.specs.Prelude.{◌≡◌, ◌<◌, ◌≤◌, ◌+◌, ◌-◌, ◌*◌, ◌/◌, ◌%◌, ◌^◌, ℕ, List, [], ◌∷◌, ◌++◌, map, flat_map, nat_lt, if◌then◌else◌}
use Rattle.std.specs.Int.Digits.{digits_of}
use Rattle.std.specs.List.{All}
use Rattle.x509_der.specs.Oid.{dotted}

-- ---- arcs

-- the greatest second arc: 39 under 0 and 1 (8.19.4), and under 2 as much as leaves 80 + Y within 64 bits, which is what is held here
abbrev pub most_second : ℕ → ℕ
most_second x = if nat_lt x 2 then 39 else 2 ^ 64 - 1 - 80

-- the arcs of an identifier: two or more, of which the first is 0, 1 or 2 (8.19.4), and each behind the second is within 64 bits
abbrev pub AreArcs : List ℕ → Type 0
AreArcs (x ∷ y ∷ arcs) = (x ≤ 2) × (y ≤ most_second x) × All (λ n. n < 2 ^ 64) arcs
AreArcs _ = ⊥

-- ---- octets

-- the digits of n in base 128, the most significant first, with bit 8 set in each; 0 has none
abbrev pub leading_octets : ℕ → List ℕ
leading_octets n = map (λ d. 0x80 + d) (digits_of 128 n)

-- the octets of a number: its digits in base 128, the fewest that there are, with bit 8 set in each but the last (8.19.2)
abbrev pub number_octets : ℕ → List ℕ
number_octets n = leading_octets (n / 128) ++ n % 128 ∷ []

-- the numbers that stand for the arcs: 40 X + Y for the first two (8.19.4), and each arc behind them (8.19.5)
abbrev pub numbers : List ℕ → List ℕ
numbers (x ∷ y ∷ arcs) = (40 * x + y) ∷ arcs
numbers _ = []

-- the contents: the octets of these numbers, one behind the other (8.19.2)
abbrev pub encoded : List ℕ → List ℕ
encoded arcs = flat_map number_octets (numbers arcs)

-- ---- text

-- the text is the arcs of an identifier in decimal with dots between them, and these are its octets
pub record IsDottedText (text octets : List ℕ) : Type 0 where
  pub arcs : List ℕ
  pub are_arcs : AreArcs arcs
  pub text_is : text ≡ dotted arcs
  pub octets_are : octets ≡ encoded arcs
