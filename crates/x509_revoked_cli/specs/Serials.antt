-- Serials as words in hex.
use Rattle.std.specs.Prelude.{◌≡◌, ℕ, List, [], ◌∷◌, ◌==◌, ◌%◌, not, cond, Option, Some, None, Result, Ok, Err, filter, map, length}
use Rattle.std.specs.Int.Digits.{number_from_digits}
use Rattle.hex.specs.Hex.{decode_of}
use Rattle.hex.specs.declared.FromHexError.{FromHexError}
use Rattle.x509_revoked_cli.specs.declared.serials.Serial.{Serial}

-- an even number of digits: a zero in front of an odd number
abbrev pub even_digits : List ℕ → List ℕ
even_digits digits = cond (length digits % 2 == 1) (0x30 ∷ digits) digits

-- a word without its colons
abbrev pub digits_in : List ℕ → List ℕ
digits_in word = even_digits (filter (λ octet. not (octet == 0x3a)) word)

abbrev pub number_decoded : Result (List ℕ) FromHexError → Option ℕ
number_decoded (Ok octets) = Some (number_from_digits 256 octets)
number_decoded (Err e) = None

abbrev pub number_in : List ℕ → Option ℕ
number_in [] = None
number_in (digit ∷ digits) = number_decoded (decode_of (digit ∷ digits))

-- the number that a word's hex digits write; none where it has none, or another sign
abbrev pub serial_in : List ℕ → Option ℕ
serial_in word = number_in (digits_in word)

-- the number of a serial that was read
abbrev pub number_of : Serial → ℕ
number_of serial = number_from_digits 256 serial.octets.items

-- a serial for each word, in order, with the number that the word writes
pub record AreSerialsOf (asked : List (List ℕ)) (serials : List Serial) : Type 0 where
  pub words : map (λ s. s.word.now) serials ≡ asked
  pub numbers : map (λ s. Some (number_of s)) serials ≡ map serial_in asked
