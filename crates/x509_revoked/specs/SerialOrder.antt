-- The order of the entries of a list by their serials, where they stand in their octets (RFC 5280, 5.1.2.6).
use Rattle.std.specs.Prelude.{ℕ, List, Ok, Err, drop}
use Rattle.std.specs.Int.Digits.{number_from_digits}
use Rattle.std.specs.Ordering.{nat_cmp, on, then_cmp}
use Rattle.std.specs.declared.cmp.Ordering.{Ordering}
use Rattle.x509_der.specs.declared.error.Err.{Err as Refusal}
use Rattle.x509_der.specs.Plan.{Outcome}
use Rattle.x509_fields.specs.declared.error.X509Error.{X509Error}
use Rattle.x509_fields.specs.Fields.{sequence}
use Rattle.x509_fields.specs.Serial.{serial}

abbrev pub number_read : Outcome (Refusal X509Error) (List ℕ) → ℕ
number_read (Ok x) = number_from_digits 256 x.1
number_read (Err e) = 0

-- the serial that stands first in the SEQUENCE at the front of the octets, as an unsigned number; 0 where none does
abbrev pub serial_number : List ℕ → ℕ
serial_number octets = number_read ((sequence serial).read octets)

-- that at an offset
abbrev pub number_at_offset : List ℕ → ℕ → ℕ
number_at_offset octets offset = serial_number (drop offset octets)

-- by the serials as numbers, and where these are equal, by the offsets
abbrev pub by_serial : List ℕ → ℕ → ℕ → Ordering
by_serial octets = then_cmp (on (number_at_offset octets) nat_cmp) nat_cmp
