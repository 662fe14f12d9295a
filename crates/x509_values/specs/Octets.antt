-- Octets, numbers and strings of octets as TLS presents them (RFC 5246, section 4): no headers, big-endian, each of a length that its place tells or that stands before it.
use Rattle.std.specs.Prelude.{◌≡◌, ℕ, ◌<◌, true, List, ◌++◌, length, take, drop, Err, nat_lt, if◌then◌else◌}
use Rattle.std.specs.Int.Digits.{number_from_digits}
use Rattle.x509_der.specs.declared.error.Err.TheVariants as refusals
use Rattle.x509_der.specs.Leaves.{BerPlan}
use Rattle.x509_der.specs.Plan.{got, ◌>>=◌, give, stop_here}

-- so many octets
unfoldable pub fixed : ℕ → BerPlan (List ℕ)
fixed n = record {
  Is = λ place octets next. (length octets ≡ n) × (place ≡ octets ++ next);
  Plain = λ place octets next. (length octets ≡ n) × (place ≡ octets ++ next);
  Refuses = λ place r left. (length place < n) × (refusals.Incomplete ≡ r) × (length place ≡ left);
  read = λ place. if nat_lt (length place) n then Err refusals.Incomplete else got (take n place) (drop n place);
  marks = λ place. true;
  stop = λ more. stop_here more;
}

-- a number in so many octets, the most significant first: uint8, uint16, uint64 (RFC 5246, 4.4)
unfoldable pub number_of : ℕ → BerPlan ℕ
number_of n = do
  octets ← fixed n
  give (number_from_digits 256 octets)

-- opaque <0..2^16-1> (RFC 5246, 4.3): a length in two octets, and so many octets
unfoldable pub sized : BerPlan (List ℕ)
sized = do
  n ← number_of 2
  fixed n
