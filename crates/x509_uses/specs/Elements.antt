-- What is read of elements that no type describes.
use Rattle.std.specs.Prelude.{◌≡◌, ℕ, nat_eq, List, length, map, min, take}
use Rattle.x509_der.specs.declared.child.Stop.{Stop}
use Rattle.x509_der.specs.declared.header.Header.{Header}
use Rattle.x509_der.specs.Children.{IsStop}
use Rattle.x509_der.specs.Cut.{IsBehind}
use Rattle.x509_der.specs.Leaves.{BerPlan, sequence, oid}
use Rattle.x509_der.specs.Plan.{container}
use Rattle.x509_der.specs.Reading.{Element}

-- SEQUENCE { id OBJECT IDENTIFIER, .. }: the identifier; what stands behind it is skipped
abbrev pub identified : BerPlan (List ℕ)
identified = container sequence oid

-- The members of a container, of which the first twelve are listed: their headers in order, and why no more are, at the place behind them.
pub record IsOutline (contents : List ℕ) (members : List Element) (headers : List Header) (stop : Stop) : Type 0 where
  pub listed : headers ≡ map (λ e. e.header) (take 12 members)
  pub place : List ℕ
  pub behind : IsBehind contents members (min (length members) 12) place
  pub stops : IsStop (nat_eq (min (length members) 12) 12) place stop
