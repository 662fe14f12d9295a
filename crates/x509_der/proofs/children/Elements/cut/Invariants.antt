use Rattle.std.proofs.Common.{◌-◌, ◌≡◌, ◌<◌, ◌≤◌, ◌+◌, ◌*◌, ℕ, true, get_or, min, length}
use Rattle.x509_der.specs.declared.children.Entry.{Entry}
use Rattle.x509_der.specs.Entries.{IsEntry}
use Rattle.x509_der.specs.Looks.{is_element, place_at}
use Rattle.x509_der.specs.Reading.{AddsAtLeast}
use Rattle.x509_der.specs.Place.{at}
use Rattle.x509_der.proofs.Looks.{IsSuffix}
use Rattle.x509_der.proofs.children.Elements.cut.Given as goal

abbrev pub invariant-loop-count : goal.invariant-loop-count
invariant-loop-count g l = record {
  few : l.count ≤ g.row.N;
  room : length l.entries ≡ g.row.N;
  each : (k : ℕ) (other : Entry) → k < l.count → IsEntry l.window (place_at l.window k) (get_or l.entries k other);
  elements : (k : ℕ) → k < l.count → is_element (place_at l.window k) ≡ true;
  last : at l.end ≡ place_at l.window l.count;
  suffix : IsSuffix l.window (at l.end);
  sizes : 2 * l.count + length (at l.end) ≤ length l.window;
  tries : l.tries ≤ l.fn.tries + l.count + min 1 (length (at l.end));
  grows : l.fn.tries ≤ l.tries;
  least : AddsAtLeast (l.count + min (length (at l.end)) 1) l.fn.tries l.tries;
}

abbrev pub decreases-loop-count : goal.decreases-loop-count
decreases-loop-count g l = g.row.N - l.count
