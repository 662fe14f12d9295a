use Rattle.std.proofs.Common.{◌≡◌, ◌≤◌, ◌+◌, ◌*◌, ◌&&◌, ℕ, List, length}
use Rattle.std.specs.List.{sum_by}
use Rattle.x509_der.specs.Plan.{members, marks_of_members}
use Rattle.x509_der.specs.Laws.{IsBytes}
use Rattle.x509_der.specs.Reading.{AddsAtLeast}
use Rattle.x509_der.proofs.RunLoop.{with_front}
use Rattle.x509_values.specs.ExtendedKeyUsage.{AreBehindFirst, key_purpose, usages_in, usages_of}
use Rattle.x509_values.proofs.extended_key_usage.read_purposes.Given as goal

abbrev pub invariant-loop-after : goal.invariant-loop-after
invariant-loop-after l = record {
  ids : List (List ℕ);
  says : usages_of l.usage ≡ usages_in ids;
  seen : AreBehindFirst l.usage.other l.seen;
  bytes : IsBytes l.rest;
  run : with_front ids (members key_purpose l.rest) ≡ members key_purpose l.i;
  marks : (l.plain && marks_of_members key_purpose l.rest) ≡ marks_of_members key_purpose l.i;
  grows : l.fn.tries ≤ l.tries;
  count : l.tries + 8 * length l.rest ≤ l.fn.tries + 8 * length l.i;
  least : AddsAtLeast (sum_by (λ id. 1) ids) l.fn.tries l.tries;
}

abbrev pub decreases-loop-after : goal.decreases-loop-after
decreases-loop-after l = length l.rest
