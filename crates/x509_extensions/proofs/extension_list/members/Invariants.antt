use Rattle.std.proofs.Common.{◌≡◌, ◌≤◌, ◌+◌, ◌*◌, ◌&&◌, map, length, false}
use Rattle.std.specs.List.{sum_by}
use Rattle.x509_der.specs.Laws.{IsBytes}
use Rattle.x509_der.specs.Plan.{members, marks_of_members}
use Rattle.x509_der.specs.Reading.{AddsAtLeast}
use Rattle.x509_der.proofs.RunLoop.{with_front}
use Rattle.x509_extensions.specs.Extension.{extension_of, extension_heads, value_bytes, extension}
use Rattle.x509_extensions.proofs.extension_list.members.Given as goal

abbrev pub invariant-loop-alloc : goal.invariant-loop-alloc
invariant-loop-alloc g l = record {
  bytes : IsBytes l.rest;
  run : with_front (map extension_of l.list) (members (extension g.D.Depth.deep) l.rest) ≡ members (extension g.D.Depth.deep) l.i;
  marks : (l.plain && marks_of_members (extension g.D.Depth.deep) l.rest) ≡ marks_of_members (extension g.D.Depth.deep) l.i;
  grows : l.fn.tries ≤ l.tries;
  count : l.tries + 8 * length l.rest ≤ l.fn.tries + 8 * length l.i;
  least : AddsAtLeast (sum_by extension_heads (map extension_of l.list)) l.fn.tries l.tries;
  shallow : g.D.Depth.deep ≡ false → l.tries + 8 * value_bytes (map extension_of l.list) + 8 * length l.rest ≤ l.fn.tries + 8 * length l.i;
}

abbrev pub decreases-loop-alloc : goal.decreases-loop-alloc
decreases-loop-alloc g l = length l.rest
