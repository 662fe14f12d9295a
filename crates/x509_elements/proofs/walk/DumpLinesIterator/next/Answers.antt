-- The innermost element lies in the octets.
use Rattle.std.proofs.Common.{◌≤◌, length, reverse, rules}
use Rattle.x509_elements.proofs.Walking.{nested_within}
use Rattle.x509_elements.proofs.walk.DumpLinesIterator.next.Goals as goal

pub slice_bounds-front_element-end : goal.slice_bounds-front_element-end
slice_bounds-front_element-end c =
    let s = c.leave.new.self in
    let within : s.innermost.end ≤ length s.octets.now = nested_within s.innermost.end (reverse s.outer.items) (length s.octets.now) s.nested.2 in
    search (rules, within)
