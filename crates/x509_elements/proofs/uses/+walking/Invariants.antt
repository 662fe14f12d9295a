-- What was found so far and what is used from here on is all that is used among the members.
use Rattle.std.proofs.Common.{◌≡◌, ◌+◌, ◌-◌, ◌*◌, ◌++◌, ◌≤◌, length}
use Rattle.x509_elements.specs.Cursors.{standing_of}
use Rattle.x509_elements.specs.Uses.{among, members, within}
use Rattle.x509_elements.proofs.uses.+walking.Given as goal

abbrev pub decreases-look_inside : goal.decreases-look_inside
decreases-look_inside l = l.depth * 3

abbrev pub decreases-tell : goal.decreases-tell
decreases-tell l = l.depth * 3 + 1

abbrev pub decreases-look_at_members : goal.decreases-look_at_members
decreases-look_at_members l = l.depth * 3 + 2

abbrev pub invariant-look_at_members-loop : goal.invariant-look_at_members-loop
invariant-look_at_members-loop l =
    (l.uses.items ++ members (within l.fn.depth l.fn.part) (l.end - l.counter) (standing_of l.cursor) (record { part = l.fn.part; octets = l.fn.place }) l.next l.left
    ≡ l.fn.uses.items ++ among l.fn.depth l.fn.part l.fn.place l.fn.at l.fn.members)
    × (l.next + length l.left ≤ l.fn.at + length l.fn.members)
    × ((standing_of l.cursor).number ≡ l.counter)
