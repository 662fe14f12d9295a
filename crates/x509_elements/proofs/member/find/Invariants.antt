-- What is looked for among all members is looked for among those that are left.
use Rattle.std.proofs.Common.{◌≡◌, ◌-◌, length}
use Rattle.x509_elements.specs.Cursors.{first_of, standing_of}
use Rattle.x509_elements.specs.Paths.{find_in, find_member}
use Rattle.x509_elements.proofs.member.find.Given as goal

abbrev pub invariant-loop : goal.invariant-loop
invariant-loop l = record {
  found : find_member (length l.members - l.counter) (standing_of l.cursor) l.window l.at ≡ find_in (first_of l.fn.part) l.members l.octet;
  number : (standing_of l.cursor).number ≡ l.counter;
}
