use Rattle.std.proofs.Common.{arith}
use Rattle.x509_lists.proofs.Passing.{none_held}
use Rattle.x509_lists.proofs.entries_iter.EntriesIterIterator.next.Goals as goal

pub returns-then-is_empty-clause-steps : goal.returns-then-is_empty-clause-steps
returns-then-is_empty-clause-steps c = let none = none_held c.args.self.now.left.bytes.now (grind (arith, c.is_empty.ensures, c.if-is_empty.true)) in (none, none)
