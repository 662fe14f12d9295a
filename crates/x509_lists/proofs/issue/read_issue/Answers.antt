use Rattle.std.proofs.Common.{rules}
use Rattle.std.proofs.Math.Bool.{and_assoc}
use Rattle.x509_der.proofs.Marking.{marks_of_readers}
use Rattle.x509_lists.specs.Issue.{issue}
use Rattle.x509_lists.proofs.issue.read_issue.Goals as goal

pub returns-3 : goal.returns-3
unfolding issue
returns-3 g c = record {
  reads = search (rules, marks_of_readers);
  outer = search rules;
  marks = search (rules, marks_of_readers, and_assoc);
  grows = search rules;
  count = search rules;
  sizes = search rules;
  least = search rules;
}
