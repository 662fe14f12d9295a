use Rattle.std.proofs.Common.{rules}
use Rattle.x509_der.proofs.Marking.{marks_of_readers}
use Rattle.x509_general_names.specs.NameConstraints.{name_constraints}
use Rattle.x509_general_names.proofs.name_constraints.NameConstraintsFromDerX509Error.read_at.Goals as goal

pub returns-clause-reads : goal.returns-clause-reads
unfolding name_constraints
returns-clause-reads g c = record {
  reads = search (rules, marks_of_readers);
  marks = search (rules, marks_of_readers);
  grows = search rules;
  count = search rules;
  foreign = search rules;
  least = search rules;
  there = search rules;
}
