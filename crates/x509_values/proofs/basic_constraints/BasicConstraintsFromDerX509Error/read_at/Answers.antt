use Rattle.std.proofs.Common.{rules}
use Rattle.x509_der.proofs.Marking.{marks_of_readers}
use Rattle.x509_values.specs.BasicConstraints.{basic_constraints, basic_constraints_fields}
use Rattle.x509_values.proofs.basic_constraints.BasicConstraintsFromDerX509Error.read_at.Goals as goal

pub returns-clause-reads : goal.returns-clause-reads
unfolding basic_constraints basic_constraints_fields
returns-clause-reads g c = record {
  reads = search (rules, marks_of_readers);
  marks = search (rules, marks_of_readers);
  grows = search rules;
  count = search rules;
  foreign = search rules;
  least = search rules;
  there = search rules;
}
