use Rattle.std.proofs.Common.{rules}
use Rattle.x509_der.proofs.Steps.{marks_of_fields}
use Rattle.x509_general_names.specs.DistributionPoints.{crl_distribution_point}
use Rattle.x509_general_names.proofs.distribution_points.CRLDistributionPointFromDerX509Error.read_at.Goals as goal

pub returns-clause-reads : goal.returns-clause-reads
unfolding crl_distribution_point
returns-clause-reads g c = record {
  reads = search (rules, marks_of_fields);
  marks = search (rules, marks_of_fields);
  grows = search rules;
  count = search rules;
  foreign = search rules;
  least = search rules;
  there = search rules;
}

pub returns-2-clause-reads : goal.returns-2-clause-reads
unfolding crl_distribution_point
returns-2-clause-reads g c = record {
  reads = search (rules, marks_of_fields);
  marks = search (rules, marks_of_fields);
  grows = search rules;
  count = search rules;
  foreign = search rules;
  least = search rules;
  there = search rules;
}
