use Rattle.std.proofs.Common.{rules}
use Rattle.x509_der.proofs.Marking.{marks_of_readers}
use Rattle.der_example.specs.Notice.{notice}
use Rattle.der_example.proofs.notice.NoticeFromDerBerError.read_at.Goals as goal

pub returns-in_err-limit-clause-reads : goal.returns-in_err-limit-clause-reads
unfolding notice
returns-in_err-limit-clause-reads g c = record {
  reads = search (rules, marks_of_readers);
  marks = search rules;
  grows = search rules;
  count = search rules;
  foreign = search rules;
  least = search rules;
  there = search rules;
}

pub returns-clause-reads : goal.returns-clause-reads
unfolding notice
returns-clause-reads g c = record {
  reads = search (rules, marks_of_readers);
  marks = search (rules, marks_of_readers);
  grows = search rules;
  count = search rules;
  foreign = search rules;
  least = search rules;
  there = search rules;
}
