use Rattle.std.proofs.Common.{rules}
use Rattle.std.proofs.Math.Bool.{and_assoc}
use Rattle.x509_der.proofs.Marking.{marks_of_readers}
use Rattle.x509_requests.specs.RequestInfo.{request_info}
use Rattle.x509_requests.proofs.request_info.X509CertificationRequestInfoFromDerX509Error.read_at.Goals as goal

pub returns-2-clause-reads : goal.returns-2-clause-reads
unfolding request_info
returns-2-clause-reads g c = record {
  reads = search (rules, marks_of_readers);
  marks = search (rules, marks_of_readers, and_assoc);
  grows = search rules;
  count = search rules;
  foreign = search rules;
  least = search rules;
  there = search rules;
}
