use Rattle.std.proofs.Common.{rules}
use Rattle.std.proofs.Math.Bool.{and_assoc}
use Rattle.x509_der.proofs.Marking.{marks_of_readers}
use Rattle.x509_certs.specs.TbsCertificate.{tbs}
use Rattle.x509_certs.specs.UniqueIdentifier.{issuer_uid_plain, subject_uid_plain}
use Rattle.x509_certs.proofs.tbs_reader.TbsReaderReaderX509ErrorTbsCertificate.read_at.Goals as goal

pub returns-3-clause-reads : goal.returns-3-clause-reads
unfolding tbs
returns-3-clause-reads g c = record {
  reads = search (rules, marks_of_readers);
  marks = search (rules, marks_of_readers, issuer_uid_plain, subject_uid_plain, and_assoc);
  grows = search rules;
  count = search rules;
  foreign = search rules;
  least = search rules;
  there = search rules;
}

pub returns-2-clause-reads : goal.returns-2-clause-reads
unfolding tbs
returns-2-clause-reads g c = record {
  reads = search (rules, marks_of_readers);
  marks = search (rules, marks_of_readers);
  grows = search rules;
  count = search rules;
  foreign = search rules;
  least = search rules;
  there = search rules;
}
