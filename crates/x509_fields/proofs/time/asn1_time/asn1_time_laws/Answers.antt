use Rattle.x509_fields.proofs.TimeElements.{time_in_spells, time_sentences}
use Rattle.x509_fields.proofs.time.asn1_time.asn1_time_laws.Goals as goal

pub returns-clause-contents : goal.returns-clause-contents
returns-clause-contents c = time_in_spells

pub returns-clause-sentences : goal.returns-clause-sentences
returns-clause-sentences c = time_sentences
