use Rattle.std.proofs.Common.{Ok, Err, arith}
use Rattle.x509_der.specs.Promises.{is_ber_memory}
use Rattle.x509_values.specs.Timestamp.{timestamp, timestamp_laws}
use Rattle.x509_values.proofs.Fronts.{reads_front}
use Rattle.x509_values.proofs.Refusals.{timestamp_incomplete}
use Rattle.x509_values.proofs.timestamp.parse_ct_signed_certificate_timestamp.Goals as goal

pub returns-in-Ok-clause-exact : goal.returns-in-Ok-clause-exact
returns-in-Ok-clause-exact c =
    reads_front is_ber_memory timestamp timestamp_laws _ (Ok (c.in-Ok.rest, c.in-Ok.timestamp)) c.args.i.now (λ k. omega (arith, c.type_inv.i k)) c.in-Ok.ensures.reading

pub returns-in-Err-clause-exact : goal.returns-in-Err-clause-exact
returns-in-Err-clause-exact c =
    reads_front is_ber_memory timestamp timestamp_laws _ (Err c.in-Err.e) c.args.i.now (λ k. omega (arith, c.type_inv.i k)) c.in-Err.ensures.reading

pub returns-in-Err-clause-incomplete : goal.returns-in-Err-clause-incomplete
returns-in-Err-clause-incomplete c = timestamp_incomplete.refusal c.args.i.now c.in-Err.e c.in-Err.ensures.reading
