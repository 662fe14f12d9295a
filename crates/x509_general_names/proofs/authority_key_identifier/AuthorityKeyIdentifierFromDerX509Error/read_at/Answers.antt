use Rattle.std.proofs.Common.{rules}
use Rattle.x509_der.specs.Promises.{refusal_by}
use Rattle.x509_der.proofs.Steps.{marks_of_fields, soft_renamed}
use Rattle.x509_fields.specs.Errors.{as_x509}
use Rattle.x509_general_names.specs.AuthorityKeyIdentifier.{authority_key_identifier}
use Rattle.x509_general_names.proofs.authority_key_identifier.AuthorityKeyIdentifierFromDerX509Error.read_at.Goals as goal

pub returns-clause-reads : goal.returns-clause-reads
unfolding authority_key_identifier
returns-clause-reads g c =
    let first = soft_renamed (refusal_by as_x509) _ _ _ _ c.soft_implicit-fields.ensures.reads in
    let third = soft_renamed (refusal_by as_x509) _ _ _ _ c.soft_implicit-fields-2.ensures.reads in
    record {
      reads = search (rules, marks_of_fields);
      marks = search (rules, marks_of_fields, first, third);
      grows = search rules;
      count = search rules;
      foreign = search rules;
      least = search rules;
      there = search rules;
    }
