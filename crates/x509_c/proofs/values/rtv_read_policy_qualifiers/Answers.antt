-- The qualifiers of the policies that were read, or why there are none.
use Rattle.std.proofs.Common.{◌≡◌, List, [], Option, None, Some, map, refl, true}
use Rattle.x509_der.specs.Promises.{option_view}
use Rattle.x509_values.specs.Policies.{policies, policy_of, policy_qualifier_of}
use Rattle.x509_values.specs.declared.policies.PolicyInformation.{PolicyInformation}
use Rattle.x509_values.specs.declared.policies.PolicyQualifierInfo.{PolicyQualifierInfo}
use Rattle.x509_c.specs.Options.{there_or}
use Rattle.x509_c.specs.Values.{IsPolicyQualifierRow, qualifiers}
use Rattle.x509_c.proofs.Telling.{tells_items, tells_refused}
use Rattle.x509_c.proofs.values.rtv_read_policy_qualifiers.Goals as goal

-- those in memory
qualifiers_held : (held : Option (List PolicyQualifierInfo)) → map policy_qualifier_of (there_or [] held) ≡ there_or [] (option_view (map policy_qualifier_of) held)
qualifiers_held None = refl
qualifiers_held (Some list) = refl

pub returns-in-Ok : goal.returns-in-Ok
returns-in-Ok c = tells_items true _ policies c.args.value.now IsPolicyQualifierRow (λ read. read) qualifiers policy_of policy_qualifier_of (λ (p : PolicyInformation). there_or [] p.policy_qualifiers) (λ p. qualifiers_held p.policy_qualifiers) _ _ _ _ c.args.at.now _ _ _ _ c.in-Ok.ensures c.as_slice-read.ensures refl c.tell_items.ensures

pub returns-in-Err : goal.returns-in-Err
returns-in-Err c = tells_refused true _ policies c.args.value.now _ _ c.in-Err.refusal c.args.at.now _ _ c.in-Err.ensures (refl, refl) c.refused.ensures.at c.refused.ensures.status
