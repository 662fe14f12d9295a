-- The qualifiers of a policy that was read, or why there are none.
use Rattle.std.proofs.Common.{List, map, subst, refl, true}
use Rattle.x509_values.specs.declared.policies.PolicyInformation.{PolicyInformation}
use Rattle.x509_values.specs.Policies.{policies, policy_of}
use Rattle.x509_c.specs.Values.{FindsQualifiers}
use Rattle.x509_c.proofs.Telling.{tells_looked, tells_refused}
use Rattle.x509_c.proofs.values.rtv_read_qualifiers.Goals as goal

pub returns-in-Ok : goal.returns-in-Ok
returns-in-Ok c =
    let found = subst (λ (xs : List PolicyInformation). FindsQualifiers (map policy_of xs) c.args.position c.find_qualifiers.new.rows c.find_qualifiers.new.count c.find_qualifiers.result) c.as_slice.ensures c.find_qualifiers.ensures.found in
    tells_looked true _ policies c.args.value.now _ _ _ c.args.at.now _ c.in-Ok.ensures found c.find_qualifiers.ensures.kept

pub returns-in-Err : goal.returns-in-Err
returns-in-Err c = tells_refused true _ policies c.args.value.now _ _ c.in-Err.refusal c.args.at.now _ _ c.in-Err.ensures (refl, refl) c.refused.ensures.at c.refused.ensures.status
