-- The qualifiers of the policy that stands there.
use Rattle.std.proofs.Common.{◌≡◌, ◌<◌, List, length, map, get_or, ap, sym, subst, refl, inl, arith, ◌∙◌}
use Rattle.std.proofs.lemmas.List.{get_or-map, length-map}
use Rattle.x509_values.specs.Policies.{PolicyQualifierValue, PolicyValue, policy_of, policy_qualifier_of}
use Rattle.x509_c.specs.Values.{IsQualifierRow, ShowsQualifiers, qualifiers}
use Rattle.x509_c.specs.Rows.{RowsShow}
use Rattle.x509_c.proofs.values.find_qualifiers.Goals as goal

pub returns : goal.returns
returns c =
    let policies = c.args.policies.now in
    let k = c.args.position in
    let policy = c.index-policies-position.result in
    let within : k < length policies = omega (arith, c.if-position-policies.false) in
    let there : (none : PolicyValue) → qualifiers (get_or (map policy_of policies) k none) ≡ map policy_qualifier_of c.qualifiers_of-qualifiers.result.now
    = λ none. ap qualifiers (get_or-map policy_of policies k policy none within ∙ ap policy_of (sym c.index-policies-position.is)) ∙ sym c.qualifiers_of-qualifiers.ensures.shown in
    let shown : ShowsQualifiers (map policy_of policies) k c.put_rows.new.rows (length c.qualifiers_of-qualifiers.result.now) = record {
      within = omega (arith, within, length-map policies policy_of);
      count = λ none. sym (length-map c.qualifiers_of-qualifiers.result.now policy_qualifier_of) ∙ ap (λ (xs : List PolicyQualifierValue). length xs) (sym (there none));
      rows = λ none. subst (λ (xs : List PolicyQualifierValue). RowsShow IsQualifierRow c.put_rows.new.rows xs) (sym (there none)) c.put_rows.ensures;
    } in
    record { found = inl (refl, shown); kept = λ other. absurd (other refl) }
