use Rattle.std.proofs.Common.{rules, [], codes, refl, ◌∙◌, ap, sym}
use Rattle.std.specs.List.{join_by}
use Rattle.x509_fields.specs.Texts.{set_names}
use Rattle.x509_fields.proofs.Naming.{separator_behind, set_names-skip, text-one, separator-one, shifted_more, written, same_text}
use Rattle.x509_fields.proofs.flag_names.write_names.Goals.{then-rest-eq1+in_ok-write_str+in_ok-write_str-2, else-rest-eq1}
use Rattle.x509_fields.proofs.flag_names.write_names.Goals as goal

pub loop-name-init : goal.loop-name-init
unfolding set_names
loop-name-init g c = search rules

pub loop-name-preserved : goal.loop-name-preserved
loop-name-preserved g c =
    let i = c.loop-name.name-index in
    let names = c.args.names.now in
    let flags = c.args.flags in
    let rest = c.loop-name.rest in
    let shifted = c.loop-name.invariant.rest in
    elim c.if-rest-eq1.branch [
      | then-rest-eq1+in_ok-write_str+in_ok-write_str-2 w ↦ record {
        text = λ p.
            let before = c.loop-name.invariant.text p in
            let separated = w.in_ok-write_str.ensures.writes before.plain refl in
            let named = w.in_ok-write_str-2.ensures.writes separated.plain refl in
            written _ _ _ _ _ _ _ _ _ _ _ before separated named c.loop-name.invariant.separator (text-one (λ name. name.now) names i (record { ref_ptr = (0, 0); now = [] }) flags rest c.loop-name-test.true shifted w.if-rest-eq1.true) w.f-is;
        rest = shifted_more flags rest i shifted;
        separator = ap (λ s. s.now) w.separator-is ∙ separator-one (λ name. name.now) names i (record { ref_ptr = (0, 0); now = [] }) flags rest c.loop-name-test.true shifted w.if-rest-eq1.true;
        utf8 = search rules;
      }
      | else-rest-eq1 w ↦ record {
        text = λ p. same_text _ _ _ _ _ _ (c.loop-name.invariant.text p) (ap (join_by (λ n. n) (codes ", ")) (sym (set_names-skip (λ name. name.now) names i (record { ref_ptr = (0, 0); now = [] }) flags rest c.loop-name-test.true shifted w.if-rest-eq1.false))) w.f-is;
        rest = shifted_more flags rest i shifted;
        separator = ap (λ s. s.now) w.separator-is ∙ c.loop-name.invariant.separator ∙ ap separator_behind (sym (set_names-skip (λ name. name.now) names i (record { ref_ptr = (0, 0); now = [] }) flags rest c.loop-name-test.true shifted w.if-rest-eq1.false));
        utf8 = search rules;
      }
    ]
