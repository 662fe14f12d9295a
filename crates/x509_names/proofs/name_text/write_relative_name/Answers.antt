use Rattle.std.proofs.Common.{codes, [], false, refl}
use Rattle.std.proofs.lemmas.List.{at_drop_all}
use Rattle.std.specs.Option.{option_copied}
use Rattle.x509_names.specs.Names.{attribute_of}
use Rattle.x509_names.specs.NameTexts.{called_by, lossy_attribute_text}
use Rattle.x509_names.proofs.Joins.{joining_all, none_joined, one_joined, all_joined, and_false, attribute_not_empty}
use Rattle.x509_names.proofs.name_text.write_relative_name.Goals as goal

pub loop-attribute-init : goal.loop-attribute-init
loop-attribute-init g c = λ plain.
    none_joined _ _ _ _ _ _ _ plain
    (rw c.as_slice-attribute-items.ensures (joining_all (lossy_attribute_text (called_by (option_copied c.args.registry))) attribute_of (codes " + ") [] c.args.name.now.set))

pub loop-attribute-preserved : goal.loop-attribute-preserved
loop-attribute-preserved g c = λ plain.
    one_joined _ _ _ _ _ _ _ _ _ _ _ (λ _. false) _ _ _ _ c.loop-attribute-test.true refl (c.loop-attribute.invariant plain)
    (λ p. c.in_ok-write_separator.ensures p refl)
    c.in_ok-write_attribute.ensures
    (attribute_not_empty (called_by (option_copied c.args.registry)))
    (and_false _)

pub returns : goal.returns
returns g c = λ plain ok.
    all_joined _ _ _ _ _ _ _ _ (rw (at_drop_all (λ xs. xs) c.as_slice-attribute-items.result.now c.loop-attribute.attribute-index c.loop-attribute-test.false) at (c.loop-attribute.invariant plain))
