use Rattle.std.proofs.Common.{◌==◌, ◌&&◌, codes, [], refl, ap, sym, ◌∙◌, length}
use Rattle.std.specs.Option.{option_copied}
use Rattle.std.proofs.lemmas.List.{at_drop_all, length-map}
use Rattle.x509_names.specs.Names.{attribute_of, relative_name_of}
use Rattle.x509_names.specs.NameTexts.{called_by, lossy_relative_name_text}
use Rattle.x509_names.proofs.Joins.{joining_all, none_joined, one_joined, all_joined, relative_name_empty}
use Rattle.x509_names.proofs.name_text.write_name.Goals as goal

pub loop-relative-init : goal.loop-relative-init
loop-relative-init g c = λ plain.
    none_joined _ _ _ _ _ _ _ plain
    (rw c.as_slice-relative-items.ensures (joining_all (lossy_relative_name_text (called_by (option_copied c.args.registry))) relative_name_of (codes ", ") [] c.args.name.now.rdn_seq))

pub loop-relative-preserved : goal.loop-relative-preserved
loop-relative-preserved g c = λ plain.
    let so_far = c.loop-relative.nothing_yet in
    one_joined _ _ _ _ _ _ _ _ _ _ _ (λ attributes. length attributes == 0) _ _ _ _ c.loop-relative-test.true c.relative-item.is (c.loop-relative.invariant plain)
    (λ p. c.in_ok-write_separator.ensures p refl)
    c.in_ok-write_relative_name.ensures
    (relative_name_empty (called_by (option_copied c.args.registry)))
    (ap (λ n. so_far && n == 0) (length-map c.relative-item.result.set attribute_of ∙ ap length (sym c.as_slice.ensures)) ∙ ap (λ b. so_far && b) (sym c.is_empty-nothing_yet.ensures))

pub returns : goal.returns
returns g c = λ plain ok.
    all_joined _ _ _ _ _ _ _ _ (rw (at_drop_all (λ xs. xs) c.as_slice-relative-items.result.now c.loop-relative.relative-index c.loop-relative-test.false) at (c.loop-relative.invariant plain))
