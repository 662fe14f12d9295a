use Rattle.std.proofs.Common.{Some, codes, drop}
use Rattle.std.specs.Fmt.{IsPlainFormatter}
use Rattle.std.specs.Option.{option_copied}
use Rattle.x509_names.specs.Names.{attribute_of, relative_name_of}
use Rattle.x509_names.specs.NameTexts.{called_by, lossy_attribute_text, lossy_relative_name_text}
use Rattle.x509_names.proofs.Joins.{IsJoined}
use Rattle.x509_names.proofs.name_text.write_relative_name.Given as goal

abbrev pub invariant-loop-attribute : goal.invariant-loop-attribute
invariant-loop-attribute g l =
    let called = called_by (option_copied l.registry) in
    IsPlainFormatter l.fn.f
    → IsJoined g.W.Write.write_str_gives l.fn.f l.f l.nothing_yet (λ a. Some (lossy_attribute_text called a)) attribute_of (codes " + ") (drop l.attribute-index l.attribute-items)
    (lossy_relative_name_text called (relative_name_of l.fn.name))
