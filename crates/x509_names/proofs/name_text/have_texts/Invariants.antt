use Rattle.std.proofs.Common.{◌≡◌, drop, map}
use Rattle.x509_names.specs.Names.{attribute_of}
use Rattle.x509_names.specs.NameTexts.{have_texts}
use Rattle.x509_names.proofs.name_text.have_texts.Given as goal

abbrev pub invariant-loop-attribute : goal.invariant-loop-attribute
invariant-loop-attribute l =
    have_texts (map attribute_of (drop l.attribute-index l.attribute-items)) ≡ have_texts (map attribute_of l.attribute-items)
