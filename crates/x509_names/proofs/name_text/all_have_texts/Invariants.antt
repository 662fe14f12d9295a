use Rattle.std.proofs.Common.{◌≡◌, drop, map}
use Rattle.std.specs.List.{list_all}
use Rattle.x509_names.specs.Names.{relative_name_of}
use Rattle.x509_names.specs.NameTexts.{have_texts}
use Rattle.x509_names.proofs.name_text.all_have_texts.Given as goal

abbrev pub invariant-loop-relative : goal.invariant-loop-relative
invariant-loop-relative l =
    list_all have_texts (map relative_name_of (drop l.relative-index l.relative-items)) ≡ list_all have_texts (map relative_name_of l.relative-items)
