use Rattle.std.proofs.Common.{rules, tests, ◌∙◌}
use Rattle.std.proofs.lemmas.Iterator.{YieldsList-from_slice}
use Rattle.std.proofs.lemmas.Iterator.Search.{any_from_yields_List}
use Rattle.x509_general_names.specs.GeneralName.{general_name_of}
use Rattle.x509_general_names.specs.declared.general_name.GeneralName.{GeneralName}
use Rattle.x509_lists.specs.EntryIssuers.{is_name}
use Rattle.x509_lists.proofs.Issuers.{any_name}
use Rattle.x509_lists.proofs.find_for.are_of.Goals as goal

pub returns : goal.returns
returns c =
    any_from_yields_List (λ (n : GeneralName). is_name c.args.issuer.now (general_name_of n)) _ _ c.any.result c.any.ensures.ran (YieldsList-from_slice c.args.names.now (search rules)) (λ x b q k. search (rules, tests))
    ∙ any_name c.args.issuer.now c.args.names.now
