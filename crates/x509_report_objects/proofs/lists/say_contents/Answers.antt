use Rattle.std.proofs.Common.{◌++◌, ◌∷◌, [], codes, ap, ◌∙◌}
use Rattle.json.specs.Token.{key}
use Rattle.x509_lists.specs.TbsCertList.{tbs_list_of}
use Rattle.x509_names.specs.Objects as objects
use Rattle.x509_report_lines.specs.Says.{list_of, written}
use Rattle.x509_report_objects.specs.Extensions.{extension_report}
use Rattle.x509_report_objects.specs.Lists.{first_parsed, number_report}
use Rattle.x509_report_objects.proofs.lists.say_contents.Goals as goal

pub returns : goal.returns
returns c = λ kept.
    let third = c.crl_extensions_under.ensures kept in
    let second = c.crl_number_under.ensures third.0 in
    let first = c.entry_count_under.ensures second.0 in
    let extensions = (tbs_list_of c.args.tbs.now).extensions in (
      first.0,
      third.1
          ∙ ap (λ ts. written (ts ++ key (codes "extensions") ∷ []) (list_of extension_report extensions)) (second.1
          ∙ ap (λ ts. written (ts ++ key (codes "crl_number") ∷ []) (number_report (first_parsed objects.crl_number extensions))) first.1),
    )
