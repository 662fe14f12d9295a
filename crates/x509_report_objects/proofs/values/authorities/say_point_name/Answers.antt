use Rattle.std.proofs.Common.{◌++◌, ◌∷◌, [], codes, ap, sym, ◌∙◌}
use Rattle.json.specs.Json.{null}
use Rattle.json.specs.Token.{key}
use Rattle.x509_der.specs.Promises.{option_view}
use Rattle.x509_general_names.specs.DistributionPointName.{point_name_of}
use Rattle.x509_report_lines.specs.Says.{members_said, written}
use Rattle.x509_report_objects.specs.Authorities.{point_name_members}
use Rattle.x509_report_objects.proofs.values.authorities.say_point_name.Goals as goal

pub returns-in-None : goal.returns-in-None
returns-in-None c = λ kept.
    let second = c.null_under-in-None.ensures kept in
    let first = c.null_under.ensures second.0 in (
      first.0,
      second.1
          ∙ ap (λ ts. written (ts ++ key (codes "relative_name") ∷ []) null) first.1
          ∙ ap (λ name. members_said c.args.out.now.so_far (point_name_members (option_view point_name_of name))) (sym c.in-None.is),
    )
