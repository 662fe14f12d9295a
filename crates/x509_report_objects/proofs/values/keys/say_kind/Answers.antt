use Rattle.std.proofs.Common.{◌∙◌, ap, ◌++◌, ◌∷◌, []}
use Rattle.std.specs.Prelude.{codes}
use Rattle.json.specs.Token.{key}
use Rattle.x509_keys.specs.KeyInfo.{key_info_of}
use Rattle.x509_keys.specs.KeySizes.{algorithm_in}
use Rattle.x509_report_lines.specs.Says.{written}
use Rattle.x509_report_objects.specs.Keys.{kind_report}
use Rattle.x509_report_objects.proofs.values.keys.say_kind.Goals as goal

-- the second member behind the first
pub returns : goal.returns
returns c = λ kept.
    let second = c.kind_under.ensures kept in
    let first = c.algorithm_under.ensures second.0 in
    (first.0, second.1 ∙ ap (λ ts. written (ts ++ key (codes "kind") ∷ []) (kind_report (algorithm_in (key_info_of c.args.info.now)))) first.1)
