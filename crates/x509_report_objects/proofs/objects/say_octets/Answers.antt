use Rattle.std.proofs.Common.{◌++◌, ◌∷◌, [], codes, length, ap, ◌∙◌}
use Rattle.json.specs.Token.{key}
use Rattle.x509_report_lines.specs.Says.{count, written}
use Rattle.x509_report_objects.specs.Octets.{fingerprint}
use Rattle.x509_report_objects.proofs.objects.say_octets.Goals as goal

pub returns : goal.returns
returns c = λ kept.
    let third = c.fingerprint_under.ensures kept in
    let second = c.size_under.ensures third.0 in
    let first = c.label_under.ensures second.0 in (
      first.0,
      third.1
          ∙ ap (λ ts. written (ts ++ key (codes "sha256") ∷ []) (fingerprint c.args.fingerprints c.args.octets.now)) (second.1
          ∙ ap (λ ts. written (ts ++ key (codes "length") ∷ []) (count (length c.args.octets.now))) first.1),
    )
