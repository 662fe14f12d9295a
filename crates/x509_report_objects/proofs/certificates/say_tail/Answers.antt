use Rattle.std.proofs.Common.{◌++◌, ◌∷◌, [], codes, length, ap, ◌∙◌}
use Rattle.json.specs.Token.{key}
use Rattle.x509_certs.specs.Certificate.{certificate_of}
use Rattle.x509_validators.specs.SignedPart.{signed_part_messages, is_signed_part_sound}
use Rattle.x509_report_lines.specs.Says.{count, written}
use Rattle.x509_report_objects.specs.Certificates.{validator_report}
use Rattle.x509_report_objects.proofs.certificates.say_tail.Goals as goal

pub returns : goal.returns
returns c = λ kept.
    let third = c.validator_under.ensures kept in
    let second = c.signed_size_under.ensures third.0 in
    let first = c.value_under.ensures second.0 in
    let tbs = (certificate_of c.args.certificate.now).tbs in (
      first.0,
      third.1
          ∙ ap (λ ts. written (ts ++ key (codes "validator") ∷ []) (validator_report (is_signed_part_sound tbs) (signed_part_messages tbs))) (second.1
          ∙ ap (λ ts. written (ts ++ key (codes "tbs_length") ∷ []) (count (length tbs.raw))) first.1),
    )
