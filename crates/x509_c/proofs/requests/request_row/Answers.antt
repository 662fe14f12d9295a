-- Each field is the value's.
use Rattle.std.proofs.Common.{List, refl, length, ap, sym, ◌∙◌}
use Rattle.std.proofs.lemmas.List.{length-map}
use Rattle.x509_requests.specs.CriAttribute.{attribute_of}
use Rattle.x509_requests.specs.declared.cri_attribute.X509CriAttribute.{X509CriAttribute}
use Rattle.x509_c.proofs.requests.request_row.Goals as goal

pub returns : goal.returns
returns c = record {
  whole = c.as_raw.ensures;
  rest = refl;
  signed_part = refl;
  subject = c.as_raw-2.ensures;
  key_info = refl;
  key_algorithm = c.as_bytes.ensures;
  key_bits = refl;
  signature_algorithm = c.as_bytes-2.ensures;
  signature = refl;
  key_size = c.key_size.ensures;
  attribute_count = ap (λ (xs : List X509CriAttribute). length xs) c.attributes.ensures ∙ sym (length-map c.args.request.now.certification_request_info.attributes attribute_of);
  version = refl;
}
