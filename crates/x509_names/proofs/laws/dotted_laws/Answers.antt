use Rattle.x509_names.proofs.DottedTexts.{not_refused, unrefused, same_octets, IsShownAs-text, IsDottedText-shown}
use Rattle.x509_names.proofs.laws.dotted_laws.Goals as goal

pub returns : goal.returns
returns c = record {
  named = λ text. (unrefused text, λ (octets, is). not_refused text octets is);
  one = same_octets;
  shown = λ text octets. (IsShownAs-text text octets, IsDottedText-shown text octets);
}
