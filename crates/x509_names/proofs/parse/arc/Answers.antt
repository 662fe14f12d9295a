use Rattle.std.proofs.Common.{◌≡◌, ◌∙◌, sym, true, false, arith}
use Rattle.x509_names.specs.DottedRefusals.{is_numeral, has_leading_zero}
use Rattle.x509_names.proofs.Numerals.{parsed_arc, unparsed_arc, refused_above}
use Rattle.x509_names.proofs.parse.arc.Goals as goal

pub returns-in-Ok : goal.returns-in-Ok
returns-in-Ok c =
    let is : is_numeral c.args.text.now ≡ true = sym c.is_decimal.ensures ∙ c.if-not-is_decimal.false in
    let bare : has_leading_zero c.args.text.now ≡ false = sym c.is_zero_padded.ensures ∙ c.if-is_zero_padded.false in
    (parsed_arc c.args.text.now c.parse.result c.in-Ok.number c.parse.ensures.value.0 c.in-Ok.is is bare, c.if-number-most.true)

pub returns-in_default-2 : goal.returns-in_default-2
returns-in_default-2 c =
    let is : is_numeral c.args.text.now ≡ true = sym c.is_decimal.ensures ∙ c.if-not-is_decimal.false in
    let bare : has_leading_zero c.args.text.now ≡ false = sym c.is_zero_padded.ensures ∙ c.if-is_zero_padded.false in
    let great = unparsed_arc c.args.text.now c.parse.result _ c.parse.ensures.value.0 c.in_default.is is in
    refused_above c.args.most c.args.above c.args.text.now is bare (omega arith)
