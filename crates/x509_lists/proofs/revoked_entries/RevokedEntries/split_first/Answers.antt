use Rattle.std.proofs.Common.{arith, sym, ap, ◌∙◌}
use Rattle.x509_der.specs.Digits.{without_leading_zeros}
use Rattle.x509_der.specs.Looks.{behind}
use Rattle.x509_lists.proofs.Passing.{none_held, serial_first}
use Rattle.x509_lists.proofs.revoked_entries.RevokedEntries.split_first.Goals as goal

pub returns-then-is_empty : goal.returns-then-is_empty
returns-then-is_empty c = none_held c.args.self.now.bytes.now (grind (arith, c.is_empty.ensures, c.if-is_empty.true))

pub returns : goal.returns
returns c =
    let first = c.behind_first.ensures in
    let serial = serial_first _ first.0 _ first.1 in
    (first.0, first.2, serial.digits ∙ sym (ap without_leading_zeros (c.first_serial.ensures first.0 _ first.1)) ∙ sym c.new-serial.ensures.bytes, first.3 ∙ ap behind c.look-place.ensures.bytes)
