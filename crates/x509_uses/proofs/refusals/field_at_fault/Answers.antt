-- The path leads to the octet of the fault.
use Rattle.std.proofs.Common.{rules}
use Rattle.x509_uses.specs.Conclusions.{IsFault}
use Rattle.x509_uses.proofs.refusals.field_at_fault.Goals as goal

pub returns : goal.returns
returns c =
    let told : IsFault c.args.input.now c.in-Some.at c.in-Some.field-0-1.now = search rules in
    (c.in-Some.at, c.in-Some.field-0-1.now, told, c.in_ok-path.ensures)
