use Rattle.std.proofs.Common.{rules, ◌≡◌, ◌∙◌, sym, ap}
use Rattle.std.specs.Ordering.{ordering_then}
use Rattle.x509_revoked.specs.SerialOrder.{by_serial}
use Rattle.x509_revoked.proofs.Heads.{first_differs, first_ties}
use Rattle.x509_revoked.proofs.serial_order.compare_at.Goals as goal

pub returns-then-is_ne : goal.returns-then-is_ne
returns-then-is_ne c =
    let serials = by_serial c.args.octets.now c.args.a.now.offset c.args.b.now.offset in
    first_differs c.cmp-heads.result serials (sym c.is_ne.ensures ∙ c.if-is_ne.true) ∙ ap (λ o. ordering_then o serials) c.cmp-heads.ensures

pub returns : goal.returns
returns c =
    let serials = by_serial c.args.octets.now c.args.a.now.offset c.args.b.now.offset in
    let same : c.then.result ≡ serials = search rules in
    same ∙ first_ties c.cmp-heads.result serials (sym c.is_ne.ensures ∙ c.if-is_ne.false) ∙ ap (λ o. ordering_then o serials) c.cmp-heads.ensures
