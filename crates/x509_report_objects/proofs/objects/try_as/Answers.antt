-- What the reader takes is what the grammar reads; its refusal is that of the grammar, and so is its octet.
use Rattle.std.proofs.Common.{◌≡◌, true, Ok, refl, arith, rules}
use Rattle.x509_fields.specs.Errors.{is_x509_memory}
use Rattle.x509_elements.proofs.Judging.{read_where}
use Rattle.x509_report_objects.specs.Attempts.{found_of, wishes_of}
use Rattle.x509_report_objects.specs.Objects.{is_wanted, told}
use Rattle.x509_report_objects.proofs.Refused.{told_where}
use Rattle.x509_report_objects.proofs.objects.try_as.Goals as goal

pub returns-then-not-plain : goal.returns-then-not-plain
returns-then-not-plain g c =
    let o = g.T.Reported in
    let read = read_where is_x509_memory true (λ x. (x.0.now, o.view x.1)) o.telling.field o.laws c.args.octets.now (λ k. omega (arith, c.type_inv.octets k)) (Ok _) c.in-Ok.ensures.exact in
    search (rules, read)

pub returns-else-wishes : goal.returns-else-wishes
returns-else-wishes g c =
    let o = g.T.Reported in
    let read = read_where is_x509_memory true (λ x. (x.0.now, o.view x.1)) o.telling.field o.laws c.args.octets.now (λ k. omega (arith, c.type_inv.octets k)) (Ok _) c.in-Ok.ensures.exact in
    search (rules, read)

pub returns-else-is_out_of_memory : goal.returns-else-is_out_of_memory
returns-else-is_out_of_memory g c =
    let o = g.T.Reported in
    let wanted : is_wanted (wishes_of c.args.wishes.now) o.telling.kind ≡ true = search rules in (
      wanted,
      told_where (told o.telling (wishes_of c.args.wishes.now) (found_of c.args.place.now) c.args.octets.now) (λ x. (x.0.now, o.view x.1)) o.telling.field c.args.octets.now c.in-Err.refusal (λ r. refl)
          o.laws.agrees (λ k. omega (arith, c.type_inv.octets k)) c.in-Err.ensures.exact (search rules),
      refl,
    )
