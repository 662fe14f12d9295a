use Rattle.std.proofs.Common.{◌≡◌, ◌∙◌, ◌-◌, ◌∷◌, List, ℕ, sym, ap, subst}
use Rattle.x509_der.specs.Looks.{behind}
use Rattle.x509_der.specs.Plan.{got}
use Rattle.x509_lists.specs.EntriesIn.{entries_in, HoldsEntries}
use Rattle.x509_lists.specs.RevokedCertificate.{revoked}
use Rattle.x509_lists.proofs.Passing.{first_entry}
use Rattle.x509_lists.proofs.revoked_entries.RevokedEntries.behind_first.Goals as goal

pub overflow_sub-result : goal.overflow_sub-result
overflow_sub-result g c = (first_entry c.args.self.now.bytes.now c.args.self.now.count c.args.self.now.holds c.requires.some).some

pub invariant_of-result : goal.invariant_of-result
invariant_of-result g c =
    let rest = sym (c.rest.ensures.behind ∙ ap behind c.requires.there) in
    let first = first_entry c.args.self.now.bytes.now c.args.self.now.count c.args.self.now.holds c.requires.some in
    record { holds = subst (λ (octets : List ℕ). HoldsEntries octets (c.args.self.now.count - 1)) rest first.others }

pub returns : goal.returns
returns g c =
    let rest = sym (c.rest.ensures.behind ∙ ap behind c.requires.there) in
    let first = first_entry c.args.self.now.bytes.now c.args.self.now.count c.args.self.now.holds c.requires.some in (
      first.entry,
      subst (λ (octets : List ℕ). revoked.read octets ≡ got first.entry (behind octets)) (sym c.requires.there) first.read,
      first.all ∙ ap (λ (octets : List ℕ). first.entry ∷ entries_in octets) rest,
      c.rest.ensures.behind,
    )
