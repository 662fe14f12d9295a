-- The member is looked for in the contents, where the octet lies behind the header and what leads.
use Rattle.std.proofs.Common.{◌-◌, nat_lt, drop, sym, ap, ◌∙◌}
use Rattle.std.proofs.lemmas.Bool.{lt-ltb, le-ltb}
use Rattle.x509_elements.specs.Cursors.{first_of}
use Rattle.x509_elements.specs.Paths.{find_in}
use Rattle.x509_elements.specs.Seen.{seen_of}
use Rattle.x509_elements.proofs.Finding.{member_in_header, member_in_lead, member_inside, member_unseen}
use Rattle.x509_elements.proofs.member.member_at.Goals as goal
use Rattle.x509_elements.proofs.member.member_at.Goals.{then-at-seen-via-then-at-seen, then-at-seen-via-else-at-seen+then-at-seen-2}

pub returns-in_default : goal.returns-in_default
returns-in_default c = sym (member_unseen c.args.part c.args.window.now c.args.at c.in_default.ensures.found)

pub returns-then-at-seen : goal.returns-then-at-seen
returns-then-at-seen c =
    let s = seen_of c.in-Some.seen in
    elim c.then-at-seen.branch [
      | then-at-seen-via-then-at-seen w ↦ sym (member_in_header c.args.part c.args.window.now c.args.at s c.in-Some.ensures.found (lt-ltb c.args.at s.size w.if-at-seen.true))
      | then-at-seen-via-else-at-seen+then-at-seen-2 w ↦
          sym (member_in_lead c.args.part c.args.window.now c.args.at s c.in-Some.ensures.found
          (ap (nat_lt (c.args.at - s.size)) (sym c.lead-lead.ensures) ∙ lt-ltb (c.args.at - s.size) c.lead-lead.result w.if-at-seen-2.true))
    ]

pub returns : goal.returns
returns c =
    let s = seen_of c.in-Some.seen in
    let at = c.args.at - s.size in
    c.find.ensures
    ∙ ap (λ members. find_in (first_of c.args.part) members (at - c.lead-lead.result)) c.behind.ensures
    ∙ ap (λ n. find_in (first_of c.args.part) (drop n s.contents) (at - n)) c.lead-lead.ensures
    ∙ sym (member_inside c.args.part c.args.window.now c.args.at s c.in-Some.ensures.found (le-ltb c.args.at s.size c.if-at-seen.false)
    (ap (nat_lt at) (sym c.lead-lead.ensures) ∙ le-ltb at c.lead-lead.result c.if-at-seen-2.false))
