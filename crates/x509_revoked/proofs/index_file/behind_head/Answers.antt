use Rattle.std.proofs.Common.{rules, ◌≡◌, ◌++◌, ◌∙◌, take, drop, sym, ap}
use Rattle.std.proofs.lemmas.List.{take-append-drop}
use Rattle.x509_revoked.specs.IndexFile.{head_octets}
use Rattle.x509_revoked.proofs.Codes.{head_first}
use Rattle.x509_revoked.proofs.index_file.behind_head.Goals as goal

pub returns-then-ne : goal.returns-then-ne
returns-then-ne c body is =
    let same : c.in-Some.found.now ≡ c.head-wanted.result = c.in-Some.ensures.cases.0 ∙ head_first c.args.entries c.args.octets c.args.file.now body is ∙ sym c.head-wanted.ensures in
    search (rules, same)

pub returns-else-ne : goal.returns-else-ne
returns-else-ne c =
    let file = c.args.file.now in
    let same : c.in-Some.found.now ≡ c.head-wanted.result = search rules in
    let front : take 24 file ≡ head_octets c.args.entries c.args.octets = sym c.in-Some.ensures.cases.0 ∙ same ∙ c.head-wanted.ensures in
    sym (take-append-drop 24 file) ∙ ap (λ x. x ++ drop 24 file) front ∙ ap (λ x. head_octets c.args.entries c.args.octets ++ x) (sym c.in-Some.ensures.cases.1)
