use Rattle.std.proofs.Common.{sym, ◌∙◌}
use Rattle.x509_der.specs.Children.{window_of}
use Rattle.x509_der.proofs.Looks.{last_place, place_behind}
use Rattle.x509_der.proofs.children.Elements.at.Goals as goal

pub returns-else-k-self-clause-place : goal.returns-else-k-self-clause-place
returns-else-k-self-clause-place g c =
    let s = c.args.self.now in
    c.same.ensures.bytes ∙ s.last ∙ sym (last_place (window_of s) g.row.N s.count c.args.k s.few c.if-k-self.false c.requires s.stops)

pub returns-else-k-self-clause-next : goal.returns-else-k-self-clause-next
returns-else-k-self-clause-next g c = place_behind (window_of c.args.self.now) _ c.args.k (returns-else-k-self-clause-place g c)
