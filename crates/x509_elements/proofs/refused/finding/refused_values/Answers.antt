-- One line more.
use Rattle.std.proofs.Common.{◌≡◌, subst, sym, ap, ◌∙◌, length}
use Rattle.x509_elements.specs.Elements.{elements_of}
use Rattle.x509_elements.specs.Walks.{left}
use Rattle.x509_elements.proofs.Leftover.{all_at_first}
use Rattle.x509_elements.proofs.Within.{AreWithin, each_within}
use Rattle.x509_elements.proofs.refused.finding.refused_values.Goals as goal

pub loop-found-init : goal.loop-found-init
loop-found-init c =
    let octets = c.args.octets.now in
    let same : c.into_iter-found-iterator.result ≡ c.dump-found-items.result = cc (c.into_iter-found-iterator.ensures.into_iter_gives) in
    let lines : left c.into_iter-found-iterator.result ≡ elements_of c.args.object octets = ap left same ∙ c.dump-found-items.ensures.lines in
    record {
      all = all_at_first c.args.object octets _ (left c.into_iter-found-iterator.result) _ lines (c.new-reading.ensures octets (elements_of c.args.object octets)) c.new-refused.ensures.items;
      within = subst (AreWithin (length octets)) (sym lines) (each_within c.args.object octets);
    }
