use Rattle.x509_extensions.proofs.Refusing.{nothing_refused, refused_there}
use Rattle.x509_extensions.proofs.refusal.refusal_of.Goals as goal
use Rattle.x509_extensions.proofs.refusal.refusal_of.Goals.{in-Ok, in-Err}

pub returns : goal.returns
returns g c = elim c.match-from_der_located.branch [
  | in-Ok w ↦ rw w.result-is (nothing_refused _ g.T.FromDer.grammar.takes_memory _ _ _ w.in-Ok.ensures)
  | in-Err w ↦ rw w.result-is (refused_there _ g.T.FromDer.grammar.takes_memory _ _ _ w.in-Err.ensures)
]
