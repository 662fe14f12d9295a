use Rattle.x509_extensions.proofs.Refusing.{nothing_refused_below, refused_below}
use Rattle.x509_extensions.proofs.refusal.timestamps_refusal.Goals as goal
use Rattle.x509_extensions.proofs.refusal.timestamps_refusal.Goals.{in-Ok, in-Err}

pub returns : goal.returns
returns c = elim c.match-from_der_located.branch [
  | in-Ok w ↦ rw w.result-is (nothing_refused_below _ _ _ _ w.in-Ok.ensures)
  | in-Err w ↦ rw w.result-is (refused_below _ _ _ _ _ w.convert.ensures w.in-Err.ensures)
]
