-- One member more.
use Rattle.std.proofs.Common.{◌≡◌, suc, zero, ◌+◌, ◌-◌, sym, ap, ◌∙◌, arith}
use Rattle.std.specs.Prelude.{string_bytes}
use Rattle.x509_elements.specs.Paths.{deepest, member_of, path}
use Rattle.x509_elements.proofs.Finding.{path_ends, path_leads, path_stays}
use Rattle.x509_elements.proofs.path.path_to.Goals as goal
use Rattle.x509_elements.proofs.path.path_to.Goals.{else-loop-test, then-loop-test+in_default}

pub loop-preserved : goal.loop-preserved
loop-preserved c =
    let it = c.loop in
    let left : deepest - it.counter ≡ suc (deepest - (it.counter + 1)) = omega (arith, c.loop-test.true) in
    let m = member_of c.in-Some.found in
    ap (λ text. path (deepest - (it.counter + 1)) m.called.part m.window m.at text) c.in_ok-put_called.ensures
    ∙ sym (path_leads (deepest - (it.counter + 1)) it.part it.window.now it.at (string_bytes it.text) m c.in-Some.ensures)
    ∙ ap (λ n. path n it.part it.window.now it.at (string_bytes it.text)) (sym left)
    ∙ it.invariant

pub returns : goal.returns
returns c =
    let it = c.loop in
    elim c.loop-test.branch [
      | else-loop-test w ↦
          let none : deepest - it.counter ≡ zero = omega (arith, w.loop-test.false) in
          sym (path_ends it.part it.window.now it.at (string_bytes it.text)) ∙ ap (λ n. path n it.part it.window.now it.at (string_bytes it.text)) (sym none) ∙ it.invariant
      | then-loop-test+in_default w ↦
          let left : deepest - it.counter ≡ suc (deepest - (it.counter + 1)) = omega (arith, w.loop-test.true) in
          sym (path_stays (deepest - (it.counter + 1)) it.part it.window.now it.at (string_bytes it.text) w.in_default.ensures)
          ∙ ap (λ n. path n it.part it.window.now it.at (string_bytes it.text)) (sym left)
          ∙ it.invariant
    ]
