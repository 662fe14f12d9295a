use Rattle.std.proofs.Common.{◌≡◌, ◌<◌, [], refl, arith, rules}
use Rattle.std.proofs.lemmas.Result.{err_from_is_err_and}
use Rattle.x509_show.specs.Commands.{IsCommand, command_word, usage_report}
use Rattle.x509_show.proofs.Reports.{IsReport-named, IsReport-status, IsReport-usage, IsStopped-in_text}
use Rattle.x509_show.proofs.runs.respond.Goals as goal

pub returns-in_err-write_whole-clause-stopped : goal.returns-in_err-write_whole-clause-stopped
returns-in_err-write_whole-clause-stopped g c =
    let other : ¬ IsCommand c.args.command.now = search rules in
    let p = err_from_is_err_and c.from_residual.result c.from_residual.ensures.1 in
    rw (p.1, p.2) (IsStopped-in_text c.args.command.now _ _ _ _ _ _ _ _ [] usage_report c.in_err-write_whole.field-0.0 (IsReport-usage _ _ other) refl (λ (low : 2 < 2). absurd (omega arith)) c.in_err-write_whole.ensures.stopped)

pub returns-in_default-clause-answered : goal.returns-in_default-clause-answered
returns-in_default-clause-answered g c =
    let other : ¬ IsCommand c.args.command.now = search rules in
    record { input = []; report = usage_report; reported = IsReport-usage _ _ other; text = c.in_ok-write_whole.ensures.all; exit = refl; whole = λ low. absurd (omega arith) }

pub returns-in_err-write_whole-2-clause-stopped : goal.returns-in_err-write_whole-2-clause-stopped
returns-in_err-write_whole-2-clause-stopped g c =
    let named : c.args.command.now ≡ command_word c.in-Some.command = search rules in
    let is = rw c.deref.ensures.value at c.in_ok-report.ensures in
    let p = err_from_is_err_and c.from_residual-in_err-write_whole-2.result c.from_residual-in_err-write_whole-2.ensures.1 in
    rw (p.1, p.2) (IsStopped-in_text c.args.command.now _ _ _ _ _ _ _ _ c.in_ok-input.input.items c.in_ok-report.report c.in_err-write_whole-2.field-0.0
    (IsReport-named _ _ _ _ named is) c.in_ok-input.ensures.well (λ _. c.in_ok-input.ensures.all)
    (rw (c.as_bytes.ensures.value, c.text.ensures) at c.in_err-write_whole-2.ensures.stopped))

pub returns-clause-answered : goal.returns-clause-answered
returns-clause-answered g c =
    let named : c.args.command.now ≡ command_word c.in-Some.command = search rules in
    let is = rw c.deref.ensures.value at c.in_ok-report.ensures in
    record {
      input = c.in_ok-input.input.items;
      report = c.in_ok-report.report;
      reported = IsReport-named _ _ _ _ named is;
      text = rw (c.as_bytes.ensures.value, c.text.ensures) at c.in_ok-write_whole-2.ensures.all;
      exit = c.status.ensures;
      whole = λ low. c.in_ok-input.ensures.all;
    }

pub returns-clause-status : goal.returns-clause-status
returns-clause-status g c =
    let low = IsReport-status _ c.in-Some.command _ c.in_ok-report.ensures.is in
    omega (arith, low, c.status.ensures)

pub returns-clause-unread_at_2 : goal.returns-clause-unread_at_2
returns-clause-unread_at_2 g c = λ two.
    let low = IsReport-status _ c.in-Some.command _ c.in_ok-report.ensures.is in
    absurd (omega (arith, low, two, c.status.ensures))
