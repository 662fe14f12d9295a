use Rattle.std.proofs.Common.{◌+◌, ◌∷◌, [], drop, map, sym, ap, ◌∙◌}
use Rattle.std.proofs.lemmas.List.{at_drop_more, drop_all}
use Rattle.x509_lists.specs.RevokedCertificate.{revoked_of}
use Rattle.x509_report_objects.specs.Attempts.{found_of}
use Rattle.x509_report_objects.specs.Lists.{entry_report}
use Rattle.x509_report.specs.Objects.{entry_lines}
use Rattle.x509_report.specs.Texts.{said}
use Rattle.x509_report.specs.Told.{alone}
use Rattle.x509_report.proofs.Prints.{leads_done, leads_step, leads_stop}
use Rattle.x509_report.proofs.reports.report_each.Goals as goal

pub returns-then-has_stopped : goal.returns-then-has_stopped
returns-then-has_stopped g c = leads_stop _ _ _ _ c.if-has_stopped.ensures c.loop-number.invariant

pub loop-number-preserved : goal.loop-number-preserved
unfolding entry_lines
loop-number-preserved g c =
    let form = c.args.form in
    let place = found_of c.args.place.now in
    let mark = c.args.fingerprint.now in
    let n = c.loop-number.number in
    let line = said form (entry_report place mark n (revoked_of c.index-entries-number.result)) in
    let others = entry_lines form place mark (n + 1) (map revoked_of (drop (n + 1) c.args.entries.now)) in
    leads_step _ _ _ (alone (line ∷ [])) (alone others) _ _
    (at_drop_more (λ es. alone (entry_lines form place mark n (map revoked_of es))) c.args.entries.now n c.index-entries-number.result c.loop-number-test.true
    ∙ ap (λ e. alone (said form (entry_report place mark n (revoked_of e)) ∷ others)) (sym c.index-entries-number.is))
    c.loop-number.invariant c.report_entry.ensures

pub returns : goal.returns
unfolding entry_lines
returns g c = leads_done _ _ _ _
    (ap (λ es. alone (entry_lines c.args.form (found_of c.args.place.now) c.args.fingerprint.now c.loop-number.number (map revoked_of es)))
    (drop_all c.loop-number.number c.args.entries.now c.loop-number-test.false))
    c.loop-number.invariant
