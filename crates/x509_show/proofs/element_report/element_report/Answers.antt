use Rattle.std.proofs.Common.{◌≡◌, subst, sym, Ok, Err}
use Rattle.std.proofs.lemmas.Result.{IfOk-weaker}
use Rattle.x509_der.specs.Reading.{element_of}
use Rattle.x509_der.specs.Words.{ber_word}
use Rattle.x509_show.specs.Report.{IsOnly, refused_report}
use Rattle.x509_show.specs.ElementReport.{IsElementReport, accepted_report}
use Rattle.x509_show.proofs.Reports.{IsElementReport-only}
use Rattle.x509_show.proofs.element_report.element_report.Goals as goal

pub returns-in-Ok : goal.returns-in-Ok
returns-in-Ok c =
    let is = IsElementReport-only c.args.input.now (Ok (c.in-Ok.rest.now, element_of c.in-Ok.element)) c.in-Ok.ensures.exact in
    IfOk-weaker c.accepted.result (λ r. r ≡ accepted_report (element_of c.in-Ok.element) c.in-Ok.rest.now) (IsOnly (IsElementReport c.args.input.now))
    (λ r e. subst (IsOnly (IsElementReport c.args.input.now)) (sym e) is) c.accepted.ensures

pub returns-in-Err : goal.returns-in-Err
returns-in-Err c =
    let is = IsElementReport-only c.args.input.now (Err c.in-Err.refusal) c.in-Err.ensures.exact in
    IfOk-weaker c.refused.result (λ r. r ≡ refused_report ber_word c.in-Err.refusal) (IsOnly (IsElementReport c.args.input.now))
    (λ r e. subst (IsOnly (IsElementReport c.args.input.now)) (sym e) is) c.refused.ensures
