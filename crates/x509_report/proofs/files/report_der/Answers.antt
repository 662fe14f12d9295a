use Rattle.std.proofs.Common.{◌-◌, length, map, refl, subst, sym}
use Rattle.std.proofs.lemmas.List.{length-map}
use Rattle.x509_report.specs.Files.{der_told, elements_told, rest_told, task_of}
use Rattle.x509_report.specs.Told.{Prints}
use Rattle.x509_report.proofs.Prints.{in_turn}
use Rattle.x509_report.proofs.files.report_der.Goals as goal

pub returns : goal.returns
unfolding der_told
returns g c =
    let task = task_of c.args.asked.now c.args.file.now in
    let elements = map (λ e. e.now) c.args.elements.now in
    let rest = c.args.rest.now in
    let offset = length c.args.octets.now - length rest in
    in_turn _ _ _ (elements_told task 0 0 elements) (rest_told task (length elements) offset rest) _ c.report_elements.ensures
    (subst (λ n. Prints c.report_elements.new.printer c.report_rest.new.printer (rest_told task n offset rest)) (sym (length-map c.args.elements.now (λ e. e.now))) c.report_rest.ensures)
    refl
