use Rattle.std.proofs.Common.{rules}
use Rattle.x509_report_objects.specs.GeneralNames.{name_constraints_report}
use Rattle.x509_report_objects.proofs.values.general_names.NameConstraintsSaid.say.Goals as goal

pub returns : goal.returns
unfolding name_constraints_report
returns c = λ kept.
    let end = c.end_object.ensures kept in
    let second = c.optional_list_under-2.ensures end.0 in
    let first = c.optional_list_under.ensures second.0 in
    let begin = c.begin_object.ensures first.0 in
    (begin.0, search (rules, begin.1, first.1, second.1, end.1))
