use Rattle.std.proofs.Common.{rules}
use Rattle.x509_report_objects.proofs.certificates.say_names.Goals as goal

pub returns : goal.returns
returns c = λ kept.
    let fourth = c.value_under-4.ensures kept in
    let third = c.value_under-3.ensures fourth.0 in
    let second = c.value_under-2.ensures third.0 in
    let first = c.value_under.ensures second.0 in
    (first.0, search (rules, first.1, second.1, third.1, fourth.1))
