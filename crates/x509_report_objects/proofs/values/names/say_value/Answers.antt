use Rattle.std.proofs.Common.{rules}
use Rattle.x509_report_objects.proofs.values.names.say_value.Goals as goal

pub returns-in-Err : goal.returns-in-Err
returns-in-Err c = λ kept.
    let second = c.hex_under.ensures kept in
    let first = c.null_under-in-Err.ensures second.0 in
    (first.0, search (rules, first.1, second.1, c.as_slice.ensures, c.in-Err.ensures))
