use Rattle.std.proofs.Common.{map}
use Rattle.std.specs.Slice.Iter.{iter_rest}
use Rattle.x509_names.specs.Names.{relative_name_of, name_of}
use Rattle.x509_report_lines.specs.Says.{SaysRest}
use Rattle.x509_report_objects.specs.Names.{relative_name_report}
use Rattle.x509_report_objects.proofs.values.names.say_relative_names.Given as goal

abbrev pub invariant-loop-relative : goal.invariant-loop-relative
invariant-loop-relative l = SaysRest l.initial.out l.out relative_name_report (map relative_name_of (iter_rest l.relative-iterator)) (name_of l.fn.name).relative
