use Rattle.std.proofs.Common.{◌≡◌, ◌+◌, drop, map, length}
use Rattle.std.specs.List.{flat_map}
use Rattle.x509_report.specs.Files.{elements_told, task_of}
use Rattle.x509_report.proofs.Prints.{Leads}
use Rattle.x509_report.proofs.files.report_elements.Given as goal

-- with those that are left
abbrev pub invariant-loop-index : goal.invariant-loop-index
invariant-loop-index g l =
    let task = task_of l.asked l.file in
    record {
      leads : Leads l.initial.printer l.printer (elements_told task l.index l.offset (map (λ e. e.now) (drop l.index l.elements)))
          (elements_told task 0 0 (map (λ e. e.now) l.elements));
      size : l.offset + length (flat_map (λ e. e.now) (drop l.index l.elements)) ≡ length (flat_map (λ e. e.now) l.elements);
    }
