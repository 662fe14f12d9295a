use Rattle.std.proofs.Common.{take, map}
use Rattle.std.specs.List.{flat_map}
use Rattle.x509_fields.specs.Steps.{Took}
use Rattle.x509_extensions.specs.Extension.{extension_of}
use Rattle.x509_visitors.specs.ExtensionEvents.{extension_events}
use Rattle.x509_visitors.proofs.extension_walk.walk_each.Given as goal

-- the visits of the extensions so far were accepted
abbrev pub invariant-loop-extension : goal.invariant-loop-extension
invariant-loop-extension g l = Took g.V.ExtensionVisits.extension_step l.initial.visitor (flat_map (extension_events g.V.ExtensionVisits.has_visit) (map extension_of (take l.extension-index l.extensions))) l.visitor
