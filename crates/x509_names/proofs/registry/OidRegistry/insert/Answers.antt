use Rattle.std.proofs.Common.{ap, ◌∙◌}
use Rattle.std.specs.Option.{option_map}
use Rattle.x509_names.specs.Registry.{entry_of}
use Rattle.x509_names.proofs.Entries.{with_octets, map-chosen}
use Rattle.x509_names.proofs.registry.OidRegistry.insert.Goals as goal

pub returns-in-Ok-clause-has : goal.returns-in-Ok-clause-has
returns-in-Ok-clause-has c octets =
    ap (option_map entry_of) (c.in-Ok.ensures.updates.0 (with_octets octets)) ∙ map-chosen entry_of _ c.args.entry _
