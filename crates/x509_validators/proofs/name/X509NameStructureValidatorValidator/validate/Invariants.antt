use Rattle.std.proofs.Common.{◌≡◌, map, ◌++◌}
use Rattle.std.specs.List.{flat_map}
use Rattle.x509_names.specs.Names.{attributes_in, attributes_left}
use Rattle.x509_fields.specs.Steps.{Took}
use Rattle.x509_validators.proofs.Names.{warnings_seen}
use Rattle.x509_validators.proofs.name.X509NameStructureValidatorValidator.validate.Given as goal

abbrev pub invariant-loop-attribute : goal.invariant-loop-attribute
invariant-loop-attribute g l = record {
  can : g.L.Logger.can_log l.logger;
  took : Took g.L.Logger.step l.initial.logger (flat_map warnings_seen l.yielded) l.logger;
  seen : attributes_in l.fn.item.rdn_seq ≡ map (λ a. a.now) l.yielded ++ attributes_left l.attribute-iterator;
}
