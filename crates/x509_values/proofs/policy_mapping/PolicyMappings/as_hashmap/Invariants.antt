use Rattle.std.proofs.Common.{◌≡◌, take}
use Rattle.x509_der.specs.declared.oid.Oid.{Oid}
use Rattle.x509_fields.specs.Groups.{held, pointed}
use Rattle.x509_values.specs.PolicyMapping.{subjects}
use Rattle.x509_values.proofs.policy_mapping.PolicyMappings.as_hashmap.Given as goal

abbrev pub invariant-loop-mapping : goal.invariant-loop-mapping
invariant-loop-mapping g l = (issuer : Oid) → pointed (held l.map issuer) ≡ subjects (take l.mapping-index l.fn.self.mappings) issuer
