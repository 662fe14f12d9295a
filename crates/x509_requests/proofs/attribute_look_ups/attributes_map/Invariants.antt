use Rattle.std.proofs.Common.{◌≡◌, take, true}
use Rattle.std.specs.List.{find}
use Rattle.std.specs.Option.{option_copied}
use Rattle.std.specs.HashMap.{get}
use Rattle.x509_der.specs.declared.oid.Oid.{Oid}
use Rattle.x509_der.specs.Oid.{oid_bytes}
use Rattle.x509_fields.specs.Groups.{oid_eq}
use Rattle.x509_extensions.specs.Lookups.{distinct_by}
use Rattle.x509_requests.specs.AttributeLookUps.{has_type}
use Rattle.x509_requests.proofs.attribute_look_ups.attributes_map.Given as goal

abbrev pub invariant-loop-attribute : goal.invariant-loop-attribute
invariant-loop-attribute g l = record {
  distinct : distinct_by (λ a. a.oid) (take l.attribute-index l.attributes) ≡ true;
  entries : (q : Oid) → option_copied (get oid_eq l.map q) ≡ find (has_type (oid_bytes q)) (take l.attribute-index l.attributes);
}
