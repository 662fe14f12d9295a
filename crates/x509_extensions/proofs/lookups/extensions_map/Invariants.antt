use Rattle.std.proofs.Common.{◌≡◌, take, true}
use Rattle.std.specs.List.{find}
use Rattle.std.specs.Option.{option_copied}
use Rattle.std.specs.HashMap.{get}
use Rattle.x509_der.specs.declared.oid.Oid.{Oid}
use Rattle.x509_der.specs.Oid.{oid_bytes}
use Rattle.x509_fields.specs.Groups.{oid_eq}
use Rattle.x509_extensions.specs.Lookups.{distinct_by, has_oid}
use Rattle.x509_extensions.proofs.lookups.extensions_map.Given as goal

abbrev pub invariant-loop-extension : goal.invariant-loop-extension
invariant-loop-extension g l = record {
  distinct : distinct_by (λ e. e.oid) (take l.extension-index l.extensions) ≡ true;
  entries : (q : Oid) → option_copied (get oid_eq l.map q) ≡ find (has_oid (oid_bytes q)) (take l.extension-index l.extensions);
}
