use Rattle.std.proofs.Common.{◌≡◌, take, filter}
use Rattle.std.specs.Option.{option_copied, option_to_list}
use Rattle.x509_der.specs.Oid.{oid_bytes}
use Rattle.x509_extensions.specs.Lookups.{has_oid}
use Rattle.x509_extensions.proofs.lookups.get_extension_unique.Given as goal

-- what was found is what there is so far
abbrev pub invariant-loop-extension : goal.invariant-loop-extension
invariant-loop-extension l = option_to_list (option_copied l.found) ≡ filter (has_oid (oid_bytes l.oid)) (take l.extension-index l.extensions)
