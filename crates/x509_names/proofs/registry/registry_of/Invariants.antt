use Rattle.std.proofs.Common.{◌≡◌, ℕ, List, map}
use Rattle.std.specs.Option.{option_or}
use Rattle.x509_names.specs.Registry.{registered, entry_in}
use Rattle.x509_names.proofs.registry.registry_of.Given as goal

-- the rows that are left come before those that were put in
abbrev pub invariant-loop-octets : goal.invariant-loop-octets
invariant-loop-octets l =
    (octets : List ℕ) → option_or (entry_in (map (λ r. (r.0.now, r.1.now)) l.octets-iterator.iter.rest.now) octets) (registered l.registry octets)
    ≡ entry_in (map (λ r. (r.0.now, r.1.now)) l.fn.rows) octets
