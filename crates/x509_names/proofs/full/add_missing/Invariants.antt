use Rattle.std.proofs.Common.{◌≡◌, ℕ, List, map, drop}
use Rattle.std.specs.Option.{option_or}
use Rattle.x509_names.specs.Full.{named_in}
use Rattle.x509_names.specs.Registry.{registered}
use Rattle.x509_names.proofs.full.add_missing.Given as goal

-- with the rows that are left it says of each identifier what it says at last
abbrev pub invariant-loop-row : goal.invariant-loop-row
invariant-loop-row l =
    (octets : List ℕ) → option_or (registered l.registry octets) (named_in (map (λ r. (r.0.now, r.1.now, r.2.now)) (drop l.row-index l.rows)) octets)
    ≡ option_or (registered l.fn.registry octets) (named_in (map (λ r. (r.0.now, r.1.now, r.2.now)) l.rows) octets)
