use Rattle.std.proofs.Common.{◌≡◌, map, drop}
use Rattle.x509_keys.specs.Rows.{value_in}
use Rattle.x509_keys.proofs.rows.find_value.Given as goal

-- no row so far has the identifier
abbrev pub invariant-loop-row_octets : goal.invariant-loop-row_octets
invariant-loop-row_octets g l =
    value_in (map (λ r. (r.0.now, r.1)) (drop l.row_octets-index l.rows)) l.octets ≡ value_in (map (λ r. (r.0.now, r.1)) l.rows) l.octets
