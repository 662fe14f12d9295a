use Rattle.std.proofs.Common.{◌≡◌, map, drop}
use Rattle.x509_names.specs.Objects.{name_in}
use Rattle.x509_names.proofs.objects.find_name.Given as goal

-- no row so far has the identifier
abbrev pub invariant-loop-row_octets : goal.invariant-loop-row_octets
invariant-loop-row_octets l =
    name_in (map (λ r. (r.0.now, r.1.now)) (drop l.row_octets-index l.rows)) l.octets ≡ name_in (map (λ r. (r.0.now, r.1.now)) l.rows) l.octets
