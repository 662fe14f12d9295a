use Rattle.std.proofs.Common.{rules, ap, ◌∙◌, map, ◌∷◌, []}
use Rattle.std.proofs.lemmas.List.{map-append}
use Rattle.std.specs.Option.{option_or}
use Rattle.x509_names.proofs.Entries.{last-put-in, or-none, row_of}
use Rattle.x509_names.proofs.registry.registry_of.Goals as goal

pub loop-octets-init : goal.loop-octets-init
loop-octets-init c octets = ap (option_or _) (c.new-registry.ensures octets) ∙ (or-none _ ∙ search rules)

pub loop-octets-preserved : goal.loop-octets-preserved
loop-octets-preserved c octets =
    let item = c.in-Some.field-0.now in
    let left = ap (map row_of) c.in-Some.ensures.steps ∙ map-append row_of c.next.new.self.iter.rest.now (item ∷ []) in
    last-put-in _ _ (row_of item) _ c.new-entry.result _ _ octets left (search rules) (search rules) (search rules) (c.in_ok-insert.ensures.has octets) ∙ c.loop-octets.invariant octets
