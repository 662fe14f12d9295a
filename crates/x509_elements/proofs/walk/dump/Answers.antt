-- The octets themselves are open.
use Rattle.std.proofs.Common.{ℕ, reverse, length, refl, subst, sym, ap, ◌∙◌}
use Rattle.x509_elements.specs.Elements.{ArePlaced, octets_of}
use Rattle.x509_elements.proofs.Elements.{each_once, each_placed}
use Rattle.x509_elements.proofs.Walking.{at_start, none_left}
use Rattle.x509_elements.proofs.walk.dump.Goals as goal
use Rattle.x509_elements.specs.declared.cursor.Cursor.{Cursor}
use Rattle.x509_elements.specs.declared.open.Open.{Open}

abbrev first : Cursor → ℕ → Open
first cursor end = record { end = end; cursor = cursor }

pub returns-clause-lines : goal.returns-clause-lines
returns-clause-lines c =
    let octets = c.args.octets.now in
    at_start octets c.args.object (first c.alone.result (length octets)) (reverse c.new.result.items) (none_left c.new.result.items (ap length c.new.ensures.items)) refl c.alone.ensures

pub returns-clause-once : goal.returns-clause-once
returns-clause-once c =
    let octets = c.args.octets.now in
    ap octets_of (at_start octets c.args.object (first c.alone.result (length octets)) (reverse c.new.result.items) (none_left c.new.result.items (ap length c.new.ensures.items)) refl c.alone.ensures)
    ∙ each_once c.args.object octets

pub returns-clause-placed : goal.returns-clause-placed
returns-clause-placed c =
    let octets = c.args.octets.now in
    subst (ArePlaced 0) (sym (at_start octets c.args.object (first c.alone.result (length octets)) (reverse c.new.result.items) (none_left c.new.result.items (ap length c.new.ensures.items)) refl c.alone.ensures))
    (each_placed c.args.object octets)
