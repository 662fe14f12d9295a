use Rattle.std.proofs.Common.{◌≡◌, List, ℕ, cond, Some, false, is_some, sym, ap, ◌∙◌, rules}
use Rattle.std.specs.Str.{bytes_eq}
use Rattle.x509_names.proofs.Rows.{registered-put, entry-of-named, none-mapped}
use Rattle.x509_names.specs.Registry.{registered, entry_of}
use Rattle.x509_names.proofs.full.add_one_missing.Goals as goal

pub returns-clause-is : goal.returns-clause-is
returns-clause-is c octets =
    let old = c.args.registry.now in
    let gone : is_some c.get.result ≡ false = search rules in
    registered-put old c.insert.new.self (c.args.row.0.now, c.args.row.1.now, c.args.row.2.now) (entry_of c.new.result) octets
    (entry-of-named c.new.result (c.args.row.0.now, c.args.row.1.now, c.args.row.2.now) c.new.ensures.sn c.new.ensures.description)
    (ap (registered old) (sym c.new-oid.ensures) ∙ sym c.get.ensures ∙ none-mapped _ c.get.result gone)
    (c.in_ok-insert.ensures.has octets
    ∙ ap (λ (id : List ℕ). cond (bytes_eq id octets) (Some (entry_of c.new.result)) (registered old octets)) c.new-oid.ensures)
