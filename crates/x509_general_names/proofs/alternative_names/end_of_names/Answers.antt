use Rattle.std.proofs.Common.{◌≡◌, Err, sym, ◌∙◌, rules}
use Rattle.x509_der.specs.declared.error.Err.TheVariants as refusals
use Rattle.x509_der.proofs.Marked.{nothing}
use Rattle.x509_general_names.proofs.Ends.{end_of_nothing, names_stop, names_failed}
use Rattle.x509_general_names.specs.GeneralName.{context_element}
use Rattle.x509_general_names.proofs.alternative_names.end_of_names.Goals as goal

pub returns-then-is_empty-clause-reads : goal.returns-then-is_empty-clause-reads
returns-then-is_empty-clause-reads g c names = end_of_nothing names c.args.rest.now (nothing c.args.rest.now (sym c.is_empty.ensures ∙ c.if-is_empty.true))

pub returns-in-Err-Error-clause-reads : goal.returns-in-Err-Error-clause-reads
returns-in-Err-Error-clause-reads g c names =
    let rest = c.args.rest.now in
    let read : context_element.read rest ≡ Err (refusals.Error c.in-Err-Error.why) = search rules in
    rw (c.refuse_at.ensures.why, c.refuse_at.ensures.left) (names_failed names rest c.in-Err-Error.why read, names_stop names g.L.Outside.adds rest c.args.contents.now.outside)
