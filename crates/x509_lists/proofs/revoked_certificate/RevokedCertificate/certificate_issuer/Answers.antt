use Rattle.std.proofs.Common.{true, ◌∙◌, sym, ap, inr, refl, arith}
use Rattle.x509_der.proofs.RunLoop.{own_refusal}
use Rattle.x509_fields.specs.Errors.{is_x509_memory}
use Rattle.x509_general_names.specs.AlternativeNames.{general_names}
use Rattle.x509_lists.specs.EntryIssuers.{names_read}
use Rattle.x509_lists.proofs.Issuers.{said_nothing, said_there, read_whole, read_with_rest}
use Rattle.x509_lists.proofs.revoked_certificate.RevokedCertificate.certificate_issuer.Goals as goal

pub returns-in-None : goal.returns-in-None
returns-in-None c = said_nothing _ c.args.self.now.extensions c.new-oid.ensures c.in-None.ensures

pub returns-then-not-is_empty : goal.returns-then-not-is_empty
returns-then-not-is_empty c =
    let said = said_there _ c.args.self.now.extensions c.in-Some.extension.now c.new-oid.ensures c.in-Some.ensures in
    let more = read_with_rest c.in-Ok.rest.now _ (grind (arith, c.is_empty.ensures, c.if-not-is_empty.true)) in
    inr (refl, said ∙ ap names_read c.in-Ok.ensures.reads ∙ more)

pub returns-else-not-is_empty : goal.returns-else-not-is_empty
returns-else-not-is_empty c =
    let said = said_there _ c.args.self.now.extensions c.in-Some.extension.now c.new-oid.ensures c.in-Some.ensures in
    let whole = read_whole c.in-Ok.rest.now _ (grind (arith, c.is_empty.ensures, c.if-not-is_empty.false)) in
    said ∙ ap names_read c.in-Ok.ensures.reads ∙ whole

pub returns-else-is_out_of_memory : goal.returns-else-is_out_of_memory
returns-else-is_out_of_memory c =
    let said = said_there _ c.args.self.now.extensions c.in-Some.extension.now c.new-oid.ensures c.in-Some.ensures in
    let refused = own_refusal is_x509_memory true c.in-Err.e (general_names.read c.in-Some.extension.now.value.now) (sym c.is_out_of_memory.ensures ∙ c.if-is_out_of_memory.false) c.in-Err.ensures.reads in
    inr (refl, said ∙ ap names_read refused)
