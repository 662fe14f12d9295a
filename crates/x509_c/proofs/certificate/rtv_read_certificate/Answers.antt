-- The certificate that was read, or why there is none.
use Rattle.std.proofs.Common.{ℕ, List, Bool, Bor, true, Ok, Err, refl, subst, rules}
use Rattle.x509_der.specs.Promises.{ReadsExactly, ReadsWhere}
use Rattle.x509_fields.specs.Errors.{is_x509_memory}
use Rattle.x509_certs.specs.Certificate.{certificate_by, certificate_of, is_deep}
use Rattle.x509_certs.specs.declared.certificate.X509Certificate.{X509Certificate}
use Rattle.x509_c.specs.Certificates.{ShowsCertificate, read_of}
use Rattle.x509_c.proofs.Telling.{tells_read, tells_refused}
use Rattle.x509_c.proofs.certificate.rtv_read_certificate.Goals as goal

pub returns-in-Ok : goal.returns-in-Ok
returns-in-Ok c =
    let plan = certificate_by c.args.deep c.args.strict in
    let read : Bor (List ℕ) × X509Certificate = (c.in-Ok.rest, c.in-Ok.read) in
    let exact : ReadsExactly is_x509_memory true read_of plan c.args.der.now (Ok read) =
    subst (λ (d : Bool). ReadsExactly is_x509_memory true read_of (certificate_by d c.args.strict) c.args.der.now (Ok read)) c.parser-parser.ensures.deep
    (subst (λ (s : Bool). ReadsExactly is_x509_memory true read_of (certificate_by (is_deep c.parser-parser.result) s) c.args.der.now (Ok read)) c.parser-parser.ensures.strict c.in-Ok.ensures.exact) in
    let reads : ReadsWhere is_x509_memory true read_of plan c.args.der.now (Ok read) = record {
      reads = exact;
      located = tt;
      locates = λ why left refuses. let other = exact.refuses why left refuses in absurd cc;
    } in
    let shown : ShowsCertificate c.certificate_row.result c.put_rows.new.rows (certificate_of c.in-Ok.read) c.in-Ok.rest.now = search rules in
    tells_read true read_of plan c.args.der.now _ _ read c.args.at.now reads shown

pub returns-in-Err : goal.returns-in-Err
returns-in-Err c =
    let plan = certificate_by c.args.deep c.args.strict in
    let reads : ReadsWhere is_x509_memory true read_of plan c.args.der.now (Err c.located.result) =
    subst (λ (d : Bool). ReadsWhere is_x509_memory true read_of (certificate_by d c.args.strict) c.args.der.now (Err c.located.result)) c.parser-parser.ensures.deep
    (subst (λ (s : Bool). ReadsWhere is_x509_memory true read_of (certificate_by (is_deep c.parser-parser.result) s) c.args.der.now (Err c.located.result)) c.parser-parser.ensures.strict c.located.ensures) in
    tells_refused true read_of plan c.args.der.now _ _ c.located.result c.args.at.now _ _ reads (refl, refl) c.refused.ensures.at c.refused.ensures.status
