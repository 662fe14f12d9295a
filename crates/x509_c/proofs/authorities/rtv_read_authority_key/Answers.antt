-- The key that was read, or why there is none.
use Rattle.std.proofs.Common.{List, refl, true, subst}
use Rattle.x509_general_names.specs.AuthorityKeyIdentifier.{authority_key_identifier, authority_key_identifier_of}
use Rattle.x509_general_names.specs.GeneralName.{GeneralNameValue}
use Rattle.x509_c.specs.Authorities.{ShowsAuthorityKey}
use Rattle.x509_c.specs.GeneralNames.{IsGeneralNameRow}
use Rattle.x509_c.specs.Rows.{RowsShow}
use Rattle.x509_c.proofs.Telling.{tells_read, tells_refused}
use Rattle.x509_c.proofs.authorities.rtv_read_authority_key.Goals as goal

pub returns-in-Ok : goal.returns-in-Ok
returns-in-Ok c =
    let shown : ShowsAuthorityKey c.authority_key_row.result c.put_rows.new.rows (authority_key_identifier_of c.in-Ok.read) = record {
      fields = c.authority_key_row.ensures;
      issuer = subst (λ (names : List GeneralNameValue). RowsShow IsGeneralNameRow c.put_rows.new.rows names) c.issuer_names.ensures c.put_rows.ensures;
    } in
    tells_read true _ authority_key_identifier c.args.value.now _ _ _ c.args.at.now c.in-Ok.ensures shown

pub returns-in-Err : goal.returns-in-Err
returns-in-Err c = tells_refused true _ authority_key_identifier c.args.value.now _ _ c.in-Err.refusal c.args.at.now _ _ c.in-Err.ensures (refl, refl) c.refused.ensures.at c.refused.ensures.status
