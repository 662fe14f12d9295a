-- The entry that was read, or why there is none.
use Rattle.std.proofs.Common.{List, map, refl, true, subst}
use Rattle.x509_extensions.specs.Extension.{extension_of}
use Rattle.x509_extensions.specs.declared.extension.X509Extension.{X509Extension}
use Rattle.x509_lists.specs.RevokedCertificate.{revoked}
use Rattle.x509_c.specs.Extensions.{IsExtensionRow}
use Rattle.x509_c.specs.Rows.{RowsShow}
use Rattle.x509_c.proofs.Telling.{tells_read, tells_refused}
use Rattle.x509_c.proofs.entries.rtv_read_entry.Goals as goal

pub returns-in-Ok : goal.returns-in-Ok
returns-in-Ok c = tells_read true _ revoked c.args.der.now _ _ _ c.args.at.now c.in-Ok.ensures (record {
  fields = c.revoked_row.ensures;
  extensions = subst (λ (xs : List X509Extension). RowsShow IsExtensionRow c.put_rows.new.rows (map extension_of xs)) c.extensions.ensures c.put_rows.ensures;
  left = refl;
})

pub returns-in-Err : goal.returns-in-Err
returns-in-Err c = tells_refused true _ revoked c.args.der.now _ _ c.in-Err.refusal c.args.at.now _ _ c.in-Err.ensures (refl, refl, refl) c.refused.ensures.at c.refused.ensures.status
