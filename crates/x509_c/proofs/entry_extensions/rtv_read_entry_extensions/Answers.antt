-- The extensions of the entries that were read, or why there are none.
use Rattle.std.proofs.Common.{refl, true}
use Rattle.x509_extensions.specs.Extension.{extension_of}
use Rattle.x509_lists.specs.CertificateList.{certificate_list}
use Rattle.x509_lists.specs.declared.revoked_certificate.RevokedCertificate.{RevokedCertificate}
use Rattle.x509_lists.specs.RevokedCertificate.{Revoked, revoked_of}
use Rattle.x509_c.specs.EntryExtensions.{IsEntryExtensionRow}
use Rattle.x509_c.proofs.Telling.{tells_items, tells_refused}
use Rattle.x509_c.proofs.entry_extensions.rtv_read_entry_extensions.Goals as goal

pub returns-in-Ok : goal.returns-in-Ok
returns-in-Ok c = tells_items true _ certificate_list c.args.der.now IsEntryExtensionRow (λ list. list.tbs.revoked_certificates) (λ (r : Revoked). r.extensions) revoked_of extension_of (λ (r : RevokedCertificate). r.extensions) (λ _. refl) _ _ _ _ c.args.at.now _ _ _ _ c.in-Ok.ensures c.as_slice-entries.ensures refl c.tell_items.ensures

pub returns-in-Err : goal.returns-in-Err
returns-in-Err c = tells_refused true _ certificate_list c.args.der.now _ _ c.in-Err.refusal c.args.at.now _ _ c.in-Err.ensures (refl, refl) c.refused.ensures.at c.refused.ensures.status
