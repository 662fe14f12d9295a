use Rattle.x509_fields.specs.Fields.{lifted}
use Rattle.x509_values.specs.TimestampList.{timestamps}
use Rattle.x509_extensions.specs.Parsed.{SCT}
use Rattle.x509_extensions.proofs.Refusing.{told_made}
use Rattle.x509_extensions.proofs.refusal.kind_refusal.Goals as goal

pub returns-in-SCT : goal.returns-in-SCT
returns-in-SCT c = rw c.in-SCT.is (told_made (λ v. SCT v) (lifted timestamps) _ _ c.timestamps_refusal.ensures)
