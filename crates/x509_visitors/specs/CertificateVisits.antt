-- What a visit of the code stands for.
use Rattle.std.specs.Prelude.{option_copied}
use Rattle.x509_der.specs.Primitives.{bit_string}
use Rattle.x509_der.specs.Promises.{option_view}
use Rattle.x509_fields.specs.Algorithm.{algorithm_of}
use Rattle.x509_names.specs.Names.{name_of}
use Rattle.x509_keys.specs.KeyInfo.{key_info_of}
use Rattle.x509_certs.specs.TbsCertificate.{tbs_of}
use Rattle.x509_certs.specs.UniqueIdentifier.{bits_of_uid}
use Rattle.x509_certs.specs.Validity.{period_of}
use Rattle.x509_visitors.specs.CertificateEvents as events
use Rattle.x509_visitors.specs.ExtensionVisits as extension_visits
use Rattle.x509_visitors.specs.declared.certificate_visit.CertificateVisit.{CertificateVisit}
use Rattle.x509_visitors.specs.declared.certificate_visit.CertificateVisit.TheVariants as visits

unfoldable pub event_of : CertificateVisit → events.Event
event_of (visits.TbsCertificate v) = events.tbs_certificate (tbs_of v.now)
event_of (visits.SignatureAlgorithm v) = events.signature_algorithm (algorithm_of v.now)
event_of (visits.SignatureValue v) = events.signature_value (bit_string v.now)
event_of (visits.Version v) = events.version (v.now.0)
event_of (visits.SerialNumber v) = events.serial_number v.now
event_of (visits.TbsSignatureAlgorithm v) = events.tbs_signature_algorithm (algorithm_of v.now)
event_of (visits.Issuer v) = events.issuer (name_of v.now)
event_of (visits.Validity v) = events.validity (period_of v.now)
event_of (visits.Subject v) = events.subject (name_of v.now)
event_of (visits.SubjectPublicKeyInfo v) = events.subject_public_key_info (key_info_of v.now)
event_of (visits.IssuerUniqueId v) = events.issuer_unique_id (option_view bits_of_uid (option_copied v))
event_of (visits.SubjectUniqueId v) = events.subject_unique_id (option_view bits_of_uid (option_copied v))
event_of (visits.Extensions v) = events.of_extensions (extension_visits.event_of v)
