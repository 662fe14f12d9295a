-- What a visit of the code stands for.
use Rattle.std.specs.Prelude.{map, option_copied}
use Rattle.x509_der.specs.Primitives.{bit_string}
use Rattle.x509_der.specs.Promises.{option_view}
use Rattle.x509_fields.specs.Algorithm.{algorithm_of}
use Rattle.x509_names.specs.Names.{name_of}
use Rattle.x509_fields.specs.Times.{time_of}
use Rattle.x509_lists.specs.RevokedCertificate.{revoked_of}
use Rattle.x509_lists.specs.TbsCertList.{tbs_list_of}
use Rattle.x509_visitors.specs.ListEvents as events
use Rattle.x509_visitors.specs.ExtensionVisits as extension_visits
use Rattle.x509_visitors.specs.declared.list_visit.ListVisit.{ListVisit}
use Rattle.x509_visitors.specs.declared.list_visit.ListVisit.TheVariants as visits

unfoldable pub event_of : ListVisit → events.Event
event_of (visits.TbsCertList v) = events.tbs_cert_list (tbs_list_of v.now)
event_of (visits.SignatureAlgorithm v) = events.signature_algorithm (algorithm_of v.now)
event_of (visits.SignatureValue v) = events.signature_value (bit_string v.now)
event_of (visits.Version v) = events.version (option_view (λ n. n.0) (option_copied v))
event_of (visits.TbsSignatureAlgorithm v) = events.tbs_signature_algorithm (algorithm_of v.now)
event_of (visits.Issuer v) = events.issuer (name_of v.now)
event_of (visits.ThisUpdate v) = events.this_update (time_of v.now)
event_of (visits.NextUpdate v) = events.next_update (option_view time_of (option_copied v))
event_of (visits.RevokedCertificates v) = events.revoked_certificates (map revoked_of v.now)
event_of (visits.RevokedCertificate v) = events.revoked_certificate (revoked_of v.now)
event_of (visits.Extensions v) = events.of_extensions (extension_visits.event_of v)
