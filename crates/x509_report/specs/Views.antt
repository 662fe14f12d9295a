-- Which of its readers an object is seen by.
use Rattle.std.specs.Prelude.{ℕ, nat_lt, Bool, true, List, Option, Some, None, Ok, Err, codes, if◌then◌else◌}
use Rattle.x509_certs.specs.Certificate.{certificate}
use Rattle.x509_der.specs.Plan.{Outcome}
use Rattle.x509_der.specs.declared.error.Err.{Err as Refusal}
use Rattle.x509_der.specs.declared.error.Located.{Located}
use Rattle.x509_elements.specs.declared.part.Part.{Part}
use Rattle.x509_elements.specs.declared.part.Part.TheVariants as parts
use Rattle.x509_fields.specs.Fields.{Field}
use Rattle.x509_fields.specs.declared.error.X509Error.{X509Error}
use Rattle.x509_lists.specs.CertificateList.{certificate_list}
use Rattle.x509_report.specs.declared.views.View.{View}
use Rattle.x509_report.specs.declared.views.View.TheVariants as views
use Rattle.x509_report_objects.specs.Objects.{refused_at}
use Rattle.x509_report_objects.specs.Places.{Wishes}
use Rattle.x509_requests.specs.Request.{certification_request}

-- why a reader refuses the octets, and at which of them; none where it takes them
abbrev pub refusal_by : {A : Type 0} → Field A → List ℕ → Outcome (Refusal X509Error) A → Option (Located X509Error)
refusal_by field octets (Ok x) = None
refusal_by field octets (Err e) = Some (record { why = e; at = refused_at field octets })

abbrev pub refusal_of : {A : Type 0} → Field A → List ℕ → Option (Located X509Error)
refusal_of field octets = refusal_by field octets (field.read octets)

-- the first reader that takes the octets, and else the one that refuses them at the furthest octet, the first of such
abbrev pub seen_by : View → Part → Option (Located X509Error) → View
seen_by (views.Taken p) part refusal = views.Taken p
seen_by views.Nothing part None = views.Taken part
seen_by views.Nothing part (Some e) = views.Refused part e
seen_by (views.Refused p first) part None = views.Taken part
seen_by (views.Refused p first) part (Some e) = if nat_lt first.at e.at then views.Refused part e else views.Refused p first

abbrev pub seen_where : Bool → View → Part → Option (Located X509Error) → View
seen_where wanted view part refusal = if wanted then seen_by view part refusal else view

unfoldable pub view_of : Wishes → List ℕ → View
view_of w octets =
    seen_where w.requests (seen_where w.lists (seen_where w.certificates views.Nothing
    parts.Certificate (refusal_of (certificate true) octets))
    parts.List (refusal_of certificate_list octets))
    parts.Request (refusal_of certification_request octets)

-- what elements are named by
abbrev pub part_of : View → Part
part_of views.Nothing = parts.Whole
part_of (views.Refused part e) = part
part_of (views.Taken part) = part

abbrev pub part_word : Part → List ℕ
part_word parts.Certificate = codes "certificate"
part_word parts.List = codes "list"
part_word parts.Request = codes "request"
part_word _ = codes "object"
