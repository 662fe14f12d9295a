-- What the steps towards the line of an object come to.
use Rattle.std.specs.Prelude.{◌≡◌, Bool, true, false, Some, None, Ok, Err, option_map}
use Rattle.json.specs.Json.{Json}
use Rattle.x509_der.specs.declared.error.Located.{Located}
use Rattle.x509_fields.specs.declared.error.X509Error.{X509Error}
use Rattle.x509_report_lines.specs.Says.{OnLine, Says}
use Rattle.x509_report_objects.specs.declared.objects.Attempt.{Attempt}
use Rattle.x509_report_objects.specs.declared.objects.Attempt.TheVariants as attempts
use Rattle.x509_report_objects.specs.declared.objects.Found.{Found as RustFound}
use Rattle.x509_report_objects.specs.declared.objects.Tried.{Tried as RustTried}
use Rattle.x509_report_objects.specs.declared.objects.Wishes.{Wishes as RustWishes}
use Rattle.x509_report_objects.specs.Objects.{Refused, Told, Tried}
use Rattle.x509_report_objects.specs.Places.{Found, Wishes}

abbrev pub found_of : RustFound → Found
found_of p = record { file = p.file.now; index = p.index; offset = p.offset; label = option_map (λ s. s.now) p.label }

abbrev pub wishes_of : RustWishes → Wishes
wishes_of w = record { certificates = w.certificates; lists = w.lists; requests = w.requests; strict = w.strict; fingerprints = w.fingerprints }

abbrev pub refused_of : Located X509Error → Refused
refused_of e = record { why = e.why; at = e.at }

abbrev pub tried_of : RustTried → Tried
tried_of t = record { certificate = option_map refused_of t.certificate; list = option_map refused_of t.list; request = option_map refused_of t.request }

-- the reader's report is written, or nothing is
abbrev pub Attempts : Bool → Told → OnLine → OnLine → Attempt → Type 0
Attempts wanted told old new attempts.Taken = (wanted ≡ true) × (report : Json) × (told ≡ Ok report) × Says old new report
Attempts wanted told old new (attempts.Left None) = (wanted ≡ false) × (new ≡ old)
Attempts wanted told old new (attempts.Left (Some e)) = (wanted ≡ true) × (told ≡ Err (refused_of e)) × (new ≡ old)
