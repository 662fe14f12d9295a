-- What a report says of a time (RFC 5280, 4.1.2.5).
use Rattle.std.specs.Prelude.{ℕ, ℤ, Bool, List, [], ◌∷◌, ◌++◌, codes, if◌then◌else◌}
use Rattle.std.specs.Fmt.{signed_decimal}
use Rattle.json.specs.Json.{Json, number, string}
use Rattle.x509_times.specs.Moments.{unix_seconds}
use Rattle.x509_times.specs.Rfc3339.{rfc3339_text}
use Rattle.x509_fields.specs.Times.{Time}
use Rattle.x509_report_lines.specs.Says.{optional, record_of}

-- as the internet writes it, where the year has four digits (RFC 3339)
abbrev pub text_members : Time → List (List ℕ × Json)
text_members t = (codes "time", optional (λ s. string s) (rfc3339_text t.moment)) ∷ []

abbrev pub whole_seconds : ℤ → Json
whole_seconds n = number (signed_decimal n)

abbrev pub form_word : Bool → List ℕ
form_word generalized = if generalized then codes "generalized_time" else codes "utc_time"

unfoldable pub time_report : Time → Json
time_report t = record_of (
    text_members t
    ++ (codes "unix", whole_seconds (unix_seconds t.moment))
    ∷ (codes "form", string (form_word t.generalized)) ∷ [])
