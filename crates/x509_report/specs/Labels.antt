-- The labels of PEM blocks (RFC 7468, sections 5 to 7; of the first two, older names that tools still write).
use Rattle.std.specs.Prelude.{ℕ, List, codes, Bool, false, ◌||◌, Option, Some, None, if◌then◌else◌}
use Rattle.std.specs.Str.{bytes_eq, is_utf8}
use Rattle.x509_report_objects.specs.Places.{Wishes}
use Rattle.x509_report_objects.specs.declared.kind.Kind.{Kind}
use Rattle.x509_report_objects.specs.declared.kind.Kind.TheVariants as kinds

-- a label that is no text tells nothing
abbrev pub label_text : List ℕ → Option (List ℕ)
label_text label = if is_utf8 label then Some label else None

-- what stands in a block with this label
abbrev pub kind_labelled : List ℕ → Option Kind
kind_labelled label =
    if bytes_eq label (codes "CERTIFICATE") then Some kinds.Certificate else
    if bytes_eq label (codes "X509 CERTIFICATE") then Some kinds.Certificate else
    if bytes_eq label (codes "TRUSTED CERTIFICATE") then Some kinds.Certificate else
    if bytes_eq label (codes "X509 CRL") then Some kinds.List else
    if bytes_eq label (codes "CERTIFICATE REQUEST") then Some kinds.Request else
    if bytes_eq label (codes "NEW CERTIFICATE REQUEST") then Some kinds.Request else None

abbrev pub kind_in : Option (List ℕ) → Option Kind
kind_in (Some label) = kind_labelled label
kind_in None = None

-- of the wishes, those for objects of this kind
abbrev pub only : Wishes → Kind → Wishes
only w kinds.Certificate = record { certificates = w.certificates; lists = false; requests = false; strict = w.strict; fingerprints = w.fingerprints }
only w kinds.List = record { certificates = false; lists = w.lists; requests = false; strict = w.strict; fingerprints = w.fingerprints }
only w kinds.Request = record { certificates = false; lists = false; requests = w.requests; strict = w.strict; fingerprints = w.fingerprints }

abbrev pub wants_any : Wishes → Bool
wants_any w = w.certificates || w.lists || w.requests
