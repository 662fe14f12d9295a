-- The lines of an object: its own, and where they are asked for those of a list's entries.
use Rattle.std.specs.Prelude.{ℕ, ◌+◌, List, [], ◌∷◌, ◌++◌, Bool, if◌then◌else◌, Option, Some, None, Ok, Err, is_some}
use Rattle.json.specs.Json.{Json}
use Rattle.sha2.specs.Sha256.{sha256}
use Rattle.x509_der.specs.Plan.{Outcome}
use Rattle.x509_der.specs.declared.error.Err.{Err as Refusal}
use Rattle.x509_fields.specs.declared.error.X509Error.{X509Error}
use Rattle.x509_lists.specs.CertificateList.{certificate_list}
use Rattle.x509_lists.specs.RevokedCertificate.{Revoked}
use Rattle.x509_lists.specs.TbsCertList.{TbsList}
use Rattle.x509_fields.specs.Signed.{Signed}
use Rattle.x509_report_objects.specs.Attempts.{wishes_of}
use Rattle.x509_report_objects.specs.Lists.{entry_report}
use Rattle.x509_report_objects.specs.Objects.{object_told}
use Rattle.x509_report_objects.specs.Places.{Found, Wishes}
use Rattle.x509_report_objects.specs.declared.kind.Kind.{Kind}
use Rattle.x509_report_objects.specs.declared.kind.Kind.TheVariants as kinds
use Rattle.x509_report.specs.Dumps.{dump_told}
use Rattle.x509_report.specs.Views.{view_of}
use Rattle.x509_report.specs.Texts.{said}
use Rattle.x509_report.specs.Told.{Told, alone, both, one}
use Rattle.x509_report.specs.declared.options.Asked.{Asked}
use Rattle.x509_report.specs.declared.options.Form.{Form}

-- what is wanted of the objects, in what form it is told, and whether the entries of lists get lines of their own
pub record Asks : Type 0 where
  pub wishes : Wishes
  pub form : Form
  pub entries : Bool
  pub dump : Bool

abbrev pub asks_of : Asked → Asks
asks_of a = record { wishes = wishes_of a.wishes; form = a.form; entries = a.entries; dump = a.dump }

-- a line an entry, from this number on
unfoldable pub entry_lines : Form → Found → Option (List ℕ) → ℕ → List Revoked → List (List ℕ)
entry_lines form p fingerprint n [] = []
entry_lines form p fingerprint n (r ∷ rs) = said form (entry_report p fingerprint n r) ∷ entry_lines form p fingerprint (n + 1) rs

abbrev pub fingerprint_of : Bool → List ℕ → Option (List ℕ)
fingerprint_of wanted octets = if wanted then Some (sha256 octets) else None

abbrev pub entries_of : Outcome (Refusal X509Error) (Signed TbsList) → List Revoked
entries_of (Ok x) = x.1.tbs.revoked_certificates
entries_of (Err e) = []

abbrev pub list_lines : Form → Bool → Found → List ℕ → List (List ℕ)
list_lines form fingerprints p octets = entry_lines form p (fingerprint_of fingerprints octets) 0 (entries_of (certificate_list.read octets))

-- the lines of a list's entries
abbrev pub members_behind : Asks → Found → List ℕ → Option Kind → List (List ℕ)
members_behind a p octets (Some kinds.List) = if a.entries then list_lines a.form a.wishes.fingerprints p octets else []
members_behind a p octets (Some kinds.Certificate) = []
members_behind a p octets (Some kinds.Request) = []
members_behind a p octets None = []

-- the elements of the octets
abbrev pub dump_behind : Asks → List ℕ → List (List ℕ)
dump_behind a octets = if a.dump then dump_told a.form (view_of a.wishes octets) octets else []

-- what stands behind the line of an object of this kind
abbrev pub lines_behind : Asks → Found → List ℕ → Option Kind → List (List ℕ)
lines_behind a p octets kind = members_behind a p octets kind ++ dump_behind a octets

abbrev pub told_of : Asks → Found → List ℕ → Option Kind × Json → Told
told_of a p octets r = both (one a.form (is_some r.0) r.1) (alone (lines_behind a p octets r.0))

unfoldable pub lines_of_object : Asks → Found → List ℕ → Told
lines_of_object a p octets = told_of a p octets (object_told a.wishes p octets)
