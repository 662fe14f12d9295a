-- The line of an object: where it was found, and what the first reader says that takes it; or why none does.
use Rattle.std.specs.Prelude.{ℕ, List, [], ◌∷◌, ◌++◌, codes, Bool, true, false, not, ◌&&◌, if◌then◌else◌, Option, Some, None, Result, Ok, Err, length, ◌-◌}
use Rattle.json.specs.Json.{Json, array, boolean, string}
use Rattle.x509_der.specs.Plan.{Outcome, added}
use Rattle.x509_der.specs.Words.{refusal_word}
use Rattle.x509_der.specs.declared.error.Err.{Err as Refusal}
use Rattle.x509_der.specs.declared.error.Err.TheVariants as refusals
use Rattle.x509_fields.specs.declared.error.X509Error.{X509Error}
use Rattle.x509_fields.specs.declared.error.X509Error.TheVariants.{Generic}
use Rattle.x509_report_objects.specs.declared.kind.Kind.{Kind}
use Rattle.x509_report_objects.specs.declared.kind.Kind.TheVariants as kinds
use Rattle.x509_fields.specs.Errors.{x509_word}
use Rattle.x509_fields.specs.Fields.{Field}
use Rattle.x509_certs.specs.Certificate.{Certificate, certificate}
use Rattle.x509_lists.specs.CertificateList.{certificate_list}
use Rattle.x509_lists.specs.TbsCertList.{TbsList}
use Rattle.x509_requests.specs.Request.{certification_request}
use Rattle.x509_requests.specs.RequestInfo.{RequestInfo}
use Rattle.x509_fields.specs.Signed.{Signed}
use Rattle.x509_elements.specs.declared.part.Part.{Part}
use Rattle.x509_elements.specs.declared.part.Part.TheVariants as parts
use Rattle.x509_report_lines.specs.Says.{count, items_of, list_of, optional, record_of}
use Rattle.x509_report_objects.specs.Certificates.{certificate_members}
use Rattle.x509_report_objects.specs.Errors.{refusal_name}
use Rattle.x509_report_objects.specs.Lists.{list_members}
use Rattle.x509_report_objects.specs.Places.{Found, Wishes, place_members, octets_members}
use Rattle.x509_elements.specs.Uses.{Use}
use Rattle.x509_report_objects.specs.Leniencies.{first_uses, lenient_members, uses_unless}
use Rattle.x509_report_objects.specs.RefusedValues.{any_in_list, any_in_request, any_refused, path_in, refused_members}
use Rattle.x509_report_objects.specs.Requests.{request_members}

-- whether it stands plainly, and how many octets stand behind it
abbrev pub standing_members : Bool → List ℕ → List (List ℕ × Json)
standing_members plain rest = (codes "strict", boolean plain) ∷ (codes "behind", count (length rest)) ∷ []

-- the values of its extensions that can't be read, and the lenient rules that it uses
abbrev pub found_members : Bool → Bool → Part → List ℕ → List (List ℕ × Json)
found_members plain refused part octets = refused_members refused part octets ++ lenient_members plain part octets

abbrev pub kind_word : Kind → List ℕ
kind_word kinds.Certificate = codes "certificate"
kind_word kinds.List = codes "list"
kind_word kinds.Request = codes "request"

-- which part it is, whole, where paths and rules are told of it
abbrev pub part_of : Kind → Part
part_of kinds.Certificate = parts.Certificate
part_of kinds.List = parts.List
part_of kinds.Request = parts.Request

-- the object's own members, and behind them what was found
unfoldable pub object_report : Kind → Wishes → Found → List ℕ → Bool → Bool → List ℕ → List (List ℕ × Json) → Json
object_report kind w p octets plain refused rest members = record_of (
    place_members (kind_word kind) p
    ++ octets_members w.fingerprints p octets
    ++ standing_members plain rest
    ++ members
    ++ found_members plain refused (part_of kind) octets)

-- ---- which report stands for an object: that of the first reader that takes it

-- why a reader refuses, and at which of the octets that it was given
pub record Refused : Type 0 where
  pub why : Refusal X509Error
  pub at : ℕ

-- the octet at which the grammar refuses: what is left there is not read
abbrev pub refused_at : {A : Type 0} → Field A → List ℕ → ℕ
refused_at field octets = length octets - field.stop added octets 0

-- what was tried, why it failed, at which octet, and the path of fields that leads there
abbrev pub attempt_members : List ℕ → Option (List ℕ) → List ℕ → Option ℕ → Option (List ℕ) → List (List ℕ × Json)
attempt_members kind error word at path =
    (codes "kind", string kind) ∷
    (codes "error", optional (λ s. string s) error) ∷
    (codes "word", string word) ∷
    (codes "at", optional count at) ∷
    (codes "path", optional (λ s. string s) path) ∷ []

-- and the lenient rules that were needed
abbrev pub attempt_report : List ℕ → Option (List ℕ) → List ℕ → Option ℕ → Option (List ℕ) → Json → Json
attempt_report kind error word at path rules = record_of (attempt_members kind error word at path ++ (codes "leniencies", rules) ∷ [])

-- a reader of a kind that was tried, and why it refuses
pub record Attempted : Type 0 where
  pub kind : Kind
  pub refused : Refused

-- a refusal of what a strict reader alone doesn't take
abbrev pub is_strict : Refusal X509Error → Bool
is_strict (refusals.Error Generic) = true
is_strict _ = false

-- the rules that were needed for what a strict reader refuses
abbrev pub needed : Part → List ℕ → Refusal X509Error → List Use
needed part octets why = uses_unless (not (is_strict why)) part octets

-- the octet of the first rule that was needed, or else that of the refusal
abbrev pub octet_of : ℕ → List Use → ℕ
octet_of at [] = at
octet_of at (u ∷ us) = u.at

abbrev pub told_of : List ℕ → Kind → Refusal X509Error → List Use → ℕ → Json
told_of octets kind why rules at =
    attempt_report (kind_word kind) (Some (refusal_name why)) (refusal_word x509_word why) (Some at)
    (path_in (part_of kind) octets at) (first_uses (part_of kind) octets rules)

abbrev pub tried_with : List ℕ → Attempted → List Use → Json
tried_with octets a rules = told_of octets a.kind a.refused.why rules (octet_of a.refused.at rules)

abbrev pub tried_report : List ℕ → Attempted → Json
tried_report octets a = tried_with octets a (needed (part_of a.kind) octets a.refused.why)

abbrev pub tried_by : Kind → Option Refused → List Attempted
tried_by kind (Some e) = record { kind = kind; refused = e } ∷ []
tried_by kind None = []

-- of each kind, why its reader refuses where it was tried
pub record Tried : Type 0 where
  pub certificate : Option Refused
  pub list : Option Refused
  pub request : Option Refused

abbrev pub all_tried : Tried → List Attempted
all_tried t = tried_by kinds.Certificate t.certificate ++ tried_by kinds.List t.list ++ tried_by kinds.Request t.request

unfoldable pub refusal_report : Wishes → Found → List ℕ → Tried → Json
refusal_report w p octets tried = record_of (
    place_members (codes "refusal") p
    ++ octets_members w.fingerprints p octets
    ++ (codes "tried", list_of (tried_report octets) (all_tried tried)) ∷ [])

-- of octets that no reader was given: what failed before
unfoldable pub failed_report : Wishes → Found → List ℕ → List ℕ → List ℕ → Json
failed_report w p octets kind word = record_of (
    place_members (codes "refusal") p
    ++ octets_members w.fingerprints p octets
    ++ (codes "tried", array (items_of (attempt_report kind None word None None (first_uses parts.Unknown [] []) ∷ []))) ∷ [])

-- of a block that holds none of the objects that are wanted, by its label
unfoldable pub skipped_report : Wishes → Found → List ℕ → Json
skipped_report w p octets = record_of (place_members (codes "skipped") p ++ octets_members w.fingerprints p octets)

-- what a reader says of the octets, or why it refuses
abbrev pub Told : Type 0
Told = Result Json Refused

-- where only plain objects are wanted, another is refused as the strict readers refuse it
abbrev pub not_plain : Refused
not_plain = record { why = refusals.Error Generic; at = 0 }

abbrev pub told_by : Wishes → Bool → Json → Told
told_by w plain report = if w.strict && not plain then Err not_plain else Ok report

abbrev pub refused_told : {A : Type 0} → Field A → List ℕ → Refusal X509Error → Told
refused_told field octets e = Err (record { why = e; at = refused_at field octets })

-- what is told of a kind: its grammar, its own members with or without fingerprints, and whether a value of its extensions can't be read
pub record Telling (A : Type 0) : Type 1 where
  pub kind : Kind
  pub field : Field A
  pub members : Bool → A → List (List ℕ × Json)
  pub refuses : A → Bool

abbrev pub of_certificates : Telling Certificate
of_certificates = record { kind = kinds.Certificate; field = certificate true; members = certificate_members; refuses = λ c. any_refused c.tbs.extensions }

abbrev pub of_lists : Telling (Signed TbsList)
of_lists = record { kind = kinds.List; field = certificate_list; members = λ _. list_members; refuses = λ l. any_in_list l.tbs }

abbrev pub of_requests : Telling (Signed RequestInfo)
of_requests = record { kind = kinds.Request; field = certification_request; members = request_members; refuses = λ r. any_in_request r.tbs }

abbrev pub told : {A : Type 0} → Telling A → Wishes → Found → List ℕ → Outcome (Refusal X509Error) A → Told
told t w p octets (Ok x) =
    told_by w (t.field.marks octets) (object_report t.kind w p octets (t.field.marks octets) (t.refuses x.1) x.0 (t.members w.fingerprints x.1))
told t w p octets (Err e) = refused_told t.field octets e

abbrev pub is_wanted : Wishes → Kind → Bool
is_wanted w kinds.Certificate = w.certificates
is_wanted w kinds.List = w.lists
is_wanted w kinds.Request = w.requests

-- the reader's report with its kind, or what comes next behind its refusal
abbrev pub or_next : Kind → Told → (Option Refused → Option Kind × Json) → Option Kind × Json
or_next kind (Ok report) next = (Some kind, report)
or_next kind (Err e) next = next (Some e)

abbrev pub first_of : Bool → Kind → Told → (Option Refused → Option Kind × Json) → Option Kind × Json
first_of true kind told next = or_next kind told next
first_of false kind told next = next None

abbrev pub first_by : {A : Type 0} → Telling A → Wishes → Found → List ℕ → (Option Refused → Option Kind × Json) → Option Kind × Json
first_by t w p octets next = first_of (is_wanted w t.kind) t.kind (told t w p octets (t.field.read octets)) next

-- which kind it is, where a reader takes it, and its line
unfoldable pub object_told : Wishes → Found → List ℕ → Option Kind × Json
object_told w p octets =
    first_by of_certificates w p octets λ first.
    first_by of_lists w p octets λ second.
    first_by of_requests w p octets λ third.
    (None, refusal_report w p octets (record { certificate = first; list = second; request = third }))
