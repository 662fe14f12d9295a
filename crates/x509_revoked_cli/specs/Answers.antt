-- What is said of a serial (RFC 5280, 5.3.1 and 5.1.2.6).
use Rattle.std.specs.Prelude.{ℕ, ◌==◌, not, Bool, true, false, List, [], ◌∷◌, ◌++◌, Option, Some, None, codes, unwrap_or, option_map}
use Rattle.std.specs.List.{find}
use Rattle.std.specs.Str.{bytes_eq}
use Rattle.x509_extensions.specs.Extension.{Extension}
use Rattle.x509_extensions.specs.Parsed.{Parsed, ReasonCode}
use Rattle.x509_fields.specs.Times.{Time, rfc3339_text}
use Rattle.x509_lists.specs.RevokedCertificate.{Revoked}
use Rattle.x509_names.specs.Objects as objects

-- ---- the reason

-- CRLReason ::= ENUMERATED { .. } (5.3.1)
abbrev pub reasons : List (ℕ × List ℕ)
reasons =
    (0, codes "unspecified") ∷ (1, codes "keyCompromise") ∷ (2, codes "cACompromise") ∷ (3, codes "affiliationChanged") ∷ (4, codes "superseded")
    ∷ (5, codes "cessationOfOperation") ∷ (6, codes "certificateHold") ∷ (8, codes "removeFromCRL") ∷ (9, codes "privilegeWithdrawn") ∷ (10, codes "aACompromise") ∷ []

-- of every other number, `unknown`
abbrev pub reason_name : ℕ → List ℕ
reason_name n = unwrap_or (option_map (λ x. x.1) (find (λ x. x.0 == n) reasons)) (codes "unknown")

abbrev pub reason_said : Parsed → Option ℕ
reason_said (ReasonCode code) = Some code
reason_said _ = None

abbrev pub reason_in : Option Extension → Option ℕ
reason_in None = None
reason_in (Some extension) = reason_said extension.parsed

-- what the first extension reasonCode says; none where none stands, or where its value can't be read
abbrev pub reason_of : List Extension → Option ℕ
reason_of extensions = reason_in (find (λ e. bytes_eq e.oid objects.reason_code) extensions)

-- as a word; a dash where none is said
abbrev pub reason_text : Option ℕ → List ℕ
reason_text None = codes "-"
reason_text (Some reason) = reason_name reason

-- ---- whether the certificate is revoked

-- an entry with the reason removeFromCRL takes a certificate off a list (5.3.1)
abbrev pub takes_off : Option ℕ → Bool
takes_off None = false
takes_off (Some reason) = reason == 8

abbrev pub state_word : Bool → List ℕ
state_word true = codes "removed"
state_word false = codes "revoked"

abbrev pub state_name : Option ℕ → List ℕ
state_name reason = state_word (takes_off reason)

abbrev pub is_revoked : Option Revoked → Bool
is_revoked None = false
is_revoked (Some entry) = not (takes_off (reason_of entry.extensions))

-- ---- the line

-- when (RFC 3339); a dash where the year hasn't four digits
abbrev pub date_text : Time → List ℕ
date_text date = unwrap_or (rfc3339_text date.moment) (codes "-")

-- of a serial as it was asked for, and its entry
unfoldable pub answer_line : List ℕ → Option Revoked → List ℕ
answer_line serial None = serial ++ codes " not on the list\n"
answer_line serial (Some entry) =
    let reason = reason_of entry.extensions in
    serial ++ codes " " ++ state_name reason ++ codes " " ++ date_text entry.revocation_date ++ codes " " ++ reason_text reason ++ codes "\n"
