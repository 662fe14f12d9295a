-- Whose certificates the entries of an indirect list are, and the entry of an issuer's serial (RFC 5280, 5.3.3).
use Rattle.std.specs.Prelude.{◌≡◌, ◌==◌, ◌+◌, ◌⊎◌, ℕ, List, [], ◌∷◌, Bool, true, false, cond, Option, Some, None, Result, Ok, Err, MatchOption, MatchResult, slice_get}
use Rattle.std.specs.Int.Digits.{number_from_digits}
use Rattle.std.specs.List.{find, list_any}
use Rattle.std.specs.Str.{bytes_eq}
use Rattle.x509_der.specs.declared.error.Err.{Err as Refusal}
use Rattle.x509_der.specs.Plan.{Outcome, nothing_left}
use Rattle.x509_fields.specs.declared.error.X509Error.{X509Error}
use Rattle.x509_fields.specs.declared.error.X509Error.TheVariants.{InvalidExtensions, OutOfMemory}
use Rattle.x509_general_names.specs.AlternativeNames.{general_names}
use Rattle.x509_general_names.specs.GeneralName.{GeneralNameValue, DirectoryName}
use Rattle.x509_extensions.specs.Extension.{Extension}
use Rattle.x509_lists.specs.RevokedCertificate.{Revoked, revoked_of}
use Rattle.x509_lists.specs.TbsCertList.{TbsList}
use Rattle.x509_lists.specs.declared.revoked_certificate.RevokedCertificate.{RevokedCertificate}

-- ---- what an entry says

-- certificateIssuer, 2.5.29.29
abbrev pub certificate_issuer : List ℕ
certificate_issuer = 0x55 ∷ 0x1d ∷ 0x1d ∷ []

-- of the issuer of its certificate and of those behind it: nothing, names, or what can't be read
pub data Said : Type 0 where
  nothing : Said
  names : List GeneralNameValue → Said
  unreadable : Said

-- by names, where some stand there
abbrev pub said_of : Option (List GeneralNameValue) → Said
said_of None = nothing
said_of (Some said) = names said

-- CertificateIssuer ::= GeneralNames, with nothing behind them
abbrev pub names_read : Outcome (Refusal X509Error) (List GeneralNameValue) → Said
names_read (Ok x) = cond (nothing_left x.0) (names x.1) unreadable
names_read (Err e) = unreadable

abbrev pub said_in : Option Extension → Said
said_in None = nothing
said_in (Some extension) = names_read (general_names.read extension.value)

abbrev pub is_certificate_issuer : Extension → Bool
is_certificate_issuer extension = bytes_eq extension.oid certificate_issuer

-- by the first extension with that identifier
abbrev pub said_by : List Extension → Said
said_by extensions = said_in (find is_certificate_issuer extensions)

-- ---- whose it is

-- a directory name, octet for octet
abbrev pub is_name : List ℕ → GeneralNameValue → Bool
is_name issuer (DirectoryName name) = bytes_eq name.raw issuer
is_name issuer _ = false

-- Whether an entry is of this issuer, where the entry before it is, or isn't: it is of the names that it says, and where it says nothing, of
-- the issuer of the entry before it. None where what it says can't be read.
abbrev pub is_of : List ℕ → Bool → Said → Option Bool
is_of issuer before nothing = Some before
is_of issuer before (names said) = Some (list_any (is_name issuer) said)
is_of issuer before unreadable = None

-- ---- the entry of a serial

-- where it stands, that there is none, or that what an entry before it says can't be read
pub data Place : Type 0 where
  at : ℕ → Place
  nowhere : Place
  unclear : Place

abbrev pub place_if : Option Bool → Bool → ℕ → (Bool → Place) → Place
place_if None has position more = unclear
place_if (Some false) has position more = more false
place_if (Some true) has position more = cond has (at position) (more true)

-- the first of these entries, from this position on, that is of the issuer and has the number; before says whether the entry before them is of
-- the issuer, and of the list's first entry, whether the list's own issuer is
abbrev pub place_of : List ℕ → ℕ → Bool → ℕ → List Revoked → Place
place_of issuer number before position [] = nowhere
place_of issuer number before position (entry ∷ entries) =
    place_if (is_of issuer before (said_by entry.extensions)) (number_from_digits 256 entry.serial == number) position
    (λ ours. place_of issuer number ours (position + 1) entries)

-- in a list of this issuer
abbrev pub place_for : List ℕ → List Revoked → List ℕ → ℕ → Place
place_for list_issuer all issuer number = place_of issuer number (bytes_eq list_issuer issuer) 0 all

-- the position of that entry; none where there is none
abbrev pub IsPlace : Place → Option ℕ → Type 0
IsPlace place found = MatchOption found (place ≡ nowhere) (λ position. place ≡ at position)

-- the same, and the entry
abbrev pub IsFoundFor : List Revoked → Place → Option (ℕ × RevokedCertificate) → Type 0
IsFoundFor all place found = MatchOption found (place ≡ nowhere) (λ x. (place ≡ at x.0) × (slice_get all x.0 ≡ Some (revoked_of x.1)))

-- ---- a look-up on a whole list

abbrev pub place_on : TbsList → List ℕ → ℕ → Place
place_on list = place_for list.issuer.raw list.revoked_certificates

-- what is promised of that place; or memory is wanting, or nobody knows whose the entries up to it are
abbrev pub FindsFor : {A : Type 0} → (Place → A → Type 0) → Place → Result A X509Error → Type 0
FindsFor Is place result = MatchResult result (Is place) (λ e. (e ≡ OutOfMemory) ⊎ ((e ≡ InvalidExtensions) × (place ≡ unclear)))
