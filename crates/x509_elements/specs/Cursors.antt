-- The members of an element, one after another: what each is called.
use Rattle.std.specs.Prelude.{ℕ, ◌+◌, ◌==◌, ◌&&◌, not, Bool, true, List, [], ◌∷◌, drop, codes, Option, Some, None, if◌then◌else◌}
use Rattle.x509_der.specs.declared.header.Header.{Header}
use Rattle.x509_der.specs.Primitives.{is_context, is_universal}
use Rattle.x509_elements.specs.declared.cursor.Called.{Called as RustCalled}
use Rattle.x509_elements.specs.declared.cursor.Coming.{Coming}
use Rattle.x509_elements.specs.declared.cursor.Coming.TheVariants as comings
use Rattle.x509_elements.specs.declared.cursor.Cursor.{Cursor}
use Rattle.x509_elements.specs.declared.field.Stands.{Stands}
use Rattle.x509_elements.specs.declared.field.Stands.TheVariants.{Always}
use Rattle.x509_elements.specs.declared.part.Part.{Part}
use Rattle.x509_elements.specs.declared.part.Part.TheVariants as parts
use Rattle.x509_elements.specs.Fields.{Chosen, Field, chosen, field, is_each}
use Rattle.x509_elements.specs.Parts.{fields_of}
use Rattle.x509_elements.specs.Seen.{begins_element, holds_sequence}
use Rattle.x509_elements.specs.Told.{told_by}

-- the name of its field, its number in a list, the alternative that it is of a choice, and what it is
pub record Called : Type 0 where
  pub name : List ℕ
  pub number : Option ℕ
  pub alternative : List ℕ
  pub part : Part

abbrev pub called_of : RustCalled → Called
called_of c = record { name = c.name.now; number = c.number; alternative = c.alternative.now; part = c.part }

-- the fields that may still come, how many members stand before, and what the identifiers among them told
pub record Standing : Type 0 where
  pub fields : List Field
  pub number : ℕ
  pub told : Part

abbrev pub coming : Coming → List Field
coming (comings.Alone part) = field [] Always part ∷ []
coming (comings.Fields part from) = drop from (fields_of part)

abbrev pub standing_of : Cursor → Standing
standing_of c = record { fields = coming c.coming; number = c.number; told = c.told }

-- before an element that is this part, behind which no field comes
abbrev pub alone : Part → Standing
alone part = record { fields = field [] Always part ∷ []; number = 0; told = parts.Whole }

-- before the first member
abbrev pub first_of : Part → Standing
first_of part = record { fields = fields_of part; number = 0; told = parts.Whole }

-- ---- what a field is

-- what was told before it, where an identifier tells what it is
abbrev pub resolved : Part → Part → Part
resolved parts.Told before = before
resolved part before = part

-- an OCTET STRING (X.690, 8.7) and a BIT STRING (X.690, 8.6), whose contents are no elements by themselves
abbrev pub is_string : ℕ → Header → Bool
is_string n h = is_universal h.class && h.tag.0 == n && not h.constructed

-- whether the contents are such a part: of an extension's value, an element at their front; of the bits of a key, a SEQUENCE
abbrev pub holds : Part → Header → List ℕ → Bool
holds (parts.Value value) h contents = is_string 4 h && begins_element contents
holds parts.RsaKeyBits h contents = is_string 3 h && holds_sequence contents
holds part h contents = true

abbrev pub held : Part → Header → List ℕ → Part
held part h contents = if holds part h contents then part else parts.Whole

-- the alternative of a choice, and what it is; no name where there is no choice, or no such alternative
pub record Alternative : Type 0 where
  pub name : List ℕ
  pub part : Part

abbrev pub alternative : List ℕ → Part → Alternative
alternative name part = record { name = name; part = part }

-- GeneralName (RFC 5280, 4.2.1.6)
abbrev pub general_name : ℕ → Alternative
general_name n =
    if n == 0 then alternative (codes "otherName") parts.OtherName else
    if n == 1 then alternative (codes "rfc822Name") parts.Whole else
    if n == 2 then alternative (codes "dNSName") parts.Whole else
    if n == 3 then alternative (codes "x400Address") parts.Whole else
    if n == 4 then alternative (codes "directoryName") parts.TaggedName else
    if n == 5 then alternative (codes "ediPartyName") parts.EdiPartyName else
    if n == 6 then alternative (codes "uniformResourceIdentifier") parts.Whole else
    if n == 7 then alternative (codes "iPAddress") parts.Whole else
    if n == 8 then alternative (codes "registeredID") parts.Whole else
    alternative [] parts.Whole

abbrev pub alternative_of : Part → Header → Alternative
alternative_of parts.GeneralName h = if is_context h.class then general_name h.tag.0 else alternative [] parts.Whole
alternative_of part h = alternative [] part

-- ---- one member

abbrev pub listed : Stands → ℕ → Option ℕ
listed stands n = if is_each stands then Some n else None

abbrev pub called_by : Field → Option ℕ → Alternative → Called
called_by f number a = record { name = f.name; number = number; alternative = a.name; part = a.part }

-- what this field is called, and what it is, as the member with this number, behind members that told this
abbrev pub called_as : Field → ℕ → Part → Header → List ℕ → Called
called_as f n told h contents = called_by f (listed f.stands n) (alternative_of (held (resolved f.part told) h contents) h)

abbrev pub unknown : Called
unknown = record { name = []; number = None; alternative = []; part = parts.Unknown }

abbrev pub Step : Type 0
Step = Called × Standing

-- the member as its field, and those that may stand behind it; or as no field, behind which none comes
abbrev pub step_by : ℕ → Part → Header → List ℕ → Option Chosen → Step
step_by n told h contents (Some c) =
    (called_as c.0 n told h contents, record { fields = c.1; number = n + 1; told = told_by c.0.part contents told })
step_by n told h contents None = (unknown, record { fields = []; number = n + 1; told = told })

-- the next member, an element with this header and these contents
abbrev pub stepped : Standing → Header → List ℕ → Step
stepped s h contents = step_by s.number s.told h contents (chosen s.fields h)
