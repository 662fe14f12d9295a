-- Fields: their names, and which elements stand as one.
use Rattle.std.specs.Prelude.{ℕ, ◌==◌, ◌||◌, ◌&&◌, Bool, true, false, List, [], ◌∷◌, Option, Some, None, if◌then◌else◌}
use Rattle.x509_der.specs.declared.header.Header.{Header}
use Rattle.x509_der.specs.Primitives.{is_universal, is_context}
use Rattle.x509_elements.specs.declared.field.Stands.{Stands}
use Rattle.x509_elements.specs.declared.field.Stands.TheVariants as stands
use Rattle.x509_elements.specs.declared.part.Part.{Part}

pub record Field : Type 0 where
  pub name : List ℕ
  pub stands : Stands
  pub part : Part

abbrev pub field : List ℕ → Stands → Part → Field
field name stands part = record { name = name; stands = stands; part = part }

-- any number of such fields stand one behind another
abbrev pub is_each : Stands → Bool
is_each stands.Each = true
is_each _ = false

-- an element with this header stands as such a field: each does where the field is never absent
abbrev pub fits : Stands → Header → Bool
fits stands.Always h = true
fits stands.Each h = true
fits (stands.Universal n) h = is_universal h.class && h.tag.0 == n
fits (stands.Context n) h = is_context h.class && h.tag.0 == n
fits (stands.Number n) h = h.tag.0 == n
fits stands.Time h = is_universal h.class && (h.tag.0 == 23 || h.tag.0 == 24)

-- a field, and those that may stand behind it
abbrev pub Chosen : Type 0
Chosen = Field × List Field

abbrev pub behind : Field → List Field → List Field
behind f fs = if is_each f.stands then f ∷ fs else fs

-- the first field that the element stands as: those before it are absent
abbrev pub chosen : List Field → Header → Option Chosen
chosen [] h = None
chosen (f ∷ fs) h = if fits f.stands h then Some (f, behind f fs) else chosen fs h
