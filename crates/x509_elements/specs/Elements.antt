-- The elements of an object, a line each (X.690, 8.1.1: identifier octets, length octets and contents).
use Rattle.std.specs.Prelude.{◌≡◌, ℕ, zero, suc, ◌+◌, ◌-◌, List, [], ◌∷◌, ◌++◌, length, take, drop, None, Ok, Err, flat_map}
use Rattle.x509_der.specs.declared.error.BerError.{BerError}
use Rattle.x509_der.specs.declared.error.Err.{Err as Refusal}
use Rattle.x509_elements.specs.declared.line.DumpLine.{DumpLine as RustLine}
use Rattle.x509_elements.specs.declared.line.What.{What}
use Rattle.x509_elements.specs.declared.line.What.TheVariants as whats
use Rattle.x509_elements.specs.Fronts.{Front, Fronts, front_at}
use Rattle.x509_elements.specs.Cursors.{Called, Standing, alone, called_of, first_of}
use Rattle.x509_elements.specs.declared.part.Part.{Part}
use Rattle.x509_elements.specs.declared.part.Part.TheVariants as parts

-- how many octets stand before it, in how many elements it stands, what it is called, what it tells, and the octets that it holds
pub record Line : Type 0 where
  pub offset : ℕ
  pub depth : ℕ
  pub called : Called
  pub what : What
  pub octets : List ℕ

abbrev pub line_of : RustLine → Line
line_of l = record { offset = l.offset; depth = l.depth; called = called_of l.called; what = l.what; octets = l.octets.now }

-- where a window stands: behind so many octets, in so many elements, and among the members of the innermost
pub record Spot : Type 0 where
  pub offset : ℕ
  pub depth : ℕ
  pub standing : Standing

abbrev pub nameless : Called
nameless = record { name = []; number = None; alternative = []; part = parts.Unknown }

-- no header can be read: all octets of the window, on one line
abbrev pub refused_line : Spot → List ℕ → Refusal BerError → Line
refused_line p window why = record { offset = p.offset; depth = p.depth; called = nameless; what = whats.Refused why; octets = window }

abbrev pub element_line : Spot → List ℕ → Front → Line
element_line p window f = record { offset = p.offset; depth = p.depth; called = f.called; what = whats.Element f.header f.size f.there; octets = take f.own window }

-- what stands in the element, and what stands behind it
abbrev pub inside : List ℕ → Front → List ℕ
inside window f = take (f.size + f.there - f.own) (drop f.own window)

abbrev pub behind : List ℕ → Front → List ℕ
behind window f = drop (f.size + f.there) window

abbrev pub spot_inside : Spot → Front → Spot
spot_inside p f = record { offset = p.offset + f.own; depth = p.depth + 1; standing = first_of f.called.part }

abbrev pub spot_behind : Spot → Front → Spot
spot_behind p f = record { offset = p.offset + (f.size + f.there); depth = p.depth; standing = f.next }

-- the line of an element, those of what stands in it, and those of what stands behind it
abbrev pub lines_by : (Spot → List ℕ → List Line) → Spot → List ℕ → Fronts → List Line
lines_by lines p window (Ok f) = element_line p window f ∷ (lines (spot_inside p f) (inside window f) ++ lines (spot_behind p f) (behind window f))
lines_by lines p window (Err why) = refused_line p window why ∷ []

-- the lines of a window, of so many at most
unfoldable pub lines_within : ℕ → Spot → List ℕ → List Line
lines_within zero p window = []
lines_within (suc more) p [] = []
lines_within (suc more) p (b ∷ bs) = lines_by (λ q w. lines_within more q w) p (b ∷ bs) (front_at p.standing (b ∷ bs))

-- each line holds an octet at least
unfoldable pub lines_at : Spot → List ℕ → List Line
lines_at p window = lines_within (length window) p window

-- the lines of the octets, whose first element is such a part
unfoldable pub elements_of : Part → List ℕ → List Line
elements_of part octets = lines_at (record { offset = 0; depth = 0; standing = alone part }) octets

-- each line begins behind the octets of those before
abbrev pub ArePlaced : ℕ → List Line → Type 0
ArePlaced at [] = Unit {0}
ArePlaced at (l ∷ ls) = (l.offset ≡ at) × ArePlaced (at + length l.octets) ls

-- the octets of all lines, one behind another
abbrev pub octets_of : List Line → List ℕ
octets_of ls = flat_map (λ l. l.octets) ls
