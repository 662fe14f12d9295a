-- The values of an object's extensions, among the lines of its elements.
use Rattle.std.specs.Prelude.{ℕ, ◌+◌, ◌==◌, ◌&&◌, nat_lt, Bool, false, List, [], ◌∷◌, ◌++◌, codes, Option, Some, None, if◌then◌else◌}
use Rattle.std.specs.Str.{bytes_eq}
use Rattle.x509_der.specs.Primitives.{is_primitive}
use Rattle.x509_elements.specs.Elements.{Line}
use Rattle.x509_elements.specs.Walks.{window}
use Rattle.x509_elements.specs.declared.line.What.{What}
use Rattle.x509_elements.specs.declared.line.What.TheVariants as whats

-- ---- the members of an extension (RFC 5280, 4.1)

-- a primitive element of this universal type (X.680, 8.4), with all of its contents
abbrev pub is_whole : ℕ → What → Bool
is_whole number (whats.Element h size there) = is_primitive number h && there == h.length
is_whole number (whats.Refused why) = false

abbrev pub is_member : List ℕ → ℕ → Line → Bool
is_member name number l = bytes_eq l.called.name name && is_whole number l.what

-- extnID, an OBJECT IDENTIFIER
abbrev pub is_identifier : Line → Bool
is_identifier l = is_member (codes "extnID") 6 l

-- extnValue, an OCTET STRING
abbrev pub is_value : Line → Bool
is_value l = is_member (codes "extnValue") 4 l

-- ---- the contents of an element

abbrev pub size_of : What → ℕ
size_of (whats.Element h size there) = size
size_of (whats.Refused why) = 0

abbrev pub there_of : What → ℕ
there_of (whats.Element h size there) = there
there_of (whats.Refused why) = 0

-- where they begin, and where they end
abbrev pub contents_at : Line → ℕ
contents_at l = l.offset + size_of l.what

abbrev pub end_of : Line → ℕ
end_of l = contents_at l + there_of l.what

abbrev pub contents_of : List ℕ → Line → List ℕ
contents_of octets l = window octets (contents_at l) (end_of l)

-- ---- values

-- the value of an extension with this identifier: how many octets of the object stand before it, and its own
pub record Value : Type 0 where
  pub id : List ℕ
  pub at : ℕ
  pub octets : List ℕ

-- The lines from an octet on that don't stand in the value of an extension: what stands there is the value's own, whatever it is called.
abbrev pub outside : ℕ → List Line → List Line
outside from [] = []
outside from (l ∷ ls) = if nat_lt l.offset from then outside from ls else l ∷ outside (if is_value l then end_of l else from) ls

abbrev pub value_by : List ℕ → Option (List ℕ) → Line → List Value
value_by octets (Some id) l = record { id = id; at = contents_at l; octets = contents_of octets l } ∷ []
value_by octets None l = []

-- each value with the identifier before it
abbrev pub values_behind : List ℕ → Option (List ℕ) → List Line → List Value
values_behind octets id [] = []
values_behind octets id (l ∷ ls) =
    if is_identifier l then values_behind octets (Some (contents_of octets l)) ls
    else if is_value l then value_by octets id l ++ values_behind octets None ls
    else values_behind octets id ls

-- The values of the extensions, in order, of an object with these octets, whose elements have these lines.
unfoldable pub values_in : List ℕ → List Line → List Value
values_in octets ls = values_behind octets None (outside 0 ls)
