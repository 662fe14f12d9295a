-- The names of distribution points (RFC 5280, 4.2.1.13).
use Rattle.std.specs.Prelude.{◌≡◌, true, false, ℕ, ◌+◌, Bool, ◌==◌, ◌&&◌, ◌||◌, List, length, sum_by}
use Rattle.x509_der.specs.declared.error.BerError.TheVariants as ber
use Rattle.x509_der.specs.declared.error.Err.{Err as Refusal}
use Rattle.x509_der.specs.declared.error.Err.TheVariants.{Error}
use Rattle.x509_der.specs.declared.header.Header.{Header}
use Rattle.x509_der.specs.Laws.{IsMarkedElement, IsMarkedField, Anywhere, AtEnd, differs, Away}
use Rattle.x509_der.specs.Leaves.{bare_header, explicit, header}
use Rattle.x509_der.specs.Plan.{Plan, ◌>>=◌, give, plainly, one_of, Tagged, context, container}
use Rattle.x509_der.specs.Primitives.{is_context, has_number}
use Rattle.x509_der.specs.Promises.{is_ber_memory, refusal_by}
use Rattle.x509_der.specs.Reading.{strict}
use Rattle.x509_der.proofs.Lawful.{header_field, renamed_field}
use Rattle.x509_der.proofs.Marking.{marked, bare_header_marked}
use Rattle.x509_fields.specs.declared.error.X509Error.TheVariants.{Der}
use Rattle.x509_fields.specs.Errors.{is_x509_memory, as_x509}
use Rattle.x509_fields.specs.Fields.{Field, lifted, as_x509_renames}
use Rattle.x509_names.specs.Names.{Attribute, relative_name_of, relative_name_heads, relative_name, relative_name_laws}
use Rattle.x509_general_names.specs.declared.distribution_point_name.DistributionPointName.{DistributionPointName}
use Rattle.x509_general_names.specs.declared.distribution_point_name.DistributionPointName.TheVariants as variants
use Rattle.x509_general_names.specs.GeneralName.{GeneralNameValue, general_name_heads}
use Rattle.x509_general_names.specs.ImplicitNames.{names_of, some_names, some_names_laws}

-- ---- the value

pub data PointName : Type 0 where
  FullName : List GeneralNameValue → PointName
  NameRelativeToCRLIssuer : List Attribute → PointName

abbrev pub point_name_of : DistributionPointName → PointName
point_name_of (variants.FullName names) = FullName (names_of names)
point_name_of (variants.NameRelativeToCRLIssuer name) = NameRelativeToCRLIssuer (relative_name_of name)

-- ---- the grammar

abbrev pub is_choice : Header → Bool
is_choice h = has_number 0 h || has_number 1 h

-- a header of which the number alone is looked at: neither its class nor its length
unfoldable pub choice_header : Field Header
choice_header = bare_header (refusal_by as_x509) (Error (Der ber.InvalidTag)) is_choice strict

-- the header of a constructed element of context class that ends with these bytes
abbrev pub closes : Header → List ℕ → Bool
closes h left = is_context h.class && (h.constructed && length left == h.length)

-- GeneralNames, at least one
unfoldable pub full_name : Field PointName
full_name = do
  names ← some_names
  give (FullName names)

-- a whole RelativeDistinguishedName, which the standard's implicit tag doesn't leave
unfoldable pub name_relative : Field PointName
name_relative = do
  name ← relative_name
  give (NameRelativeToCRLIssuer name)

-- DistributionPointName ::= CHOICE {
--     fullName                 [0]  GeneralNames,
--     nameRelativeToCRLIssuer  [1]  RelativeDistinguishedName }
-- The name takes all bytes behind the header; plainly, these are the header's contents.
unfoldable pub point_name : Field PointName
point_name = do
  header ← choice_header
  _ ← plainly (closes header)
  one_of (has_number 0 header) full_name name_relative

-- [0] DistributionPointName
unfoldable pub distribution_point_name : Field PointName
distribution_point_name = container (lifted (explicit 0)) point_name

-- ---- heads

-- the heads of the choice and of the names
abbrev pub point_name_heads : PointName → ℕ
point_name_heads (FullName names) = 1 + sum_by general_name_heads names
point_name_heads (NameRelativeToCRLIssuer name) = 1 + relative_name_heads name

abbrev pub distribution_point_name_heads : PointName → ℕ
distribution_point_name_heads name = 1 + point_name_heads name

-- ---- laws

pub choice_header_laws : IsMarkedField is_x509_memory Anywhere choice_header
unfolding choice_header
choice_header_laws =
    bare_header_marked is_x509_memory (refusal_by as_x509) (Der ber.InvalidTag) is_choice strict
    (renamed_field is_ber_memory is_x509_memory (refusal_by as_x509) (header strict) as_x509_renames (header_field strict))

full_name_laws : IsMarkedField is_x509_memory AtEnd full_name
unfolding full_name
full_name_laws = search (marked, some_names_laws) depth 20

name_relative_laws : IsMarkedField is_x509_memory AtEnd name_relative
unfolding name_relative
name_relative_laws = search (marked, relative_name_laws) depth 20

one_marked : {E A : Type 0} (is_memory : E → Bool) (At : List ℕ → Type 0) (b : Bool) (p q : Plan (Refusal E) A) → IsMarkedField is_memory At p → IsMarkedField is_memory At q → IsMarkedField is_memory At (one_of b p q)
one_marked is_memory At true p q hp hq = hp
one_marked is_memory At false p q hp hq = hq

pub point_name_laws : IsMarkedField is_x509_memory AtEnd point_name
unfolding point_name
point_name_laws = search (marked, choice_header_laws, full_name_laws, name_relative_laws, one_marked) depth 40

pub distribution_point_name_laws : IsMarkedElement is_x509_memory distribution_point_name
unfolding distribution_point_name
distribution_point_name_laws = search (marked, as_x509_renames, point_name_laws) depth 40

-- behind a field that may be absent: no header of another tag is one of a name
pub distribution_point_name_away : (mine : Tagged) → differs mine (context 0) ≡ true → Away mine distribution_point_name
unfolding distribution_point_name
distribution_point_name_away mine apart = search (marked, apart)
