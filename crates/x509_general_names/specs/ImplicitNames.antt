-- General names (RFC 5280, 4.2.1.6) under a context tag.
use Rattle.std.specs.Prelude.{◌≡◌, true, ℕ, List, map}
use Rattle.x509_der.specs.Laws.{IsMarkedElement, IsMarkedField, differs, Away}
use Rattle.x509_der.specs.Leaves.{implicit}
use Rattle.x509_der.specs.Plan.{Tagged, context, run, run1, container}
use Rattle.x509_der.specs.Promises.{empty_run}
use Rattle.x509_der.proofs.Marking.{marked}
use Rattle.x509_fields.specs.Errors.{is_x509_memory}
use Rattle.x509_fields.specs.Fields.{Field, lifted, as_x509_renames}
use Rattle.x509_general_names.specs.declared.general_name.GeneralName.{GeneralName}
use Rattle.x509_fields.specs.Lists.{list_error}
use Rattle.x509_general_names.specs.GeneralName.{GeneralNameValue, general_name_of, general_name}
use Rattle.x509_general_names.specs.GeneralNameLaws.{general_name_laws}

-- ---- the value

abbrev pub names_of : List GeneralName → List GeneralNameValue
names_of names = map general_name_of names

-- ---- the grammar

-- [n] IMPLICIT GeneralNames, where GeneralNames ::= SEQUENCE SIZE (1..MAX) OF GeneralName; they may be none
unfoldable pub implicit_names : ℕ → Field (List GeneralNameValue)
implicit_names n = container (lifted (implicit n)) (run general_name)

-- at least one name, as many as stand there
unfoldable pub some_names : Field (List GeneralNameValue)
some_names = run1 (empty_run list_error) general_name

-- [n] IMPLICIT GeneralNames, at least one
unfoldable pub implicit_some_names : ℕ → Field (List GeneralNameValue)
implicit_some_names n = container (lifted (implicit n)) some_names

-- ---- laws

pub implicit_names_laws : (n : ℕ) → IsMarkedElement is_x509_memory (implicit_names n)
unfolding implicit_names
implicit_names_laws n = search (marked, as_x509_renames, general_name_laws) depth 40

pub some_names_laws : (At : List ℕ → Type 0) → IsMarkedField is_x509_memory At some_names
unfolding some_names
some_names_laws At = search (marked, general_name_laws) depth 20

pub implicit_some_names_laws : (n : ℕ) → IsMarkedElement is_x509_memory (implicit_some_names n)
unfolding implicit_some_names
implicit_some_names_laws n = search (marked, as_x509_renames, some_names_laws) depth 40

-- behind a field that may be absent: no header of another tag is one of these names
pub implicit_names_away : (mine : Tagged) (n : ℕ) → differs mine (context n) ≡ true → Away mine (implicit_names n)
unfolding implicit_names
implicit_names_away mine n apart = search (marked, apart)

pub implicit_some_names_away : (mine : Tagged) (n : ℕ) → differs mine (context n) ≡ true → Away mine (implicit_some_names n)
unfolding implicit_some_names
implicit_some_names_away mine n apart = search (marked, apart)
