-- Which names a certification authority may certify (RFC 5280, 4.2.1.10).
use Rattle.std.specs.Prelude.{◌≡◌, true, ℕ, ◌+◌, List, map, sum_by, Option}
use Rattle.x509_der.specs.Laws.{IsMarkedElement, differs, Away}
use Rattle.x509_der.specs.Leaves.{explicit}
use Rattle.x509_der.specs.Plan.{◌>>=◌, give, soft, Tagged, context, run1, to_end, container}
use Rattle.x509_der.specs.Promises.{ended_early, empty_run, option_view, option_heads}
use Rattle.x509_der.proofs.Marking.{marked}
use Rattle.x509_fields.specs.Errors.{is_x509_memory}
use Rattle.x509_fields.specs.Fields.{Field, lifted, sequence, as_x509_renames}
use Rattle.x509_general_names.specs.declared.name_constraints.GeneralSubtree.{GeneralSubtree}
use Rattle.x509_general_names.specs.declared.name_constraints.NameConstraints.{NameConstraints}
use Rattle.x509_fields.specs.Lists.{list_error}
use Rattle.x509_general_names.specs.GeneralName.{GeneralNameValue, general_name_of, general_name_heads, general_name}
use Rattle.x509_general_names.specs.GeneralNameLaws.{general_name_laws}

-- ---- the values

-- the name at the root of a subtree
abbrev pub subtree_of : GeneralSubtree → GeneralNameValue
subtree_of s = general_name_of s.base

abbrev pub subtrees_of : List GeneralSubtree → List GeneralNameValue
subtrees_of subtrees = map subtree_of subtrees

pub record Constraints : Type 0 where
  pub permitted : Option (List GeneralNameValue)
  pub excluded : Option (List GeneralNameValue)

abbrev pub constraints_of : NameConstraints → Constraints
constraints_of c = record { permitted = option_view subtrees_of c.permitted_subtrees; excluded = option_view subtrees_of c.excluded_subtrees }

-- ---- the grammar

-- GeneralSubtree ::= SEQUENCE {
--     base     GeneralName,
--     minimum  [0]  BaseDistance DEFAULT 0,
--     maximum  [1]  BaseDistance OPTIONAL }        -- neither is looked at
unfoldable pub general_subtree : Field GeneralNameValue
general_subtree = sequence general_name

-- [n] GeneralSubtrees, where GeneralSubtrees ::= SEQUENCE SIZE (1..MAX) OF GeneralSubtree
unfoldable pub general_subtrees : ℕ → Field (List GeneralNameValue)
general_subtrees n = container (lifted (explicit n)) (to_end (ended_early list_error) (run1 (empty_run list_error) general_subtree))

-- NameConstraints ::= SEQUENCE {
--     permittedSubtrees  [0]  GeneralSubtrees OPTIONAL,
--     excludedSubtrees   [1]  GeneralSubtrees OPTIONAL }
unfoldable pub name_constraints : Field Constraints
name_constraints = sequence do
  permitted ← soft (context 0) (general_subtrees 0)
  excluded ← soft (context 1) (general_subtrees 1)
  give (record { permitted = permitted; excluded = excluded })

-- ---- heads

abbrev pub subtree_heads : GeneralNameValue → ℕ
subtree_heads base = 1 + general_name_heads base

abbrev pub subtrees_heads : List GeneralNameValue → ℕ
subtrees_heads bases = 1 + sum_by subtree_heads bases

abbrev pub constraints_heads : Constraints → ℕ
constraints_heads c = 1 + option_heads subtrees_heads c.permitted + option_heads subtrees_heads c.excluded

-- ---- laws

pub general_subtree_laws : IsMarkedElement is_x509_memory general_subtree
unfolding general_subtree
general_subtree_laws = search (marked, as_x509_renames, general_name_laws) depth 40

pub general_subtrees_laws : (n : ℕ) → IsMarkedElement is_x509_memory (general_subtrees n)
unfolding general_subtrees
general_subtrees_laws n = search (marked, as_x509_renames, general_subtree_laws) depth 40

-- behind a field that may be absent: no header of another tag is one of subtrees
pub general_subtrees_away : (mine : Tagged) (n : ℕ) → differs mine (context n) ≡ true → Away mine (general_subtrees n)
unfolding general_subtrees
general_subtrees_away mine n apart = search (marked, apart)

pub name_constraints_laws : IsMarkedElement is_x509_memory name_constraints
unfolding name_constraints
name_constraints_laws = search (marked, as_x509_renames, general_subtrees_laws, general_subtrees_away) depth 40
