-- BasicConstraints ::= SEQUENCE {
--     cA                 BOOLEAN DEFAULT FALSE,
--     pathLenConstraint  INTEGER (0..MAX) OPTIONAL }
-- (RFC 5280, 4.2.1.9), the number of at most 32 bits, to its end; every refusal in it is BerValueError
use Rattle.std.specs.Prelude.{ℕ, ◌+◌, Bool, false, Option, unwrap_or, if◌then◌else◌}
use Rattle.x509_der.specs.declared.error.BerError.TheVariants as ber
use Rattle.x509_der.specs.Laws.{IsMarkedElement, IsMarkedField, AtEnd}
use Rattle.x509_der.specs.Leaves.{BerPlan, bool, u32}
use Rattle.x509_der.specs.Plan.{◌>>=◌, give, soft, universal, to_end}
use Rattle.x509_der.specs.Promises.{is_ber_memory, ended_early, option_heads}
use Rattle.x509_der.proofs.Marking.{marked}
use Rattle.x509_fields.specs.declared.error.X509Error.TheVariants as x509
use Rattle.x509_fields.specs.Errors.{is_x509_memory}
use Rattle.x509_fields.specs.Fields.{Field, named, sequence, as_x509_renames}
use Rattle.x509_values.specs.declared.basic_constraints.BasicConstraints.{BasicConstraints}

-- ---- the value

pub record BasicConstraintsValue : Type 0 where
  pub ca : Bool
  pub path_len_constraint : Option ℕ

abbrev pub basic_constraints_of : BasicConstraints → BasicConstraintsValue
basic_constraints_of c = record { ca = c.ca; path_len_constraint = c.path_len_constraint }

-- ---- the grammar

unfoldable pub basic_constraints_fields : BerPlan BasicConstraintsValue
basic_constraints_fields = to_end (ended_early ber.NomError) do
  ca ← soft (universal 1) bool
  path_len_constraint ← soft (universal 2) u32
  give (record { ca = unwrap_or ca false; path_len_constraint = path_len_constraint })

unfoldable pub basic_constraints : Field BasicConstraintsValue
basic_constraints = sequence (named (x509.Der ber.BerValueError) basic_constraints_fields)

-- ---- heads: where false is the value, the BOOLEAN may be absent

abbrev pub basic_constraints_heads : BasicConstraintsValue → ℕ
basic_constraints_heads c = 1 + (if c.ca then 1 else 0) + option_heads (λ _. 1) c.path_len_constraint

-- ---- laws

pub basic_constraints_fields_laws : IsMarkedField is_ber_memory AtEnd basic_constraints_fields
unfolding basic_constraints_fields
basic_constraints_fields_laws = search marked depth 40

pub basic_constraints_laws : IsMarkedElement is_x509_memory basic_constraints
unfolding basic_constraints
basic_constraints_laws = search (marked, as_x509_renames, basic_constraints_fields_laws) depth 40
