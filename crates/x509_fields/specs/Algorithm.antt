-- Algorithms (RFC 5280, 4.1.1.2).
use Rattle.std.specs.Prelude.{ℕ, ◌+◌, List, Option}
use Rattle.x509_der.specs.Oid.{oid_bytes}
use Rattle.x509_der.specs.Reading.{Element, element_of}
use Rattle.x509_der.specs.Laws.{IsMarkedElement}
use Rattle.x509_der.specs.Leaves.{any, oid}
use Rattle.x509_der.specs.Plan.{◌>>=◌, give, soft, any_tag}
use Rattle.x509_der.specs.Promises.{option_view, option_heads}
use Rattle.x509_der.proofs.Marking.{marked}
use Rattle.x509_fields.specs.declared.error.X509Error.TheVariants as x509
use Rattle.x509_fields.specs.declared.algorithm.AlgorithmIdentifier.{AlgorithmIdentifier}
use Rattle.x509_fields.specs.Errors.{is_x509_memory}
use Rattle.x509_fields.specs.Fields.{Field, lifted, named, sequence, as_x509_renames}

pub record Algorithm : Type 0 where
  pub algorithm : List ℕ
  pub parameters : Option Element

abbrev pub algorithm_of : AlgorithmIdentifier → Algorithm
algorithm_of a = record { algorithm = oid_bytes a.algorithm; parameters = option_view element_of a.parameters }

-- its own head, the identifier's, and that of the parameters where they stand, whose contents count none
abbrev pub algorithm_heads : Algorithm → ℕ
algorithm_heads a = 2 + option_heads (λ _. 1) a.parameters

-- AlgorithmIdentifier ::= SEQUENCE { algorithm OBJECT IDENTIFIER, parameters ANY OPTIONAL } (RFC 5280, 4.1.1.2)
unfoldable pub algorithm : Field Algorithm
algorithm = sequence do
  oid ← named x509.InvalidAlgorithmIdentifier oid
  parameters ← soft any_tag (lifted any)
  give (record { algorithm = oid; parameters = parameters })

-- ---- laws

pub algorithm_laws : IsMarkedElement is_x509_memory algorithm
unfolding algorithm
algorithm_laws = search (marked, as_x509_renames) depth 40
