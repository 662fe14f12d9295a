-- InhibitAnyPolicy ::= SkipCerts
-- SkipCerts ::= INTEGER (0..MAX)
-- (RFC 5280, 4.2.1.14), of at most 32 bits
use Rattle.std.specs.Prelude.{ℕ}
use Rattle.x509_der.specs.Laws.{IsMarkedElement}
use Rattle.x509_der.specs.Leaves.{u32}
use Rattle.x509_der.proofs.Marking.{marked}
use Rattle.x509_fields.specs.Errors.{is_x509_memory}
use Rattle.x509_fields.specs.Fields.{Field, lifted, as_x509_renames}

-- ---- the grammar

unfoldable pub inhibit_any_policy : Field ℕ
inhibit_any_policy = lifted u32

-- ---- laws

pub inhibit_any_policy_laws : IsMarkedElement is_x509_memory inhibit_any_policy
unfolding inhibit_any_policy
inhibit_any_policy_laws = search (marked, as_x509_renames) depth 20
