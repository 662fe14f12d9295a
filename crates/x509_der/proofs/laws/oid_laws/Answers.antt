use Rattle.std.proofs.Common.{refl}
use Rattle.std.specs.Cmp.Lexicographic.{lists_agrees}
use Rattle.x509_der.specs.Oid.{oid_bytes}
use Rattle.x509_der.proofs.laws.oid_laws.Goals as goal

pub returns-clause-eq : goal.returns-clause-eq
returns-clause-eq c = λ a b. refl

pub returns-clause-cmp : goal.returns-clause-cmp
returns-clause-cmp c = λ a b. refl

pub returns-clause-partial_cmp : goal.returns-clause-partial_cmp
returns-clause-partial_cmp c = λ a b. lists_agrees (λ x y. refl) (oid_bytes a) (oid_bytes b)

pub returns-clause-hash : goal.returns-clause-hash
returns-clause-hash c = λ a. refl
