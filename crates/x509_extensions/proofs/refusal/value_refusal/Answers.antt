use Rattle.std.proofs.Common.{arith}
use Rattle.x509_extensions.proofs.Refusing.{none_computed, none_error, told_computed, told_error}
use Rattle.x509_extensions.proofs.refusal.value_refusal.Goals as goal

pub returns-in_default-clause-computed : goal.returns-in_default-clause-computed
returns-in_default-clause-computed c = none_computed c.args.id.now c.args.value.now c.in_default.ensures

pub returns-in_default-clause-error : goal.returns-in_default-clause-error
returns-in_default-clause-error c = none_error c.args.id.now c.args.value.now c.in_default.ensures

pub returns-clause-computed : goal.returns-clause-computed
returns-clause-computed c = told_computed c.args.id.now c.args.value.now c.in-Some.kind c.in-Some.ensures (λ k. omega (arith, c.type_inv.value k)) c.kind_refusal.result c.kind_refusal.ensures

pub returns-clause-error : goal.returns-clause-error
returns-clause-error c = told_error c.args.id.now c.args.value.now c.in-Some.kind c.in-Some.ensures (λ k. omega (arith, c.type_inv.value k)) c.kind_refusal.result c.kind_refusal.ensures
