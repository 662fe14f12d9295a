-- The place of a value's refusal lies in the value.
use Rattle.std.proofs.Common.{◌≡◌, ℕ, ◌-◌, ◌≤◌, List, length, Option, Some, None, Ok, Err, refl, arith}
use Rattle.x509_der.specs.declared.error.Err.{Err as Refusal}
use Rattle.x509_der.specs.declared.error.Located.{Located}
use Rattle.x509_der.specs.Plan.{Outcome, added}
use Rattle.x509_extensions.specs.Kinds.{kind_of}
use Rattle.x509_extensions.specs.Parsed.{row}
use Rattle.x509_extensions.specs.Refusals.{refusal_at, refusal_by_kind, value_refusal}
use Rattle.x509_fields.specs.declared.error.X509Error.{X509Error}

at_within : {A : Type 0} (r : Outcome (Refusal X509Error) A) (at size : ℕ) (e : Located X509Error) → at ≤ size → refusal_at r at ≡ Some e → e.at ≤ size
at_within (Ok x) at size e h is = absurd cc
at_within (Err why) at size e h is = let same : at ≡ e.at = cc in omega (arith, h, same)

within_by : {K : Type 0} (size : ℕ) (refusal : Option K → Option (Located X509Error)) → refusal None ≡ None → ((kind : K) (e : Located X509Error) → refusal (Some kind) ≡ Some e → e.at ≤ size)
    → (known : Option K) (e : Located X509Error) → refusal known ≡ Some e → e.at ≤ size
within_by size refusal none some None e is = absurd cc
within_by size refusal none some (Some kind) e is = some kind e is

pub refusal_within : (id value : List ℕ) (e : Located X509Error) → value_refusal id value ≡ Some e → e.at ≤ length value
unfolding value_refusal
refusal_within id value e is =
    within_by (length value) (λ known. refusal_by_kind known value) refl
    (λ kind told same. at_within ((row kind).read value) (length value - (row kind).stop added value 0) (length value) told (omega arith) same)
    (kind_of id) e is
