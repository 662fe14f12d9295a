-- What readers take and refuse is what the grammar reads.
use Rattle.std.proofs.Common.{◌≡◌, List, ℕ, Bool, true, false, Result, Ok, Err, refl, cond}
use Rattle.x509_der.specs.declared.error.Err.{Err as Refusal}
use Rattle.x509_der.specs.declared.error.Err.TheVariants as refusals
use Rattle.x509_der.specs.declared.error.Located.{Located}
use Rattle.x509_der.specs.Laws.{IsBytes, IsLawful}
use Rattle.x509_der.specs.Plan.{Plan}
use Rattle.x509_der.specs.Promises.{Answers, ReadsWhere, is_excused, reason_alone}
use Rattle.x509_der.proofs.Sentences.{front_only}

-- what memory excuses where none is taken, it excuses where some is
pub not_excused : {E : Type 0} (is_memory : E → Bool) (takes_memory : Bool) (why : Refusal E) → is_excused is_memory true why ≡ false → is_excused is_memory takes_memory why ≡ false
not_excused is_memory true why e = e
not_excused is_memory false refusals.Incomplete e = refl
not_excused is_memory false (refusals.Error x) e = refl
not_excused is_memory false (refusals.Failure x) e = refl

unless_excused : (b : Bool) (P : Type 0) → (b ≡ false → P) → cond b (Unit {0}) P
unless_excused true P h = tt
unless_excused false P h = h refl

-- what is read or refused exactly so is what the plan reads
pub read_where : {E A X : Type 0} (is_memory : E → Bool) (takes_memory : Bool) (view : X → List ℕ × A) (plan : Plan (Refusal E) A) → IsLawful plan → (octets : List ℕ) → IsBytes octets
    → (result : Result X (Located E)) → ReadsWhere is_memory takes_memory view plan octets result → Answers is_memory takes_memory view (reason_alone result) (plan.read octets)
read_where is_memory takes_memory view plan laws octets k (Ok x) h = front_only plan laws.agrees laws.is_local octets (view x).1 (view x).0 k h.reads.accepted
read_where is_memory takes_memory view plan laws octets k (Err e) h =
    unless_excused (is_excused is_memory takes_memory e.why) _ (λ own. let there = h.located own in laws.agrees.refusal octets e.why there.0 k there.1)
