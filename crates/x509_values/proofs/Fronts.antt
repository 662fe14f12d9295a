-- A reader that gives what is read reads a front of the bytes, exactly.
use Rattle.std.proofs.Common.{ℕ, ◌+◌, ◌<◌, Bool, List, ◌++◌, length, take, Result, Ok, Err, subst}
use Rattle.std.specs.Prelude.{IfOk, IfErr}
use Rattle.x509_der.specs.declared.error.Err.{Err as Refusal}
use Rattle.x509_der.specs.Laws.{IsBytes, Agrees, Local}
use Rattle.x509_der.specs.Plan.{Plan, added}
use Rattle.x509_der.specs.Promises.{IsFront}
use Rattle.x509_der.specs.Reading.{Gives}
use Rattle.x509_der.proofs.Sentences.{front_read, front_only, front_unique, front_longer, front_shorter}
use Rattle.x509_values.specs.Sentence.{IsMarkedSentence, ReadsFront}

accepted : {F A X : Type 0} (p : Plan F A) → Agrees p → Local p → (view : X → List ℕ × A) (result : Result X F) (place : List ℕ) → IsBytes place → Gives view result (p.read place) → IfOk result (λ x. IsFront p place (view x).1 (view x).0)
accepted p ha hl view (Ok x) place k e = front_read p ha hl place (view x).1 (view x).0 k e
accepted p ha hl view (Err r) place k e = tt

refused : {F A X : Type 0} (p : Plan F A) → Agrees p → (view : X → List ℕ × A) (result : Result X F) (place : List ℕ) → IsBytes place → Gives view result (p.read place) → IfErr result (λ e. (left : ℕ) × p.Refuses place e left)
refused p ha view (Ok x) place k e = tt
refused p ha view (Err r) place k e = (p.stop added place 0, ha.refused place r k e)

longer : {F A X : Type 0} (p : Plan F A) → (view : X → List ℕ × A) (result : Result X F) (place : List ℕ) → IfOk result (λ x. IsFront p place (view x).1 (view x).0)
    → IfOk result (λ x. (more : List ℕ) → IsFront p (place ++ more) (view x).1 ((view x).0 ++ more))
longer p view (Ok x) place is = λ more. front_longer p place (view x).1 (view x).0 more is
longer p view (Err r) place is = tt

shorter : {F A X : Type 0} (p : Plan F A) → Agrees p → Local p → (view : X → List ℕ × A) (result : Result X F) (place : List ℕ) → IsBytes place → IfOk result (λ x. IsFront p place (view x).1 (view x).0)
    → IfOk result (λ x. (n : ℕ) → n + length (view x).0 < length place → (a : A) (rest : List ℕ) → IsFront p (take n place) a rest → ⊥)
shorter p ha hl view (Ok x) place k is = front_shorter p ha hl place k (view x).1 (view x).0 is
shorter p ha hl view (Err r) place k is = tt

pub reads_front : {E A X : Type 0} (is_memory : E → Bool) (p : Plan (Refusal E) A) → IsMarkedSentence is_memory p → (view : X → List ℕ × A) (result : Result X (Refusal E)) (place : List ℕ) → IsBytes place → Gives view result (p.read place) → ReadsFront view p place result
reads_front is_memory p h view result place k reads =
    let is = accepted p h.agrees h.is_local view result place k reads in
    record {
      accepted = is;
      accepts = λ a rest front. subst (Gives view result) (front_only p h.agrees h.is_local place a rest k front) reads;
      refused = refused p h.agrees view result place k reads;
      refuses = λ e left r. subst (Gives view result) (h.agrees.refusal place e left k r) reads;
      only = λ a b rest other x y. front_unique p h.agrees h.is_local place k a b rest other x y;
      longer = longer p view result place is;
      shorter = shorter p h.agrees h.is_local view result place k is;
    }
