-- A strict reader's refusal at the first rule that the object uses.
use Rattle.std.proofs.Common.{◌≡◌, ℕ, ◌<◌, Bool, true, false, List, [], ◌∷◌, length, Option, Some, None, Result, Ok, Err, inl, inr, ◌⊎◌, subst, sym, ap, ◌∙◌, refl, arith, cond}
use Rattle.std.specs.Prelude.{IfOk}
use Rattle.x509_der.specs.declared.error.Err.{Err as Refusal}
use Rattle.x509_der.specs.declared.error.Err.TheVariants.{Error}
use Rattle.x509_der.specs.declared.error.Located.{Located}
use Rattle.x509_der.specs.Laws.{Agrees, Anywhere, IsBytes, Marks}
use Rattle.x509_der.specs.Plan.{got, plain_only}
use Rattle.x509_der.specs.Promises.{ReadsExactly, ReadsWhere, is_excused}
use Rattle.x509_fields.specs.declared.error.X509Error.{X509Error}
use Rattle.x509_fields.specs.declared.error.X509Error.TheVariants.{Generic}
use Rattle.x509_fields.specs.Errors.{is_x509_memory}
use Rattle.x509_fields.specs.Fields.{Field}
use Rattle.x509_elements.specs.declared.part.Part.{Part}
use Rattle.x509_elements.specs.declared.judged.Judged.TheVariants.{Absent, Lenient}
use Rattle.x509_elements.specs.declared.strict.StrictRefusal.{StrictRefusal}
use Rattle.x509_elements.specs.Judgements.{judged_by, judged_with, marked, part_judged}
use Rattle.x509_elements.specs.StrictRefusals.{ReadsPlainly, StandsBy, first_use, placed_by, why_alone}
use Rattle.x509_elements.specs.Uses.{Use, deepest, inside, leniencies, part_rule, some_leniently, told}

none_used : (us : List Use) → first_use us ≡ None → us ≡ []
none_used [] is = refl
none_used (u ∷ us) is = absurd cc

no_length : (us : List Use) → us ≡ [] → 0 < length us → ⊥
no_length us is some = let none : length us ≡ 0 = ap (λ (vs : List Use). length vs) is in absurd (omega (arith, none, some))

clash : (b : Bool) → b ≡ true → b ≡ false → ⊥
clash b is isnt = let same : true ≡ false = sym is ∙ isnt in absurd cc

-- what is taken and not marked is taken by a rule
lenient : {A : Type 0} (p : Field A) (octets : List ℕ) (a : A) (next : List ℕ) → p.read octets ≡ got a next → p.marks octets ≡ false → judged_by p octets ≡ Lenient
lenient p octets a next read unmarked = ap (λ r. judged_with r (p.marks octets)) read ∙ ap marked unmarked

plain_or_lenient : {A : Type 0} (p : Field A) → Marks Anywhere p → (octets : List ℕ) (a : A) (next : List ℕ) (m : Bool) → p.marks octets ≡ m → IsBytes octets → p.read octets ≡ got a next → (p.Plain octets a next → ⊥) → p.marks octets ≡ false
plain_or_lenient p marks octets a next true is k read never = absurd (never (marks.told octets a next k read tt is))
plain_or_lenient p marks octets a next false is k read never = is

-- where no rule is used, what a strict reader refuses the grammar refuses
pub by_grammar : {A : Type 0} (p : Field A) → Agrees p → Marks Anywhere p → (object : Part) (octets : List ℕ) → IsBytes octets → part_judged object octets octets ≡ judged_by p octets → first_use (leniencies object octets) ≡ None
    → (why : Refusal X509Error) (left : ℕ) → (plain_only (Error Generic) p).Refuses octets why left → p.Refuses octets why left
by_grammar p agrees marks object octets k is none why left (inl h) = h
by_grammar p agrees marks object octets k is none why left (inr t) =
    let read : p.read octets ≡ got t.0 t.1 = agrees.complete octets t.0 t.1 k t.2 in
    let unmarked : p.marks octets ≡ false = plain_or_lenient p marks octets t.0 t.1 (p.marks octets) refl k read t.3 in
    absurd (no_length (leniencies object octets) (none_used (leniencies object octets) none) (some_leniently object octets (is ∙ lenient p octets t.0 t.1 read unmarked)))

-- what no reader takes uses no rule
unused : (object : Part) (octets : List ℕ) → part_judged object octets octets ≡ Absent → leniencies object octets ≡ []
unused object octets absent = ap (λ j. told (part_rule object) j 0 (inside deepest object 0 octets)) absent

no_first : (u : Use) → None ≡ Some u → ⊥
no_first u is = absurd cc

-- where one is used, a strict reader refuses what is taken
pub for_a_rule : {A : Type 0} (p : Field A) → Agrees p → (object : Part) (octets : List ℕ) → IsBytes octets → part_judged object octets octets ≡ judged_by p octets → (u : Use) → first_use (leniencies object octets) ≡ Some u
    → (why : Refusal X509Error) (left : ℕ) → (plain_only (Error Generic) p).Refuses octets why left → why ≡ Error Generic
for_a_rule p agrees object octets k is u used why left (inl h) =
    let read : p.read octets ≡ Err why = agrees.refusal octets why left k h in
    let none = unused object octets (is ∙ ap (λ r. judged_with r (p.marks octets)) read) in
    absurd (no_first u (sym (ap first_use none) ∙ used))
for_a_rule p agrees object octets k is u used why left (inr t) = sym t.4

-- ---- want of memory in place of a refusal

excused : (b : Bool) (P : Type 0) → b ≡ true → cond b (Unit {0}) P
excused true P is = tt
excused false P is = absurd cc

pub want_of_memory : {A X : Type 0} (view : X → List ℕ × A) (plan : Field A) (octets : List ℕ) (e m : Refusal X509Error) → is_excused is_x509_memory true m ≡ true
    → ReadsExactly is_x509_memory true view plan octets (Err e) → ReadsExactly is_x509_memory true view plan octets (Err m)
want_of_memory view plan octets e m wants h = record {
  accepted = tt;
  accepts = λ a rest front. excused (is_excused is_x509_memory true m) _ wants;
  refused = λ own. absurd (clash (is_excused is_x509_memory true m) wants own);
  refuses = λ why left refuses. excused (is_excused is_x509_memory true m) _ wants;
  only = h.only;
  first = tt;
  longer = tt;
  shorter = tt;
}

-- ---- what is read, and what isn't

module _ {A X : Type 0} (view : X → List ℕ × A) (p : Field A) (object : Part) (octets : List ℕ) where
  -- what a strict reader answers
  abbrev Strictly : Bool → Result X (Located X509Error) → Type 0
  Strictly takes_memory result = ReadsWhere is_x509_memory takes_memory view (plain_only (Error Generic) p) octets result

  pub read_plainly_so : (takes_memory : Bool) → takes_memory ≡ true → (x : X) → Strictly takes_memory (Ok x) → ReadsPlainly view p object octets (Ok x)
  read_plainly_so takes_memory is x h = record { exact = (subst (λ b. Strictly b (Ok x)) is h).reads; placed = tt; memory = tt }

  memory_wanted : (refused : Located X509Error) (e : StrictRefusal) → is_excused is_x509_memory true e.why ≡ true → e.rule ≡ None → Strictly true (Err refused) → ReadsPlainly view p object octets (Err e)
  memory_wanted refused e wants none h = record {
    exact = want_of_memory view (plain_only (Error Generic) p) octets refused.why e.why wants h.reads;
    placed = λ own. absurd (clash (is_excused is_x509_memory true e.why) wants own);
    memory = λ _. none;
  }

  refused_by : Agrees p → Marks Anywhere p → IsBytes octets → part_judged object octets octets ≡ judged_by p octets → (refused : Located X509Error) (first : Option Use) → first_use (leniencies object octets) ≡ first
      → is_excused is_x509_memory true refused.why ≡ false → Strictly true (Err refused) → ReadsPlainly view p object octets (Err (placed_by refused first))
  refused_by agrees marks k is refused None none own h =
      let place = h.located own in
      record {
        exact = h.reads;
        placed = λ _. subst (λ u. StandsBy p octets u (placed_by refused None)) (sym none) (refl, (place.0, by_grammar p agrees marks object octets k is none refused.why place.0 place.1, place.2));
        memory = λ _. refl;
      }
  refused_by agrees marks k is refused (Some u) used own h =
      let place = h.located own in
      let generic = for_a_rule p agrees object octets k is u used refused.why place.0 place.1 in
      record {
        exact = h.reads;
        placed = λ _. subst (λ v. StandsBy p octets v (placed_by refused (Some u))) (sym used) (refl, generic, refl);
        memory = λ wants. absurd (clash (is_excused is_x509_memory true refused.why) wants own);
      }

  refused_or_memory : Agrees p → Marks Anywhere p → IsBytes octets → part_judged object octets octets ≡ judged_by p octets → (refused : Located X509Error) (e : StrictRefusal)
      → is_excused is_x509_memory true refused.why ≡ false → Strictly true (Err refused) → (e ≡ placed_by refused (first_use (leniencies object octets))) ⊎ ((is_excused is_x509_memory true e.why ≡ true) × (e.rule ≡ None))
      → ReadsPlainly view p object octets (Err e)
  refused_or_memory agrees marks k is refused e own h (inl same) =
      subst (λ (r : StrictRefusal). ReadsPlainly view p object octets (Err r)) (sym same) (refused_by agrees marks k is refused (first_use (leniencies object octets)) refl own h)
  refused_or_memory agrees marks k is refused e own h (inr wanting) = memory_wanted refused e wanting.0 wanting.1 h

  pub refused_plainly : (takes_memory : Bool) → takes_memory ≡ true → Agrees p → Marks Anywhere p → IsBytes octets → part_judged object octets octets ≡ judged_by p octets → (refused : Located X509Error) (e : StrictRefusal)
      → is_excused is_x509_memory true refused.why ≡ false → Strictly takes_memory (Err refused)
      → (e ≡ placed_by refused (first_use (leniencies object octets))) ⊎ ((is_excused is_x509_memory true e.why ≡ true) × (e.rule ≡ None))
      → ReadsPlainly view p object octets (Err e)
  refused_plainly takes_memory is agrees marks k judges refused e own h so = refused_or_memory agrees marks k judges refused e own (subst (λ b. Strictly b (Err refused)) is h) so

-- what holds of what was read, whether or not a refusal has its rule
pub ruled : {X : Type 0} (P : X → Type 0) (result : Result X StrictRefusal) → IfOk (why_alone result) P → IfOk result P
ruled P (Ok x) holds = holds
ruled P (Err e) _ = tt
