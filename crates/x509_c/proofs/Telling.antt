-- What a call tells of what a reader with places answers.
use Rattle.std.proofs.Common.{◌≡◌, ℕ, ◌+◌, ◌==◌, ◌||◌, Bool, true, false, List, [], ◌∷◌, length, map, Ok, Err, refl, sym, ap, subst, inl, inr, cond, ◌⊎◌, ◌∙◌, arith}
use Rattle.x509_der.specs.declared.error.BerError.{BerError}
use Rattle.x509_der.specs.declared.error.BerError.TheVariants as ber
use Rattle.x509_der.specs.declared.error.ErrorKind.{ErrorKind}
use Rattle.x509_der.specs.declared.error.ErrorKind.TheVariants as kinds
use Rattle.x509_der.specs.declared.error.Err.{Err as Refusal}
use Rattle.x509_der.specs.declared.error.Err.TheVariants as refusals
use Rattle.x509_der.specs.declared.error.Located.{Located}
use Rattle.x509_der.specs.Laws.{Agrees, IsBytes}
use Rattle.x509_der.specs.Plan.{Plan, Outcome, got}
use Rattle.x509_der.specs.Leaves.{BerPlan}
use Rattle.x509_der.specs.Promises.{ReadsWhere, is_ber_memory, is_excused, refusal_by}
use Rattle.x509_fields.specs.declared.error.X509Error.{X509Error}
use Rattle.x509_fields.specs.declared.error.X509Error.TheVariants as x509
use Rattle.x509_fields.specs.Errors.{as_x509, is_x509_memory}
use Rattle.x509_fields.specs.Fields.{lifted}
use Rattle.x509_c.specs.Rows.{AreTold, CountsAndShows, numbered_from}
use Rattle.x509_c.specs.Status.{status_of, kind_status, ber_status, x509_status, lifted_refusal, placed}
use Rattle.x509_c.specs.Tells.{Tells, TellsWhole, Done}

-- ---- numbers of refusals

-- whether a status tells that the buffer was read
abbrev is_of_read : ℕ → Bool
is_of_read n = n == 0 || n == 50

of_kind : (e : ErrorKind) → is_of_read (kind_status e) ≡ false
of_kind kinds.Complete = refl
of_kind kinds.Eof = refl
of_kind kinds.Many1 = refl
of_kind kinds.MapRes = refl

of_ber : (e : BerError) → is_of_read (ber_status e) ≡ false
of_ber (ber.NomError kind) = of_kind kind
of_ber _ = refl

of_x509 : (e : X509Error) → is_of_read (x509_status e) ≡ false
of_x509 (x509.Der kind) = of_ber kind
of_x509 (x509.NomError kind) = of_kind kind
of_x509 _ = refl

of_refusal : (e : Refusal X509Error) → is_of_read (status_of e) ≡ false
of_refusal refusals.Incomplete = refl
of_refusal (refusals.Error e) = of_x509 e
of_refusal (refusals.Failure e) = of_x509 e

of_none : (status : ℕ) → is_of_read status ≡ false → (status ≡ 0) ⊎ (status ≡ 50) → ⊥
of_none status h (inl zero) = let t : is_of_read 0 ≡ false = subst (λ n. is_of_read n ≡ false) zero h in absurd cc
of_none status h (inr none) = let t : is_of_read 50 ≡ false = subst (λ n. is_of_read n ≡ false) none h in absurd cc

excused_status : (takes_memory : Bool) (e : Refusal X509Error) → is_excused is_x509_memory takes_memory e ≡ true → status_of e ≡ 2
excused_status takes_memory refusals.Incomplete h = absurd cc
excused_status takes_memory (refusals.Error e) h = absurd cc
excused_status true (refusals.Failure x509.OutOfMemory) h = refl
excused_status true (refusals.Failure _) h = absurd cc
excused_status false (refusals.Failure e) h = absurd cc

-- what is said of a refusal, or its status is 2
unless_memory : (takes_memory : Bool) (e : Refusal X509Error) (P : Type 0) (excused : Bool) → is_excused is_x509_memory takes_memory e ≡ excused → cond excused (Unit {0}) P → P ⊎ (status_of e ≡ 2)
unless_memory takes_memory e P true is h = inr (excused_status takes_memory e is)
unless_memory takes_memory e P false is h = inl h

-- ---- what was read

-- what is shown of the value that was read is shown of each
shown_of_each : {F A : Type 0} (Shows : A → List ℕ → ℕ → Type 0) (status : ℕ) (x : List ℕ × A) (value : A) (rest : List ℕ) → ◌≡◌ {A = Outcome F A} (got value rest) (Ok x) → Shows x.1 x.0 status → Shows value rest status
shown_of_each {F} {A} Shows status x value rest same shows =
    let pair : (rest, value) ≡ x = cc in
    subst (λ (y : List ℕ × A). Shows y.1 y.0 status) (sym pair) shows

pub tells_looked : {A X : Type 0} (takes_memory : Bool) (view : X → List ℕ × A) (plan : Plan (Refusal X509Error) A) (buffer : List ℕ) (Shows : A → List ℕ → ℕ → Type 0) (Kept : Type 0) (x : X) (before status : ℕ)
    → ReadsWhere is_x509_memory takes_memory view plan buffer (Ok x) → Shows (view x).1 (view x).0 status → ((status ≡ 0 → ⊥) → Kept) → Tells plan buffer Shows Kept before before status
tells_looked takes_memory view plan buffer Shows Kept x before status reads shows kept = record {
  read = λ value rest front. inl (shown_of_each Shows status (view x) value rest (reads.reads.accepts value rest front) shows);
  refused = λ why left refuses. absurd (reads.locates why left refuses);
  only = λ _. ((view x).1, (view x).0, reads.reads.accepted);
  kept = kept;
  unplaced = λ _. refl;
}

pub tells_read : {A X : Type 0} (takes_memory : Bool) (view : X → List ℕ × A) (plan : Plan (Refusal X509Error) A) (buffer : List ℕ) (Shows : A → List ℕ → Type 0) (Kept : Type 0) (x : X) (before : ℕ)
    → ReadsWhere is_x509_memory takes_memory view plan buffer (Ok x) → Shows (view x).1 (view x).0 → Tells plan buffer (λ value rest. Done (Shows value rest)) Kept before before 0
tells_read takes_memory view plan buffer Shows Kept x before reads shows =
    tells_looked takes_memory view plan buffer (λ value rest. Done (Shows value rest)) Kept x before 0 reads (refl, shows) (λ other. absurd (other refl))

-- ---- want of memory

pub tells_memory : {A : Type 0} (plan : Plan (Refusal X509Error) A) (buffer : List ℕ) (Shows : A → List ℕ → ℕ → Type 0) (Kept : Type 0) (before : ℕ) → Kept → Tells plan buffer Shows Kept before before 2
tells_memory plan buffer Shows Kept before kept = record {
  read = λ value rest front. inr refl;
  refused = λ why left refuses. inr refl;
  only = λ done. absurd (of_none 2 refl done);
  kept = λ _. kept;
  unplaced = λ _. refl;
}

-- ---- rows of items of members

pub tells_rows : {A X R Y : Type 0} (takes_memory : Bool) (view : X → List ℕ × A) (plan : Plan (Refusal X509Error) A) (buffer : List ℕ) (Shows : R → Y → Type 0) (items : A → List Y) (old rows : List R) (before told_before count : ℕ) (x : X) (status : ℕ)
    → ReadsWhere is_x509_memory takes_memory view plan buffer (Ok x) → AreTold Shows (items (view x).1) old told_before rows count status
    → Tells plan buffer (λ value _. Done (CountsAndShows Shows rows count (items value))) ((rows ≡ old) × (count ≡ told_before)) before before status
tells_rows takes_memory view plan buffer Shows items old rows before told_before count x status reads (inl done) =
    tells_looked takes_memory view plan buffer (λ value _. Done (CountsAndShows Shows rows count (items value))) ((rows ≡ old) × (count ≡ told_before)) x before status reads done (λ other. absurd (other done.0))
tells_rows takes_memory view plan buffer Shows items old rows before told_before count x status reads (inr two) =
    subst (λ n. Tells plan buffer (λ value _. Done (CountsAndShows Shows rows count (items value))) ((rows ≡ old) × (count ≡ told_before)) before before n) (sym two.0)
    (tells_memory plan buffer (λ value _. Done (CountsAndShows Shows rows count (items value))) ((rows ≡ old) × (count ≡ told_before)) before (two.1, two.2))

-- items in memory, and what they are
views_of : {M T V Y : Type 0} (view : T → Y) (held : M → List T) (own : V → List Y) (member : M → V) → ((m : M) → map view (held m) ≡ own (member m))
    → (members : List M) → map (λ m. map view (held m)) members ≡ map own (map member members)
views_of view held own member same [] = refl
views_of {Y = Y} view held own member same (m ∷ members) =
    ap (λ (ys : List Y). ys ∷ map (λ n. map view (held n)) members) (same m) ∙ ap (λ (yss : List (List Y)). own (member m) ∷ yss) (views_of view held own member same members)

-- of the members of a slice, of which all that were read are the views
pub tells_items : {A X M T V R Y : Type 0} (takes_memory : Bool) (view : X → List ℕ × A) (plan : Plan (Refusal X509Error) A) (buffer : List ℕ) (Shows : R → ℕ × Y → Type 0) (of : A → List V) (own : V → List Y) (member : M → V)
    (item : T → Y) (held : M → List T) (same : (m : M) → map item (held m) ≡ own (member m)) (members all : List M) (old rows : List R) (before told_before count : ℕ) (x : X) (status : ℕ)
    → ReadsWhere is_x509_memory takes_memory view plan buffer (Ok x) → members ≡ all → of (view x).1 ≡ map member all
    → AreTold Shows (numbered_from 0 (map (λ m. map item (held m)) members)) old told_before rows count status
    → Tells plan buffer (λ value _. Done (CountsAndShows Shows rows count (numbered_from 0 (map own (of value))))) ((rows ≡ old) × (count ≡ told_before)) before before status
tells_items {A} {X} {M} {T} {V} {R} {Y} takes_memory view plan buffer Shows of own member item held same members all old rows before told_before count x status reads slice is shown =
    let all_same : numbered_from 0 (map (λ m. map item (held m)) members) ≡ numbered_from 0 (map own (of (view x).1))
    = ap (λ (ms : List M). numbered_from 0 (map (λ m. map item (held m)) ms)) slice
    ∙ ap (λ (ys : List (List Y)). numbered_from 0 ys) (views_of item held own member same all) ∙ ap (λ (vs : List V). numbered_from 0 (map own vs)) (sym is) in
    tells_rows takes_memory view plan buffer Shows (λ value. numbered_from 0 (map own (of value))) old rows before told_before count x status reads
    (subst (λ (ys : List (ℕ × Y)). AreTold Shows ys old told_before rows count status) all_same shown)

-- ---- refusals

-- the octet is told of what isn't want of memory
placed_at : (e : Located X509Error) (before status : ℕ) (two : Bool) → (status == 2) ≡ two → status ≡ status_of e.why → (placed e before ≡ e.at) ⊎ (status ≡ 2)
placed_at e before status true is same = inr (grind arith)
placed_at e before status false is same =
    let other : (status_of e.why == 2) ≡ false = subst (λ n. (n == 2) ≡ false) same is in
    inl (ap (λ b. cond b before e.at) other)

refused_so : (e : Located X509Error) (buffer : List ℕ) (before : ℕ) (why : Refusal X509Error) (left : ℕ) → e.why ≡ why → e.at + left ≡ length buffer → (placed e before ≡ e.at) ⊎ (status_of e.why ≡ 2)
    → ((status_of e.why ≡ status_of why) × (placed e before + left ≡ length buffer)) ⊎ (status_of e.why ≡ 2)
refused_so e buffer before why left is there (inl at) = inl (ap status_of is, subst (λ n. n + left ≡ length buffer) (sym at) there)
refused_so e buffer before why left is there (inr two) = inr two

told_refusal : (e : Located X509Error) (buffer : List ℕ) (before : ℕ) (why : Refusal X509Error) (left : ℕ) → ((e.why ≡ why) × (e.at + left ≡ length buffer)) ⊎ (status_of e.why ≡ 2)
    → ((status_of e.why ≡ status_of why) × (placed e before + left ≡ length buffer)) ⊎ (status_of e.why ≡ 2)
told_refusal e buffer before why left (inl h) = refused_so e buffer before why left h.0 h.1 (placed_at e before (status_of e.why) (status_of e.why == 2) refl refl)
told_refusal e buffer before why left (inr two) = inr two

-- what is refused was not read
not_read : {A : Type 0} (e : Refusal X509Error) (value : A) (rest : List ℕ) → (◌≡◌ {A = Outcome (Refusal X509Error) A} (got value rest) (Err e)) ⊎ (status_of e ≡ 2) → status_of e ≡ 2
not_read e value rest (inl h) = absurd cc
not_read e value rest (inr two) = two

-- want of memory has no octet
unplaced_of : (e : Located X509Error) (before : ℕ) → (status_of e.why ≡ 0) ⊎ (status_of e.why ≡ 50) ⊎ (status_of e.why ≡ 2) → placed e before ≡ before
unplaced_of e before (inl zero) = absurd (of_none (status_of e.why) (of_refusal e.why) (inl zero))
unplaced_of e before (inr (inl none)) = absurd (of_none (status_of e.why) (of_refusal e.why) (inr none))
unplaced_of e before (inr (inr two)) = ap (λ n. cond (n == 2) before e.at) two

own_refusal : {A X : Type 0} (takes_memory : Bool) (view : X → List ℕ × A) (plan : Plan (Refusal X509Error) A) (buffer : List ℕ) (Shows : A → List ℕ → ℕ → Type 0) (Kept : Type 0) (e : Located X509Error) (before : ℕ)
    → ReadsWhere is_x509_memory takes_memory view plan buffer (Err e) → Kept → Tells plan buffer Shows Kept before (placed e before) (status_of e.why)
own_refusal {A} takes_memory view plan buffer Shows Kept e before reads kept =
    let excused = is_excused is_x509_memory takes_memory e.why in record {
      read = λ value rest front. inr (not_read e.why value rest (unless_memory takes_memory e.why (◌≡◌ {A = Outcome (Refusal X509Error) A} (got value rest) (Err e.why)) excused refl (reads.reads.accepts value rest front)));
      refused = λ why left refuses. told_refusal e buffer before why left (unless_memory takes_memory e.why ((e.why ≡ why) × (e.at + left ≡ length buffer)) excused refl (reads.locates why left refuses));
      only = λ done. absurd (of_none (status_of e.why) (of_refusal e.why) done);
      kept = λ _. kept;
      unplaced = unplaced_of e before;
    }

pub tells_refused : {A X : Type 0} (takes_memory : Bool) (view : X → List ℕ × A) (plan : Plan (Refusal X509Error) A) (buffer : List ℕ) (Shows : A → List ℕ → ℕ → Type 0) (Kept : Type 0) (e : Located X509Error) (before at status : ℕ)
    → ReadsWhere is_x509_memory takes_memory view plan buffer (Err e) → Kept → at ≡ placed e before → status ≡ status_of e.why → Tells plan buffer Shows Kept before at status
tells_refused takes_memory view plan buffer Shows Kept e before at status reads kept place is =
    subst (λ n. Tells plan buffer Shows Kept before at n) (sym is)
    (subst (λ n. Tells plan buffer Shows Kept before n (status_of e.why)) (sym place) (own_refusal takes_memory view plan buffer Shows Kept e before reads kept))

-- ---- readers whose refusals are of elements alone

pub tells_read_lifted : {A X : Type 0} (takes_memory : Bool) (view : X → List ℕ × A) (plan : BerPlan A) (buffer : List ℕ) (Shows : A → List ℕ → Type 0) (Kept : Type 0) (x : X) (before : ℕ)
    → ReadsWhere is_ber_memory takes_memory view plan buffer (Ok x) → Shows (view x).1 (view x).0 → Tells (lifted plan) buffer (λ value rest. Done (Shows value rest)) Kept before before 0
tells_read_lifted takes_memory view plan buffer Shows Kept x before reads shows = record {
  read = λ value rest front. inl (shown_of_each (λ value rest. Done (Shows value rest)) 0 (view x) value rest (reads.reads.accepts value rest front) (refl, shows));
  refused = λ why left refuses. absurd (reads.locates refuses.0 left refuses.1);
  only = λ _. ((view x).1, (view x).0, reads.reads.accepted);
  kept = λ other. absurd (other refl);
  unplaced = λ _. refl;
}

excused_element : (takes_memory : Bool) (e : Refusal BerError) → is_excused is_ber_memory takes_memory e ≡ true → status_of (refusal_by as_x509 e) ≡ 2
excused_element takes_memory refusals.Incomplete h = absurd cc
excused_element takes_memory (refusals.Error e) h = absurd cc
excused_element true (refusals.Failure ber.OutOfMemory) h = refl
excused_element true (refusals.Failure _) h = absurd cc
excused_element false (refusals.Failure e) h = absurd cc

unless_element_memory : (takes_memory : Bool) (e : Refusal BerError) (P : Type 0) (excused : Bool) → is_excused is_ber_memory takes_memory e ≡ excused → cond excused (Unit {0}) P → P ⊎ (status_of (refusal_by as_x509 e) ≡ 2)
unless_element_memory takes_memory e P true is h = inr (excused_element takes_memory e is)
unless_element_memory takes_memory e P false is h = inl h

element_not_read : {A : Type 0} (e : Refusal BerError) (value : A) (rest : List ℕ) → (◌≡◌ {A = Outcome (Refusal BerError) A} (got value rest) (Err e)) ⊎ (status_of (refusal_by as_x509 e) ≡ 2) → status_of (refusal_by as_x509 e) ≡ 2
element_not_read e value rest (inl h) = absurd cc
element_not_read e value rest (inr two) = two

renamed_refusal : (e : Located BerError) (buffer : List ℕ) (inner : Refusal BerError) (why : Refusal X509Error) (left : ℕ) → refusal_by as_x509 inner ≡ why → ((e.why ≡ inner) × (e.at + left ≡ length buffer)) ⊎ (status_of (refusal_by as_x509 e.why) ≡ 2)
    → ((refusal_by as_x509 e.why ≡ why) × (e.at + left ≡ length buffer)) ⊎ (status_of (refusal_by as_x509 e.why) ≡ 2)
renamed_refusal e buffer inner why left name (inl h) = inl (ap (refusal_by as_x509) h.0 ∙ name, h.1)
renamed_refusal e buffer inner why left name (inr two) = inr two

pub tells_refused_lifted : {A X : Type 0} (takes_memory : Bool) (view : X → List ℕ × A) (plan : BerPlan A) (buffer : List ℕ) (Shows : A → List ℕ → ℕ → Type 0) (Kept : Type 0) (e : Located BerError) (before at status : ℕ)
    → ReadsWhere is_ber_memory takes_memory view plan buffer (Err e) → Kept → at ≡ placed (lifted_refusal e) before → status ≡ status_of (lifted_refusal e).why → Tells (lifted plan) buffer Shows Kept before at status
tells_refused_lifted {A} takes_memory view plan buffer Shows Kept e before at status reads kept place is =
    let excused = is_excused is_ber_memory takes_memory e.why in
    let f = lifted_refusal e in
    let own : Tells (lifted plan) buffer Shows Kept before (placed f before) (status_of f.why) = record {
      read = λ value rest front. inr (element_not_read e.why value rest (unless_element_memory takes_memory e.why (◌≡◌ {A = Outcome (Refusal BerError) A} (got value rest) (Err e.why)) excused refl (reads.reads.accepts value rest front)));
      refused = λ why left refuses. told_refusal f buffer before why left (renamed_refusal e buffer refuses.0 why left refuses.2 (unless_element_memory takes_memory e.why ((e.why ≡ refuses.0) × (e.at + left ≡ length buffer)) excused refl (reads.locates refuses.0 left refuses.1)));
      only = λ done. absurd (of_none (status_of f.why) (of_refusal f.why) done);
      kept = λ _. kept;
      unplaced = unplaced_of f before;
    } in
    subst (λ n. Tells (lifted plan) buffer Shows Kept before at n) (sym is) (subst (λ n. Tells (lifted plan) buffer Shows Kept before n (status_of f.why)) (sym place) own)

-- ---- plans that may take the whole buffer

-- what is refused has no value
refused_none : {A : Type 0} (x : List ℕ × A) (r : Refusal X509Error) (read : Outcome (Refusal X509Error) A) → read ≡ Ok x → read ≡ Err r → ⊥
refused_none x r read is other = absurd cc

same_refusal : {A : Type 0} (a b : Refusal X509Error) (read : Outcome (Refusal X509Error) A) → read ≡ Err a → read ≡ Err b → a ≡ b
same_refusal a b read is other = cc

pub tells_whole_read : {A : Type 0} (plan : Plan (Refusal X509Error) A) (buffer : List ℕ) (Shows : A → List ℕ → Type 0) (Kept : Type 0) (value : A) (rest : List ℕ) (before : ℕ)
    → Agrees plan → IsBytes buffer → plan.read buffer ≡ got value rest → Shows value rest → TellsWhole plan buffer (λ value rest. Done (Shows value rest)) Kept before before 0
tells_whole_read plan buffer Shows Kept value rest before agrees bytes is shows = record {
  read = λ other behind stands. inl (shown_of_each (λ value rest. Done (Shows value rest)) 0 (rest, value) other behind (sym (agrees.complete buffer other behind bytes stands) ∙ is) (refl, shows));
  refused = λ why left refuses. absurd (refused_none (rest, value) why (plan.read buffer) is (agrees.refusal buffer why left bytes refuses));
  only = λ _. (value, rest, agrees.sound buffer value rest bytes is);
  kept = λ other. absurd (other refl);
  unplaced = λ _. refl;
}

pub tells_whole_refused : {A : Type 0} (plan : Plan (Refusal X509Error) A) (buffer : List ℕ) (Shows : A → List ℕ → ℕ → Type 0) (Kept : Type 0) (e : Located X509Error) (before at status : ℕ)
    → Agrees plan → IsBytes buffer → plan.read buffer ≡ Err e.why → ((left : ℕ) → plan.Refuses buffer e.why left → e.at + left ≡ length buffer) → Kept → at ≡ placed e before → status ≡ status_of e.why
    → TellsWhole plan buffer Shows Kept before at status
tells_whole_refused {A} plan buffer Shows Kept e before at status agrees bytes is lies kept place same =
    let own : TellsWhole plan buffer Shows Kept before (placed e before) (status_of e.why) = record {
      read = λ value rest stands. absurd (refused_none (rest, value) e.why (plan.read buffer) (agrees.complete buffer value rest bytes stands) is);
      refused = λ why left refuses. let reason : e.why ≡ why = same_refusal e.why why (plan.read buffer) is (agrees.refusal buffer why left bytes refuses) in
          told_refusal e buffer before why left (inl (reason, lies left (subst (λ (r : Refusal X509Error). plan.Refuses buffer r left) (sym reason) refuses)));
      only = λ done. absurd (of_none (status_of e.why) (of_refusal e.why) done);
      kept = λ _. kept;
      unplaced = unplaced_of e before;
    } in
    subst (λ n. TellsWhole plan buffer Shows Kept before at n) (sym same) (subst (λ n. TellsWhole plan buffer Shows Kept before n (status_of e.why)) (sym place) own)
