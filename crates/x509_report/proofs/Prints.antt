-- One part behind another.
use Rattle.std.proofs.Common.{◌≡◌, ℕ, suc, ◌+◌, Bool, true, false, ◌&&◌, List, [], ◌∷◌, ◌++◌, Option, Some, None, is_some, length, take, refl, subst, sym, ap, ◌∙◌, arith}
use Rattle.std.specs.Io.KnownBytes.{Appends}
use Rattle.std.proofs.KnownBytes.{Appends-nil, Appends-trans}
use Rattle.std.proofs.lemmas.Grind.{flat_map-append, common_steps}
use Rattle.std.proofs.lemmas.List.{take-append-le}
use Rattle.x509_report.specs.Told.{Printed, Prints, Tells, Told, WritesFront, alone, both, halted, nothing, reason, text}
use Rattle.x509_report.specs.declared.stop.Stop.{Stop}
use Rattle.x509_report.specs.declared.stop.Stop.TheVariants as stops

-- ---- lines that are written

behind : (a b c : Option (List ℕ)) (xs ys : List (List ℕ)) → Appends a b (text xs) → Appends b c (text ys) → Appends a c (text (xs ++ ys))
behind a b c xs ys p q = subst (λ bs. Appends a c bs) (sym (flat_map-append (λ line. line) xs ys)) (Appends-trans a b c _ _ p q)

front : (xs ys : List (List ℕ)) (n : ℕ) → take (length xs + n) (xs ++ ys) ≡ xs ++ take n ys
front [] ys n = let e : 0 + n ≡ n = omega arith in ap (λ k. take k ys) e
front (x ∷ xs) ys n = let e : length (x ∷ xs) + n ≡ suc (length xs + n) = omega arith in ap (λ k. take k (x ∷ (xs ++ ys))) e ∙ ap (λ ls. x ∷ ls) (front xs ys n)

lengths : (xs ys : List (List ℕ)) → length (xs ++ ys) ≡ length xs + length ys
lengths xs ys = grind (arith, common_steps)

-- a front of some lines is one of more, and lines with a front of those behind them are a front of both
front_first : (a b : Option (List ℕ)) (xs ys : List (List ℕ)) → WritesFront a b xs → WritesFront a b (xs ++ ys)
front_first a b xs ys p = record {
  count = p.count;
  within = omega (arith, p.within, lengths xs ys);
  text = subst (λ ls. Appends a b (text ls)) (sym (take-append-le p.count xs ys p.within)) p.text;
}

front_behind : (a b c : Option (List ℕ)) (xs ys : List (List ℕ)) → Appends a b (text xs) → WritesFront b c ys → WritesFront a c (xs ++ ys)
front_behind a b c xs ys p q = record {
  count = length xs + q.count;
  within = omega (arith, q.within, lengths xs ys);
  text = subst (λ ls. Appends a c (text ls)) (sym (front xs ys q.count)) (behind a b c xs (take q.count ys) p q.text);
}

unwritten : (a : Option (List ℕ)) (lines : List (List ℕ)) → WritesFront a a lines
unwritten a lines = record { count = 0; within = omega arith; text = Appends-nil a }

-- ---- what is told

and_assoc : (a b c : Bool) → ((a && b) && c) ≡ (a && (b && c))
and_assoc true b c = refl
and_assoc false b c = refl

and_true : (a : Bool) → (a && true) ≡ a
and_true true = refl
and_true false = refl

-- where the first part stopped, the second writes nothing
module _ (a b c : Printed) (s t : Told) where
  told_both : (y z : Option Stop) → ((why : Stop) → y ≡ Some why → (z ≡ Some why) × (c.written ≡ b.written)) → Tells y a b s → Tells z b c t → Tells z a c (both s t)
  told_both None None k p q =
      (behind a.written b.written c.written s.lines t.lines p.0 q.0, q.1 ∙ ap (λ r. r && t.taken) p.1 ∙ and_assoc a.taken s.taken t.taken)
  told_both None (Some stops.Memory) k p q = front_behind a.written b.written c.written s.lines t.lines p.0 q
  told_both y (Some stops.Write) k p q = tt
  told_both (Some why) None k p q = let e = (k why refl).0 in cc
  told_both (Some stops.Memory) (Some stops.Memory) k p q = subst (λ o. WritesFront a.written o (s.lines ++ t.lines)) (sym (k stops.Memory refl).1) (front_first a.written b.written s.lines t.lines p)
  told_both (Some stops.Write) (Some stops.Memory) k p q = let e = (k stops.Write refl).0 in cc

pub in_turn : (a b c : Printed) (s t u : Told) → Prints a b s → Prints b c t → both s t ≡ u → Prints a c u
in_turn a b c s t u p q e = subst (Prints a c) e (record {
  lines = told_both a b c s t b.stopped c.stopped q.still p.lines q.lines;
  still = λ why h. let k = p.still why h in let l = q.still why k.0 in (l.0, l.1 ∙ k.1);
})

-- where it stopped without a write, any lines are told
stopped_any : (a b : Printed) (u : Told) (why : Stop) → b.stopped ≡ Some why → b.written ≡ a.written → ((first : Stop) → a.stopped ≡ Some first → b.stopped ≡ Some first) → Prints a b u
stopped_any a b u why e w k = record { lines = subst (λ x. Tells x a b u) (sym e) (go why); still = λ first h. (k first h, w) }
  where
    go : (x : Stop) → Tells (Some x) a b u
    go stops.Memory = subst (λ o. WritesFront a.written o u.lines) (sym w) (unwritten a.written u.lines)
    go stops.Write = tt

pub halted_any : (a b : Printed) (u : Told) → b ≡ halted a → Prints a b u
halted_any a b u e = subst (λ p. Prints a p u) (sym e) (stopped_any a (halted a) u (reason a.stopped) refl refl (λ first h. ap (λ x. Some (reason x)) h))

pub still_any : (a : Printed) (u : Told) → true ≡ is_some a.stopped → Prints a a u
still_any a u h = go a.stopped refl
  where
    go : (x : Option Stop) → a.stopped ≡ x → Prints a a u
    go None e = let no : is_some a.stopped ≡ false = ap is_some e in absurd cc
    go (Some why) e = stopped_any a a u why e refl (λ first k. k)

pub prints_nothing : (a : Printed) → Prints a a nothing
prints_nothing a = record { lines = go a.stopped; still = λ why h. (h, refl) }
  where
    go : (x : Option Stop) → Tells x a a nothing
    go None = (Appends-nil a.written, sym (and_true a.taken))
    go (Some stops.Memory) = unwritten a.written []
    go (Some stops.Write) = tt

-- an object of these lines was taken, or wasn't
pub noted : (a b c : Printed) (lines : List (List ℕ)) (taken : Bool) → Prints a b (alone lines) → c ≡ record b { taken = b.taken && taken } → Prints a c (record { taken = taken; lines = lines })
noted a b c lines taken p e = subst (λ c. Prints a c (record { taken = taken; lines = lines })) (sym e) (record { lines = go b.stopped p.lines; still = p.still })
  where
    go : (x : Option Stop) → Tells x a b (alone lines) → Tells x a (record b { taken = b.taken && taken }) (record { taken = taken; lines = lines })
    go None p = (p.0, ap (λ t. t && taken) (p.1 ∙ and_true a.taken))
    go (Some stops.Memory) p = p
    go (Some stops.Write) p = tt

-- ---- a walk over parts, of which some are told, and the others are left

-- whatever prints those that are left prints the whole
abbrev pub Leads : Printed → Printed → Told → Told → Type 0
Leads old now left whole = (new : Printed) → Prints now new left → Prints old new whole

pub leads_step : (old now next : Printed) (first rest left whole : Told) → left ≡ both first rest → Leads old now left whole → Prints now next first → Leads old next rest whole
leads_step old now next first rest left whole e leads p = λ new q. leads new (in_turn now next new first rest left p q (sym e))

pub leads_done : (old now : Printed) (left whole : Told) → left ≡ nothing → Leads old now left whole → Prints old now whole
leads_done old now left whole e leads = leads now (subst (Prints now now) (sym e) (prints_nothing now))

pub leads_stop : (old now : Printed) (left whole : Told) → true ≡ is_some now.stopped → Leads old now left whole → Prints old now whole
leads_stop old now left whole h leads = leads now (still_any now left h)

pub ruleset printing = (in_turn, halted_any, still_any, prints_nothing)
