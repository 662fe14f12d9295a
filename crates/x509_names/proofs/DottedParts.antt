-- What stands between the dots of a text: how it is handed out, and how it is refused.
use Rattle.std.proofs.Common.{◌≡◌, ℕ, ◌+◌, ◌-◌, ◌*◌, ◌^◌, ◌<◌, ◌≤◌, true, List, [], ◌∷◌, ◌++◌, drop, map, flat_map, Option, Some, None, refl, sym, ap, subst, ◌∙◌, arith, inl, inr, decimal, Bor}
use Rattle.std.proofs.lemmas.Iterator.{YieldsList}
use Rattle.std.proofs.lemmas.Iterator.Splits.{YieldsList-from_str_split}
use Rattle.std.proofs.lemmas.List.Elements.{All-head, All-tail, All-nil, All-push}
use Rattle.std.proofs.lemmas.List.{map-append, append-nil, append_assoc}
use Rattle.std.proofs.lemmas.List.Concat.{flat_map-append}
use Rattle.std.proofs.lemmas.List.Splits.{join_with_byte-slice_split}
use Rattle.std.specs.List.{All, join_with_byte}
use Rattle.std.specs.Option.{option_or}
use Rattle.std.specs.Str.Iter.{split_steps, split_text, split_has_more, split_pattern}
use Rattle.std.specs.Str.Pattern.{FindsChar}
use Rattle.std.specs.declared.str.Split.{Split}
use Rattle.x509_der.specs.Oid.{dotted}
use Rattle.x509_names.specs.Arcs.{IsDottedText, most_second, number_octets, encoded}
use Rattle.x509_names.specs.DottedRefusals.{arc_refusal, second_refusal, begin_refusal, further_refusal, parts, refusal}
use Rattle.x509_names.specs.declared.parse_error.ParseOidError.{ParseOidError}
use Rattle.x509_names.specs.declared.parse_error.ParseOidError.TheVariants.{TooFewArcs, FirstArcTooLarge, ArcTooLarge}
use Rattle.x509_names.proofs.DottedOctets.{Begins, first_two}
use Rattle.x509_names.proofs.Numerals.{arc_refusal-decimal, value-decimal}

-- ---- handing out

abbrev Steps : Split ℕ → Option (Bor (List ℕ)) → Split ℕ → Type 0
Steps = split_steps FindsChar (λ a b. b ≡ a)

-- these are still to come
abbrev pub Left : Split ℕ → List (List ℕ) → Type 0
Left s texts = YieldsList Steps (λ t. t.now) s texts

pub record Next (texts : List (List ℕ)) (text : List ℕ) (s : Split ℕ) : Type 0 where
  pub others : List (List ℕ)
  pub cut : texts ≡ text ∷ others
  pub left : Left s others

pub some_next : (s t : Split ℕ) (r : Option (Bor (List ℕ))) (x : Bor (List ℕ)) (texts : List (List ℕ)) → Left s texts → Steps s r t → r ≡ Some x
    → Next texts x.now t
some_next s t r x [] left step is = absurd (left.runs x t (subst (λ o. Steps s o t) is step))
some_next s t r x (text ∷ texts) left step is =
    let k = left.runs.1 x t (subst (λ o. Steps s o t) is step) in
    record { others = texts; cut = ap (λ y. y ∷ texts) (sym k.0); left = record { runs = k.1 } }

pub no_next : (s t : Split ℕ) (r : Option (Bor (List ℕ))) (texts : List (List ℕ)) → Left s texts → Steps s r t → r ≡ None → texts ≡ []
no_next s t r [] left step is = refl
no_next s t r (text ∷ texts) left step is = absurd (left.runs.0 t (subst (λ o. Steps s o t) is step))

pub parts_left : (s : Split ℕ) (text : List ℕ) → split_text s ≡ text → split_has_more s ≡ true → split_pattern s ≡ 46 → Left s (parts text)
parts_left s text is more dot = YieldsList-from_str_split 46 text (omega arith) is more dot

-- the first two, and those behind them
pub record Two (text first second : List ℕ) (s : Split ℕ) : Type 0 where
  pub others : List (List ℕ)
  pub cut : parts text ≡ first ∷ second ∷ others
  pub left : Left s others

pub two_parts : (text : List ℕ) (s t u : Split ℕ) (q r : Option (Bor (List ℕ))) (x y : Bor (List ℕ)) → split_text s ≡ text → split_has_more s ≡ true
    → split_pattern s ≡ 46
    → Steps s q t → q ≡ Some x → Steps t r u → r ≡ Some y → Two text x.now y.now u
two_parts text s t u q r x y whole more dot one is two is' =
    let first = some_next s t q x (parts text) (parts_left s text whole more dot) one is in
    let second = some_next t u r y first.others first.left two is' in
    record { others = second.others; cut = first.cut ∙ ap (λ ts. x.now ∷ ts) second.cut; left = second.left }

-- ---- refusals

abbrev pub parts_refusal : List (List ℕ) → Option ParseOidError
parts_refusal texts = option_or (begin_refusal texts) (further_refusal (drop 2 texts))

pub refused_none : (text : List ℕ) (s t : Split ℕ) (q : Option (Bor (List ℕ))) → Left s (parts text) → Steps s q t → q ≡ None → refusal text ≡ Some TooFewArcs
refused_none text s t q left one is = rw (no_next s t q (parts text) left one is) refl

pub refused_one : (text : List ℕ) (s t u : Split ℕ) (q r : Option (Bor (List ℕ))) (x : Bor (List ℕ)) → Left s (parts text) → Steps s q t → q ≡ Some x
    → Steps t r u → r ≡ None → refusal text ≡ Some TooFewArcs
refused_one text s t u q r x left one is two is' =
    let first = some_next s t q x (parts text) left one is in
    ap parts_refusal (first.cut ∙ ap (λ ts. x.now ∷ ts) (no_next t u r first.others first.left two is'))

pub refused_first : (text first second : List ℕ) (others : List (List ℕ)) (e : ParseOidError) → parts text ≡ first ∷ second ∷ others
    → arc_refusal 2 FirstArcTooLarge first ≡ Some e → refusal text ≡ Some e
refused_first text first second others e cut refused = rw (cut, refused) refl

pub refused_second : (text first second : List ℕ) (others : List (List ℕ)) (top : ℕ) (e : ParseOidError) → parts text ≡ first ∷ second ∷ others
    → first ≡ decimal top → top ≤ 2 → second_refusal top second ≡ Some e
    → refusal text ≡ Some e
refused_second text first second others top e cut is small refused =
    rw (cut, is, arc_refusal-decimal 2 FirstArcTooLarge top small (omega arith), value-decimal top (omega arith), refused) refl

pub further_refusal-some : (arcs : List ℕ) (text : List ℕ) (others : List (List ℕ)) (e : ParseOidError) → All (λ n. n < 2 ^ 64) arcs
    → arc_refusal (2 ^ 64 - 1) ArcTooLarge text ≡ Some e
    → further_refusal (map decimal arcs ++ text ∷ others) ≡ Some e
further_refusal-some [] text others e fit refused = rw refused refl
further_refusal-some (n ∷ arcs) text others e fit refused =
    let small : n < 2 ^ 64 = All-head (λ n. n < 2 ^ 64) n arcs fit in
    rw (arc_refusal-decimal (2 ^ 64 - 1) ArcTooLarge n (omega arith) small)
    (further_refusal-some arcs text others e (All-tail (λ n. n < 2 ^ 64) n arcs fit) refused)

pub further_refusal-none : (arcs : List ℕ) → All (λ n. n < 2 ^ 64) arcs → further_refusal (map decimal arcs) ≡ None
further_refusal-none [] fit = refl
further_refusal-none (n ∷ arcs) fit =
    let small : n < 2 ^ 64 = All-head (λ n. n < 2 ^ 64) n arcs fit in
    rw (arc_refusal-decimal (2 ^ 64 - 1) ArcTooLarge n (omega arith) small) (further_refusal-none arcs (All-tail (λ n. n < 2 ^ 64) n arcs fit))

pub next_fits : (top next : ℕ) → Begins top next → next < 2 ^ 64
next_fits top next begins = elim (first_two top next begins) [ inl low ↦ (let b = low.1 in omega arith) | inr high ↦ (let b = high.1 in omega arith) ]

second_refusal-decimal : (top next : ℕ) → Begins top next → second_refusal top (decimal next) ≡ None
second_refusal-decimal top next begins = arc_refusal-decimal (most_second top) _ next begins.1 (next_fits top next begins)

-- parts that begin with two arcs
pub begin_refusal-none : (top next : ℕ) (others : List (List ℕ)) → Begins top next → begin_refusal (decimal top ∷ decimal next ∷ others) ≡ None
begin_refusal-none top next others begins =
    let low = begins.0 in
    rw (arc_refusal-decimal 2 FirstArcTooLarge top low (omega arith), value-decimal top (omega arith), second_refusal-decimal top next begins) refl

pub parts_refusal-begins : (top next : ℕ) (others : List (List ℕ)) → Begins top next
    → parts_refusal (decimal top ∷ decimal next ∷ others) ≡ further_refusal others
parts_refusal-begins top next others begins = ap (λ r. option_or r (further_refusal others)) (begin_refusal-none top next others begins)

-- ---- the loop

-- what has been read of the text, and what is left of it
pub record HasRead (text : List ℕ) (top next : ℕ) (left_over : Split ℕ) (octets : List ℕ) : Type 0 where
  pub arcs : List ℕ
  pub rest : List (List ℕ)
  pub cut : parts text ≡ map decimal (top ∷ next ∷ arcs) ++ rest
  pub left : Left left_over rest
  pub fit : All (λ n. n < 2 ^ 64) arcs
  pub octets_are : octets ≡ encoded (top ∷ next ∷ arcs)

pub HasRead-two : (text first second : List ℕ) (top next : ℕ) (s t : Split ℕ) (none octets : List ℕ) → Two text first second s → t ≡ s
    → first ≡ decimal top → second ≡ decimal next → none ≡ []
    → octets ≡ none ++ number_octets (40 * top + next) → HasRead text top next t octets
HasRead-two text first second top next s t none octets two same is is' empty octets_are = record {
  arcs = [];
  rest = two.others;
  cut = two.cut ∙ rw (is, is') refl;
  left = subst (λ u. Left u two.others) (sym same) two.left;
  fit = All-nil (λ n. n < 2 ^ 64);
  octets_are = octets_are ∙ rw empty (sym (append-nil (number_octets (40 * top + next))));
}

pub HasRead-more : (text part : List ℕ) (top next n : ℕ) (s t : Split ℕ) (octets more : List ℕ) (read : HasRead text top next s octets)
    → Next read.rest part t → part ≡ decimal n → n < 2 ^ 64 → more ≡ octets ++ number_octets n
    → HasRead text top next t more
HasRead-more text part top next n s t octets more read one is fits appended =
    let same : flat_map number_octets (read.arcs ++ n ∷ []) ≡ flat_map number_octets read.arcs ++ number_octets n =
    flat_map-append number_octets read.arcs (n ∷ []) ∙ ap (λ o. flat_map number_octets read.arcs ++ o) (append-nil (number_octets n)) in
    record {
      arcs = read.arcs ++ n ∷ [];
      rest = one.others;
      cut = read.cut ∙ rw (one.cut, is, map-append decimal read.arcs (n ∷ [])) (ap (λ ts. decimal top ∷ decimal next ∷ ts) (sym (append_assoc (map decimal read.arcs) (decimal n ∷ []) one.others)));
      left = one.left;
      fit = All-push (λ n. n < 2 ^ 64) read.arcs n read.fit fits;
      octets_are = rw same (appended ∙ ap (λ o. o ++ number_octets n) read.octets_are ∙ append_assoc (number_octets (40 * top + next)) (flat_map number_octets read.arcs) (number_octets n));
    }

pub refused_further : (text part : List ℕ) (top next : ℕ) (s t : Split ℕ) (octets : List ℕ) (e : ParseOidError) → Begins top next
    → (read : HasRead text top next s octets) → Next read.rest part t
    → arc_refusal (2 ^ 64 - 1) ArcTooLarge part ≡ Some e → refusal text ≡ Some e
refused_further text part top next s t octets e begins read one refused =
    ap parts_refusal (read.cut ∙ ap (λ ts. map decimal (top ∷ next ∷ read.arcs) ++ ts) one.cut) ∙ parts_refusal-begins top next (map decimal read.arcs ++ part ∷ one.others) begins
    ∙ further_refusal-some read.arcs part one.others e read.fit refused

-- where memory was wanting
pub begun : (text : List ℕ) (top next : ℕ) (s : Split ℕ) (octets : List ℕ) → Begins top next → HasRead text top next s octets
    → begin_refusal (parts text) ≡ None
begun text top next s octets begins read = ap begin_refusal read.cut ∙ begin_refusal-none top next (map decimal read.arcs ++ read.rest) begins

pub begun_two : (text first second : List ℕ) (top next : ℕ) (s : Split ℕ) → Two text first second s → first ≡ decimal top → second ≡ decimal next
    → Begins top next → begin_refusal (parts text) ≡ None
begun_two text first second top next s two is is' begins = rw (two.cut, is, is') (begin_refusal-none top next two.others begins)

-- ---- the end

join-dotted : (n : ℕ) (arcs : List ℕ) → join_with_byte 46 (map decimal (n ∷ arcs)) ≡ dotted (n ∷ arcs)
join-dotted n [] = sym (append-nil (decimal n))
join-dotted n (m ∷ arcs) = rw (join-dotted m arcs) refl

-- a text whose parts are numbers
pub dotted_parts : (text : List ℕ) (n : ℕ) (arcs : List ℕ) → parts text ≡ map decimal (n ∷ arcs) → text ≡ dotted (n ∷ arcs)
dotted_parts text n arcs whole = sym (join_with_byte-slice_split 46 text) ∙ ap (join_with_byte 46) whole ∙ join-dotted n arcs

pub read_all : (text : List ℕ) (top next : ℕ) (s : Split ℕ) (octets : List ℕ) → Begins top next → (read : HasRead text top next s octets)
    → read.rest ≡ [] → IsDottedText text octets
read_all text top next s octets begins read none = record {
  arcs = top ∷ next ∷ read.arcs;
  are_arcs = (begins.0, begins.1, read.fit);
  text_is =
      let whole : parts text ≡ map decimal (top ∷ next ∷ read.arcs) = read.cut ∙ rw none (append-nil (map decimal (top ∷ next ∷ read.arcs))) in
      dotted_parts text top (next ∷ read.arcs) whole;
  octets_are = read.octets_are;
}
