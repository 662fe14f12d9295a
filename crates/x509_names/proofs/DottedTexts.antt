-- The text of arcs names them, and no other text does.
use Rattle.std.proofs.Common.{◌≡◌, ◌⊎◌, ℕ, ◌^◌, ◌<◌, List, [], ◌∷◌, map, Option, Some, None, ◌-◌, Result, Ok, Err, IfOk, IfErr, IsErrAnd, eqb, refl, sym, ap, subst, ◌∙◌, arith, inl, inr, decimal}
use Rattle.std.proofs.lemmas.Fmt.{decimal_injective}
use Rattle.std.proofs.lemmas.List.{append-nil}
use Rattle.std.proofs.lemmas.Bool.{cases_lt, lt-ltb}
use Rattle.std.proofs.lemmas.List.Elements.{All-cons, All-head, All-tail, All-nil}
use Rattle.std.proofs.lemmas.List.Splits.{slice_split_none, slice_split_at}
use Rattle.std.specs.List.{All}
use Rattle.std.specs.Option.{option_or}
use Rattle.std.specs.Str.Parse.{digits_value}
use Rattle.x509_der.proofs.OidNumbers.{at_least-ltb}
use Rattle.x509_der.specs.Oid.{dotted, is_dotted, oid_text}
use Rattle.x509_names.specs.Arcs.{AreArcs, IsDottedText, encoded, most_second}
use Rattle.x509_names.specs.DottedRefusals.{parts, further_refusal, refusal, IsReason}
use Rattle.x509_names.specs.DottedParsing.{Gives, IsShownAs, ParsesExactly}
use Rattle.x509_names.specs.declared.parse_error.ParseOidError.{ParseOidError}
use Rattle.x509_names.specs.declared.parse_error.ParseOidError.TheVariants.{FirstArcTooLarge, ArcTooLarge, OutOfMemory}
use Rattle.x509_names.proofs.Numerals.{no_dot, unrefused_arc}
use Rattle.x509_names.proofs.Decoded.{IsDottedText-dotted}
use Rattle.x509_names.proofs.DottedOctets.{Begins, IsBytes-encoded, is_dotted-encoded, oid_text-encoded}
use Rattle.x509_names.proofs.DottedParts.{next_fits, further_refusal-none, parts_refusal, parts_refusal-begins, dotted_parts}

abbrev Fit : List ℕ → Type 0
Fit arcs = All (λ n. n < 2 ^ 64) arcs

parts-dotted : (n : ℕ) (arcs : List ℕ) → Fit (n ∷ arcs) → parts (dotted (n ∷ arcs)) ≡ map decimal (n ∷ arcs)
parts-dotted n [] fit = rw (append-nil (decimal n)) (slice_split_none (λ c. eqb c 46) (decimal n) (no_dot n (All-head (λ n. n < 2 ^ 64) n [] fit)))
parts-dotted n (m ∷ arcs) fit =
    slice_split_at (λ c. eqb c 46) (decimal n) 46 (dotted (m ∷ arcs)) (no_dot n (All-head (λ n. n < 2 ^ 64) n (m ∷ arcs) fit)) refl
    ∙ ap (λ ts. decimal n ∷ ts) (parts-dotted m arcs (All-tail (λ n. n < 2 ^ 64) n (m ∷ arcs) fit))

decimals_injective : (xs ys : List ℕ) → Fit xs → Fit ys → map decimal xs ≡ map decimal ys → xs ≡ ys
decimals_injective [] [] a b e = refl
decimals_injective [] (y ∷ ys) a b e = absurd (cc)
decimals_injective (x ∷ xs) [] a b e = absurd (cc)
decimals_injective (x ∷ xs) (y ∷ ys) a b e =
    let h : decimal x ≡ decimal y = cc in
    let t : map decimal xs ≡ map decimal ys = cc in
    let same : x ≡ y = decimal_injective x y (All-head (λ n. n < 2 ^ 64) x xs a) (All-head (λ n. n < 2 ^ 64) y ys b) h in
    let others : xs ≡ ys = decimals_injective xs ys (All-tail (λ n. n < 2 ^ 64) x xs a) (All-tail (λ n. n < 2 ^ 64) y ys b) t in
    cc

-- arcs are some, and each fits
record Some_arcs (arcs : List ℕ) : Type 0 where
  first : ℕ
  others : List ℕ
  are : arcs ≡ first ∷ others
  fit : Fit (first ∷ others)

some_arcs : (arcs : List ℕ) → AreArcs arcs → Some_arcs arcs
some_arcs [] are = absurd are
some_arcs (x ∷ []) are = absurd are
some_arcs (x ∷ y ∷ arcs) are =
    let begins : Begins x y = (are.0, are.1) in
    let low = are.0 in
    record { first = x; others = y ∷ arcs; are = refl; fit = All-cons (λ n. n < 2 ^ 64) x (y ∷ arcs) (omega arith) (All-cons (λ n. n < 2 ^ 64) y arcs (next_fits x y begins) are.2) }

parts_of : (arcs : List ℕ) → Some_arcs arcs → parts (dotted arcs) ≡ map decimal arcs
parts_of arcs some = rw some.are (parts-dotted some.first some.others some.fit)

fit_of : (arcs : List ℕ) → Some_arcs arcs → Fit arcs
fit_of arcs some = subst Fit (sym some.are) some.fit

-- two identifiers of one text are one
pub same_octets : (text xs ys : List ℕ) → IsDottedText text xs → IsDottedText text ys → xs ≡ ys
same_octets text xs ys a b =
    let some_a = some_arcs a.arcs a.are_arcs in
    let some_b = some_arcs b.arcs b.are_arcs in
    let texts : map decimal a.arcs ≡ map decimal b.arcs = sym (parts_of a.arcs some_a) ∙ ap parts (sym a.text_is ∙ b.text_is) ∙ parts_of b.arcs some_b in
    let arcs = decimals_injective a.arcs b.arcs (fit_of a.arcs some_a) (fit_of b.arcs some_b) texts in
    a.octets_are ∙ ap encoded arcs ∙ sym b.octets_are

-- what names an identifier is not refused
arcs_not_refused : (arcs : List ℕ) → AreArcs arcs → refusal (dotted arcs) ≡ None
arcs_not_refused [] are = absurd are
arcs_not_refused (x ∷ []) are = absurd are
arcs_not_refused (x ∷ y ∷ arcs) are =
    rw (parts_of (x ∷ y ∷ arcs) (some_arcs (x ∷ y ∷ arcs) are)) (parts_refusal-begins x y (map decimal arcs) (are.0, are.1) ∙ further_refusal-none arcs are.2)

pub not_refused : (text octets : List ℕ) → IsDottedText text octets → refusal text ≡ None
not_refused text octets is = rw is.text_is (arcs_not_refused is.arcs is.are_arcs)

-- ---- what is not refused names an identifier

neither : (a b : Option ParseOidError) → option_or a b ≡ None → (a ≡ None) × (b ≡ None)
neither None b e = (refl, e)
neither (Some x) b e = absurd (cc)

record Further (texts : List (List ℕ)) : Type 0 where
  arcs : List ℕ
  texts_are : texts ≡ map decimal arcs
  fit : Fit arcs

further_arcs : (texts : List (List ℕ)) → further_refusal texts ≡ None → Further texts
further_arcs [] none = record { arcs = []; texts_are = refl; fit = All-nil (λ n. n < 2 ^ 64) }
further_arcs (text ∷ texts) none =
    let both = neither _ _ none in
    let arc = unrefused_arc (2 ^ 64 - 1) ArcTooLarge text (omega arith) both.0 in
    let others = further_arcs texts both.1 in
    let n = digits_value 10 text in
    record {
      arcs = n ∷ others.arcs;
      texts_are = ap (λ t. t ∷ texts) arc.0 ∙ ap (λ ts. decimal n ∷ ts) others.texts_are;
      fit = All-cons (λ n. n < 2 ^ 64) n others.arcs (let small = arc.1 in omega arith) others.fit;
    }

most_second_fits : (top : ℕ) → most_second top < 2 ^ 64
most_second_fits top = elim (cases_lt top 2) [ inl low ↦ rw (lt-ltb top 2 low) (omega arith) | inr high ↦ rw (at_least-ltb top 2 high) (omega arith) ]

named_by_parts : (text : List ℕ) (texts : List (List ℕ)) → parts text ≡ texts → parts_refusal texts ≡ None → (octets : List ℕ) × IsDottedText text octets
named_by_parts text [] cut none = absurd (cc)
named_by_parts text (first ∷ []) cut none = absurd (cc)
named_by_parts text (first ∷ second ∷ others) cut none =
    let split = neither _ _ none in
    let front = neither _ _ split.0 in
    let top = digits_value 10 first in
    let next = digits_value 10 second in
    let one = unrefused_arc 2 FirstArcTooLarge first (omega arith) front.0 in
    let two = unrefused_arc (most_second top) _ second (most_second_fits top) front.1 in
    let further = further_arcs others split.1 in
    let whole : parts text ≡ map decimal (top ∷ next ∷ further.arcs) =
    cut ∙ ap (λ t. t ∷ second ∷ others) one.0 ∙ ap (λ t. decimal top ∷ t ∷ others) two.0 ∙ ap (λ ts. decimal top ∷ decimal next ∷ ts) further.texts_are in (
      encoded (top ∷ next ∷ further.arcs),
      record {
        arcs = top ∷ next ∷ further.arcs;
        are_arcs = (one.1, two.1, further.fit);
        text_is = dotted_parts text top (next ∷ further.arcs) whole;
        octets_are = refl;
      },
    )

pub unrefused : (text : List ℕ) → refusal text ≡ None → (octets : List ℕ) × IsDottedText text octets
unrefused text none = named_by_parts text (parts text) refl none

-- ---- an answer

reads : (text : List ℕ) (result : Result (List ℕ) ParseOidError) → IfOk result (λ octets. IsDottedText text octets)
    → IfErr result (λ e. IsReason text e) → (octets : List ℕ) → IsDottedText text octets → Gives result octets
reads text (Ok given) ok err octets is = same_octets text given octets ok is
reads text (Err e) ok (inl refused) octets is = absurd (let none = not_refused text octets is in let no : ⊥ = cc in no)
reads text (Err e) ok (inr wanting) octets is = wanting.0

refuses_as : (text : List ℕ) (result : Result (List ℕ) ParseOidError) → IfOk result (λ octets. IsDottedText text octets)
    → IfErr result (λ e. IsReason text e) → (e : ParseOidError) → refusal text ≡ Some e
    → IsErrAnd result (λ given. (given ≡ e) ⊎ (given ≡ OutOfMemory))
refuses_as text (Ok given) ok err e refused = absurd (let none = not_refused text given ok in let no : ⊥ = cc in no)
refuses_as text (Err given) ok (inl same) e refused = inl (let g : given ≡ e = cc in g)
refuses_as text (Err given) ok (inr wanting) e refused = inr wanting.0

-- a text and what an `Oid` is shown as
pub IsShownAs-text : (text octets : List ℕ) → IsDottedText text octets → IsShownAs octets text
IsShownAs-text text octets is = record {
  bytes = λ i. rw is.octets_are (IsBytes-encoded is.arcs i);
  form = ap is_dotted is.octets_are ∙ is_dotted-encoded is.arcs is.are_arcs;
  text_is = ap oid_text is.octets_are ∙ oid_text-encoded is.arcs is.are_arcs ∙ sym is.text_is;
}

pub IsDottedText-shown : (text octets : List ℕ) → IsShownAs octets text → IsDottedText text octets
IsDottedText-shown text octets is = subst (λ t. IsDottedText t octets) is.text_is (IsDottedText-dotted octets is.bytes is.form)

shown_as : (text : List ℕ) (result : Result (List ℕ) ParseOidError) → IfOk result (λ octets. IsDottedText text octets)
    → IfOk result (λ octets. IsShownAs octets text)
shown_as text (Ok given) ok = IsShownAs-text text given ok
shown_as text (Err e) ok = tt

-- an answer that is right is the one that there is
pub parses_exactly : (text : List ℕ) (result : Result (List ℕ) ParseOidError) → IfOk result (λ octets. IsDottedText text octets)
    → IfErr result (λ e. IsReason text e) → ParsesExactly text result
parses_exactly text result ok err = record {
  accepted = ok;
  accepts = reads text result ok err;
  refused = err;
  refuses = refuses_as text result ok err;
  shown = shown_as text result ok;
  shows = λ octets is. reads text result ok err octets (IsDottedText-shown text octets is);
}
