-- The first octet of an element whose number is below 31 says its class, its form and its number.
use Rattle.std.proofs.Common.{◌≡◌, ◌∙◌, ℕ, ◌<◌, ◌≤◌, ◌+◌, ◌/◌, ◌%◌, Bool, true, false, not, ◌&&◌, ◌⊎◌, cond, eqb, ltb, List, [], ◌∷◌, length, Result, Ok, Err, ap, sym, subst, refl, inl, inr, arith, slice_index}
use Rattle.std.proofs.lemmas.Bool.Decides.{eqb_tells, nat_tests}
use Rattle.x509_der.specs.declared.header.Header.{Header}
use Rattle.x509_der.specs.declared.header.Class.TheVariants.{Universal, Application, ContextSpecific, Private}
use Rattle.x509_der.specs.declared.look.Form.{Form}
use Rattle.x509_der.specs.Primitives.{is_universal, is_primitive, is_constructed}
use Rattle.x509_der.specs.Laws.{IsBytes}
use Rattle.x509_der.specs.Reading.{◌>>=◌, Element, class_in, constructed_in, element_at, header_at, tag_at, length_at, high_number_at}

then_ok : {A B E : Type 0} (r : Result A E) (f : A → Result B E) (x : B) → (r >>= f) ≡ Ok x → (a : A) × (r ≡ Ok a) × (f a ≡ Ok x)
then_ok (Ok a) f x e = (a, refl, e)
then_ok (Err w) f x e = absurd cc

branch : {A : Type 0} (b : Bool) (x y z : A) → cond b x y ≡ z → ((b ≡ true) × (x ≡ z)) ⊎ ((b ≡ false) × (y ≡ z))
branch true x y z e = inl (refl, e)
branch false x y z e = inr (refl, e)

same_ok : {A E : Type 0} (x y : A) (r s : Result A E) → r ≡ Ok x → s ≡ Ok y → r ≡ s → x ≡ y
same_ok x y r s p q e = cc

same_parts : {A B E : Type 0} (a c : A) (b d : B) (r : Result (A × B) E) → r ≡ Ok (a, b) → r ≡ Ok (c, d) → (a ≡ c) × (b ≡ d)
same_parts {A} {B} a c b d r p q =
    let e = same_ok (a, b) (c, d) r r p q refl in
    (ap (λ (x : A × B). x.0) e, ap (λ (x : A × B). x.1) e)

-- what an octet says of a header
record Tells (octet : ℕ) (h : Header) : Type 0 where
  class : h.class ≡ class_in octet
  form : h.constructed ≡ constructed_in octet
  low : (octet % 32 ≡ 31 → ⊥) → h.tag.0 ≡ octet % 32
  high : octet % 32 ≡ 31 → 31 ≤ h.tag.0

tag_low : (low : ℕ) (i rest : List ℕ) (n : ℕ) → tag_at low i ≡ Ok (rest, n) → (low ≡ 31 → ⊥) → n ≡ low
unfolding tag_at
tag_low low i rest n e other =
    elim (branch (eqb low 31) _ _ _ e) [
      | inl p ↦ elim (eqb_tells low 31) [ inl q ↦ absurd (other q.1) | inr q ↦ absurd (let s = q.0 in let t = p.0 in cc) ]
      | inr p ↦ let s = same_parts i rest low n (Ok (i, low)) refl p.1 in sym s.1
    ]

tag_high : (low : ℕ) (i rest : List ℕ) (n : ℕ) → tag_at low i ≡ Ok (rest, n) → low ≡ 31 → 31 ≤ n
unfolding tag_at
tag_high low i rest n e is =
    elim (branch (eqb low 31) _ _ _ e) [
      | inl p ↦
          let opened = then_ok (high_number_at i) _ (rest, n) p.1 in
          elim (branch (ltb opened.0.1 31) _ _ _ opened.2) [
            | inl q ↦ absurd (let s = q.1 in cc)
            | inr q ↦ let m = (same_parts opened.0.0 rest opened.0.1 n _ refl q.1).1 in let t = q.0 in grind (arith, nat_tests)
          ]
      | inr p ↦ elim (eqb_tells low 31) [ inl q ↦ absurd (let s = q.0 in let t = p.0 in cc) | inr q ↦ absurd (q.1 is) ]
    ]

header_tells : (form : Form) (octet : ℕ) (i beyond : List ℕ) (h : Header) → header_at form (octet ∷ i) ≡ Ok (beyond, h) → Tells octet h
unfolding header_at
header_tells form octet i beyond h e =
    let tag = then_ok (tag_at (octet % 32) i) _ (beyond, h) e in
    let len = then_ok (length_at form tag.0.0) _ (beyond, h) tag.2 in
    let mapped = (same_parts _ beyond _ h _ refl len.2).1 in
    record {
      class = sym (ap (λ (x : Header). x.class) mapped);
      form = sym (ap (λ (x : Header). x.constructed) mapped);
      low = λ other. let low = tag_low (octet % 32) i tag.0.0 tag.0.1 tag.1 other in sym (ap (λ (x : Header). x.tag.0) mapped) ∙ low;
      high = λ is. let high = tag_high (octet % 32) i tag.0.0 tag.0.1 tag.1 is in let same : tag.0.1 ≡ h.tag.0 = ap (λ (x : Header). x.tag.0) mapped in omega (arith, same, high);
    }

element_tells : (form : Form) (octet : ℕ) (i rest : List ℕ) (e : Element) → element_at form (octet ∷ i) ≡ Ok (rest, e) → Tells octet e.header
unfolding element_at
element_tells form octet i rest e is =
    let head = then_ok (header_at form (octet ∷ i)) _ (rest, e) is in
    elim (branch (ltb (length head.0.0) head.0.1.length) _ _ _ head.2) [
      | inl p ↦ absurd (let s = p.1 in cc)
      | inr p ↦ subst (Tells octet) (ap (λ (x : Element). x.header) (same_parts _ rest _ e _ refl p.1).1) (header_tells form octet i head.0.0 head.0.1 head.1)
    ]

no_element : (form : Form) (rest : List ℕ) (e : Element) → element_at form [] ≡ Ok (rest, e) → ⊥
unfolding element_at header_at
no_element form rest e is = cc

universal_below : (octet : ℕ) → is_universal (class_in octet) ≡ ltb octet 64
universal_below octet = go (ltb octet 64) (ltb octet 128) (ltb octet 192)
  where
    go : (a b c : Bool) → is_universal (cond a Universal (cond b Application (cond c ContextSpecific Private))) ≡ a
    go true b c = refl
    go false true c = refl
    go false false true = refl
    go false false false = refl

primitive_number : (octet n tag : ℕ) → octet < 256 → n < 31 → ((octet % 32 ≡ 31 → ⊥) → tag ≡ octet % 32) → (octet % 32 ≡ 31 → 31 ≤ tag) → (ltb octet 64 && (not (eqb (octet / 32 % 2) 1) && eqb tag n)) ≡ eqb octet n
primitive_number octet n tag byte small low high =
    elim (eqb_tells (octet % 32) 31) [
      | inl is ↦ let h = high is.1 in let i = is.1 in grind (arith, nat_tests)
      | inr other ↦ let l = low other.1 in grind (arith, nat_tests)
    ]

constructed_number : (octet n tag : ℕ) → octet < 256 → n < 31 → ((octet % 32 ≡ 31 → ⊥) → tag ≡ octet % 32) → (octet % 32 ≡ 31 → 31 ≤ tag) → (ltb octet 64 && (eqb (octet / 32 % 2) 1 && eqb tag n)) ≡ eqb octet (32 + n)
constructed_number octet n tag byte small low high =
    elim (eqb_tells (octet % 32) 31) [
      | inl is ↦ let h = high is.1 in let i = is.1 in grind (arith, nat_tests)
      | inr other ↦ let l = low other.1 in grind (arith, nat_tests)
    ]

pub primitive_octet : (form : Form) (bytes rest : List ℕ) (e : Element) (octet n : ℕ) → IsBytes bytes → n < 31 → element_at form bytes ≡ Ok (rest, e) → slice_index bytes 0 ≡ octet → is_primitive n e.header ≡ eqb octet n
primitive_octet form [] rest e octet n fits small is first = absurd (no_element form rest e is)
primitive_octet form (b ∷ i) rest e octet n fits small is first =
    let t = element_tells form b i rest e is in
    rw (t.class, t.form, universal_below b, sym first) (primitive_number b n e.header.tag.0 (fits 0) small t.low t.high)

pub constructed_octet : (form : Form) (bytes rest : List ℕ) (e : Element) (octet n : ℕ) → IsBytes bytes → n < 31 → element_at form bytes ≡ Ok (rest, e) → slice_index bytes 0 ≡ octet → is_constructed n e.header ≡ eqb octet (32 + n)
constructed_octet form [] rest e octet n fits small is first = absurd (no_element form rest e is)
constructed_octet form (b ∷ i) rest e octet n fits small is first =
    let t = element_tells form b i rest e is in
    rw (t.class, t.form, universal_below b, sym first) (constructed_number b n e.header.tag.0 (fits 0) small t.low t.high)
