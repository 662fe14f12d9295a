-- Extensions that close a structure begin with no header of another number, whatever the class of their wrapper.
use Rattle.std.proofs.Common.{◌≡◌, ◌==◌, ℕ, List, [], ◌∷◌, Bool, true, false, Result, Ok, Err, if◌then◌else◌, refl, ap, ◌∙◌, inl, inr}
use Rattle.x509_der.specs.declared.header.Header.{Header}
use Rattle.x509_der.specs.declared.error.Err.TheVariants.{Error}
use Rattle.x509_der.specs.Elements.{Head}
use Rattle.x509_der.specs.Laws.{IsBytes, Parted}
use Rattle.x509_der.specs.Plan.{◌>>=◌, got, universal, NoHead}
use Rattle.x509_der.specs.Primitives.{is_universal, has_number}
use Rattle.x509_der.specs.Reading.{strict, loose}
use Rattle.x509_der.proofs.Marked.{same_head, same_number, both_1, no_head_in_nothing}
use Rattle.x509_der.proofs.Results.{then_ok}
use Rattle.x509_fields.specs.declared.error.X509Error.TheVariants.{InvalidExtensions}
use Rattle.x509_fields.specs.Fields.{Field}
use Rattle.x509_extensions.specs.Extension.{Extension}
use Rattle.x509_extensions.specs.ExtensionList.{wrapper_header, wrapper_header_laws, wrapped, wrapped_extensions}

-- a strict header is a loose one
loose_head : (place : List ℕ) (h : Header) (rest : List ℕ) → Head strict place h rest → Head loose place h rest
loose_head place h rest is = record {
  identifier = is.identifier;
  len = is.len;
  is_identifier = is.is_identifier;
  is_length = elim is.is_length [ inl r ↦ inl r | inr r ↦ inr (record { digits = r.digits; some = r.some; few = r.few; value = r.value; fits = r.fits; taken = refl; spelled = r.spelled }) ];
  spelled = is.spelled;
}

-- what passed a test
passed : {F : Type 0} (b : Bool) (d h : Header) (why : F) → ◌≡◌ {A = Result Header F} (if b then Ok d else Err why) (Ok h) → b ≡ true
passed true d h why e = refl
passed false d h why e = absurd cc

-- the header of the wrapper has its number
wrapper_number : (n : ℕ) (place : List ℕ) (h : Header) (inner : List ℕ) → (wrapper_header n).Is place h inner → (d : Header) × Head strict place d inner × (has_number n d ≡ true)
unfolding wrapper_header
wrapper_number n place h inner is = (is.0, is.1, passed (has_number n is.0) is.0 h (Error InvalidExtensions) is.2)

apart_from : (n m : ℕ) → (m == n) ≡ false → (place : List ℕ) (h : Header) (inner : List ℕ) → IsBytes place → (wrapper_header n).read place ≡ got h inner → NoHead (universal m) place
apart_from n m distinct place h inner k e d rest head own =
    let is = wrapper_number n place h inner ((wrapper_header_laws n).field.agrees.sound place h inner k e) in
    let same : d ≡ is.0 = same_head place d is.0 rest inner head (loose_head place is.0 inner is.1) in
    let its : (d.tag.0 == n) ≡ true = ap (λ (x : Header). x.tag.0 == n) same ∙ is.2 in
    let two : (m == n) ≡ true = same_number d.tag.0 m n (both_1 (is_universal d.class) (d.tag.0 == m) own) its in
    absurd cc

pub wrapped_extensions_parted : {B : Type 0} (n m : ℕ) (deep : Bool) (f : List Extension → Field B) → (m == n) ≡ false → Parted (universal m) (wrapped_extensions n deep >>= f)
unfolding wrapped_extensions wrapped
wrapped_extensions_parted {B} n m deep f distinct = record {
  parted = λ place b next k e.
      let t = then_ok ((wrapped_extensions n deep).read place) (λ a. (f a).read) b next e in
      inr (away place t.0 t.1 k t.2);
}
  where
    away : (place : List ℕ) (xs : List Extension) (between : List ℕ) → IsBytes place → (wrapped_extensions n deep).read place ≡ got xs between → NoHead (universal m) place
    away [] xs between k e = no_head_in_nothing (universal m)
    away (b ∷ bs) xs between k e =
        let t = then_ok ((wrapper_header n).read (b ∷ bs)) _ xs between e in
        apart_from n m distinct (b ∷ bs) t.0 t.1 k t.2
