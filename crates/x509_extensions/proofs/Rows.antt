-- A row of the table: what a type's own reader takes is what the parsed value is, and the other way round.
use Rattle.std.proofs.Common.{◌≡◌, ℕ, List, Ok, Err, refl, sym, ap, subst, ◌∙◌, inl, inr}
use Rattle.x509_der.specs.declared.error.BerError.{BerError}
use Rattle.x509_der.specs.declared.error.Err.{Err as Refusal}
use Rattle.x509_der.specs.Laws.{Agrees, IsLawful}
use Rattle.x509_der.specs.Plan.{Outcome, got}
use Rattle.x509_der.specs.Promises.{IsFront, refusal_by}
use Rattle.x509_der.proofs.Results.{cases_outcome}
use Rattle.x509_der.proofs.Sentences.{front_read, front_only}
use Rattle.x509_fields.specs.declared.error.X509Error.{X509Error}
use Rattle.x509_fields.specs.Fields.{Field}
use Rattle.x509_extensions.specs.Parsed.{Parsed, Failed, made, only_value, said, ber_in, parsed_value, IsRow, IsWholeRow}

-- what is said of a reading
abbrev said_of : {A : Type 0} → (A → Parsed) → Outcome (Refusal X509Error) A → Parsed
said_of make (Ok x) = make x.1
said_of make (Err r) = Failed (refusal_by ber_in r)

said_made : {A : Type 0} (make : A → Parsed) (p : Field A) (value : List ℕ) → said (only_value ((made make p).read value)) ≡ said_of make (p.read value)
said_made {A} make p value = go (p.read value)
  where
    go : (r : Outcome (Refusal X509Error) A) → said (only_value (Rattle.x509_der.specs.Plan.and_then r (λ a next. got {F = Refusal X509Error} (make a) next))) ≡ said_of make r
    go (Ok x) = refl
    go (Err r) = refl

pub is_row : {A : Type 0} (id : List ℕ) (p : Field A) (make : A → Parsed) → IsLawful p → ((value : List ℕ) → parsed_value id value ≡ said (only_value ((made make p).read value))) → ((x y : A) → make x ≡ make y → x ≡ y) → ((x : A) (r : Refusal BerError) → Failed r ≡ make x → ⊥) → IsRow id p make
is_row {A} id p make laws row once never =
    let says : (value : List ℕ) → parsed_value id value ≡ said_of make (p.read value) = λ value. row value ∙ said_made make p value in
    record {
      accepted = λ value a rest k is. says value ∙ ap (said_of make) (front_only p laws.agrees laws.is_local value a rest k is);
      only = λ value a k e. elim (cases_outcome (p.read value)) [
        | inl t ↦
            let same = once t.0 a (sym (ap (said_of make) t.2) ∙ sym (says value) ∙ e) in
            (t.1, subst (λ b. IsFront p value b t.1) same (front_read p laws.agrees laws.is_local value t.0 t.1 k t.2))
        | inr t ↦ absurd (never a (refusal_by ber_in t.0) (sym (ap (said_of make) t.1) ∙ sym (says value) ∙ e))
      ];
      failed = λ value r left k h. says value ∙ ap (said_of make) (laws.agrees.refusal value r left k h);
    }

pub is_whole_row : {A : Type 0} (id : List ℕ) (p : Field A) (make : A → Parsed) → Agrees p → ((value : List ℕ) → parsed_value id value ≡ said (only_value ((made make p).read value))) → ((x y : A) → make x ≡ make y → x ≡ y) → ((x : A) (r : Refusal BerError) → Failed r ≡ make x → ⊥) → IsWholeRow id p make
is_whole_row {A} id p make agrees row once never =
    let says : (value : List ℕ) → parsed_value id value ≡ said_of make (p.read value) = λ value. row value ∙ said_made make p value in
    record {
      accepted = λ value a rest k is. says value ∙ ap (said_of make) (agrees.complete value a rest k is);
      only = λ value a k e. elim (cases_outcome (p.read value)) [
        | inl t ↦
            let same = once t.0 a (sym (ap (said_of make) t.2) ∙ sym (says value) ∙ e) in
            (t.1, subst (λ b. p.Is value b t.1) same (agrees.sound value t.0 t.1 k t.2))
        | inr t ↦ absurd (never a (refusal_by ber_in t.0) (sym (ap (said_of make) t.1) ∙ sym (says value) ∙ e))
      ];
      failed = λ value r left k h. says value ∙ ap (said_of make) (agrees.refusal value r left k h);
    }
