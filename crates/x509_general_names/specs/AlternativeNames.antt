-- Other names of a subject and of an issuer (RFC 5280, 4.2.1.6 and 4.2.1.7).
use Rattle.std.specs.Prelude.{◌≡◌, ℕ, ◌+◌, true, List, map, sum_by, Err}
use Rattle.x509_der.specs.declared.error.Err.{Err as Refusal}
use Rattle.x509_der.specs.declared.error.Err.TheVariants as refusals
use Rattle.x509_der.specs.Plan.{Outcome, Plan, got, ◌>>=◌, run, to_end}
use Rattle.x509_der.specs.Promises.{ended_early}
use Rattle.x509_fields.specs.Fields.{Field, sequence}
use Rattle.x509_general_names.specs.declared.alternative_names.SubjectAlternativeName.{SubjectAlternativeName}
use Rattle.x509_general_names.specs.declared.alternative_names.IssuerAlternativeName.{IssuerAlternativeName}
use Rattle.x509_fields.specs.Lists.{list_error}
use Rattle.x509_general_names.specs.GeneralName.{GeneralNameValue, general_name_of, general_name_heads, context_element, general_name}

-- ---- the values

abbrev pub subject_names_of : SubjectAlternativeName → List GeneralNameValue
subject_names_of names = map general_name_of names.general_names

abbrev pub issuer_names_of : IssuerAlternativeName → List GeneralNameValue
issuer_names_of names = map general_name_of names.general_names

-- ---- the grammar

abbrev pub got_or_failed : {E A B : Type 0} → B → List ℕ → Outcome (Refusal E) A → Outcome (Refusal E) B
got_or_failed b place (Err (refusals.Error e)) = Err (refusals.Failure e)
got_or_failed b place _ = got b place

-- No field: where a plan refuses an element that isn't cut short, no other reading helps.
abbrev pub unless_refused : {E A B : Type 0} → Plan (Refusal E) A → B → Plan (Refusal E) B
unless_refused {E} p value = record {
  Is = λ place b next. (value ≡ b) × (place ≡ next) × ((e : E) (left : ℕ) → p.Refuses place (refusals.Error e) left → ⊥);
  Plain = λ place b next. (value ≡ b) × (place ≡ next) × ((e : E) (left : ℕ) → p.Refuses place (refusals.Error e) left → ⊥);
  Refuses = λ place r left. (e : E) × p.Refuses place (refusals.Error e) left × (refusals.Failure e ≡ r);
  read = λ place. got_or_failed value place (p.read place);
  marks = λ place. true;
  stop = λ more. p.stop more;
}

-- behind these names stands no misspelled element and none of another class
unfoldable pub end_of_names : List GeneralNameValue → Field (List GeneralNameValue)
end_of_names names = to_end (ended_early list_error) (unless_refused context_element names)

-- GeneralNames ::= SEQUENCE SIZE (1..MAX) OF GeneralName; it may be empty
unfoldable pub general_names : Field (List GeneralNameValue)
general_names = sequence do
  names ← run general_name
  end_of_names names

-- ---- heads

abbrev pub general_names_heads : List GeneralNameValue → ℕ
general_names_heads names = 1 + sum_by general_name_heads names
