-- The report of what stands at the front of an input by a grammar.
use Rattle.std.specs.Prelude.{◌≡◌, ℕ, List, true, false, ◌⊎◌, Result, Ok, Err}
use Rattle.x509_der.specs.declared.error.Err.{Err as Refusal}
use Rattle.x509_der.specs.Promises.{IsFront, is_excused}
use Rattle.x509_fields.specs.declared.error.X509Error.{X509Error}
use Rattle.x509_fields.specs.Errors.{x509_word, is_x509_memory}
use Rattle.x509_fields.specs.Fields.{Field}
use Rattle.x509_show.specs.Report.{Report, refused_report}

-- the lines of a value, and of the bytes behind it
abbrev pub front_report : {A : Type 0} → (A → List ℕ → List ℕ) → A → List ℕ → Report
front_report text_of value rest = record { text = text_of value rest; status = 0 }

-- a front of the input stands for a value, and this is its report
pub record ReportsFront {A : Type 0} (plan : Field A) (text_of : A → List ℕ → List ℕ) (input : List ℕ) (report : Report) : Type 0 where
  pub value : A
  pub rest : List ℕ
  pub front : IsFront plan input value rest
  pub reported : report ≡ front_report text_of value rest

-- nothing stands at the front of the input, and this is the report of the reason
pub record ReportsRefusal {A : Type 0} (plan : Field A) (input : List ℕ) (report : Report) : Type 0 where
  pub reason : Refusal X509Error
  pub refused : (left : ℕ) × plan.Refuses input reason left
  pub reported : report ≡ refused_report x509_word reason

-- the report of what the input is by the grammar
abbrev pub IsFrontReport : {A : Type 0} → Field A → (A → List ℕ → List ℕ) → List ℕ → Report → Type 0
IsFrontReport plan text_of input report = ReportsFront plan text_of input report ⊎ ReportsRefusal plan input report

-- the report of what a reader answered, seen by view, where it was not want of memory
abbrev pub ReportsAnswer : {X A : Type 0} → (X → List ℕ × A) → (A → List ℕ → List ℕ) → Result X (Refusal X509Error) → Report → Type 0
ReportsAnswer view text_of (Ok x) report = report ≡ front_report text_of (view x).1 (view x).0
ReportsAnswer view text_of (Err e) report = (is_excused is_x509_memory true e ≡ false) × (report ≡ refused_report x509_word e)
