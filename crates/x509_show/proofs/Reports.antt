-- The one report of a command and an input, and how a failed write within it ends a run.
use Rattle.std.proofs.Common.{◌≡◌, ◌↔◌, ℕ, ◌<◌, ◌+◌, List, ◌++◌, [], ◌∷◌, length, take, get_or, map, flat_map, Bool, true, false, cond, codes, Option, None, Some, MatchOption, MatchResult, Result, Ok, Err, inl, inr, ap, sym, subst, refl, ◌∙◌, arith}
use Rattle.std.proofs.lemmas.List.{flat_map_more, map-append, take_more}
use Rattle.x509_der.specs.declared.error.Err.{Err as Refusal}
use Rattle.x509_der.specs.Plan.{got, refusing}
use Rattle.x509_der.specs.Promises.{IsFront, ReadsExactly, is_excused, option_view}
use Rattle.x509_der.specs.Reading.{Reading, Element, strict}
use Rattle.x509_der.specs.Elements.{ElementIs}
use Rattle.x509_der.proofs.Results.{got_not_err, err, err_is}
use Rattle.x509_fields.specs.declared.error.X509Error.{X509Error}
use Rattle.x509_fields.specs.Errors.{is_x509_memory, x509_word}
use Rattle.x509_fields.specs.Fields.{Field}
use Rattle.x509_certs.specs.Certificate.{certificate, certificate_by}
use Rattle.x509_lists.specs.CertificateList.{certificate_list, plain_list}
use Rattle.x509_requests.specs.Request.{certification_request, plain_request}
use Rattle.x509_show.specs.Parts.{IsDrainedOf}
use Rattle.x509_show.specs.Report.{Report, IsOnly, refused_report}
use Rattle.x509_show.specs.ElementReport.{IsElementReport, accepted_report, reading_report}
use Rattle.x509_show.specs.CertificateReport.{certificate_text}
use Rattle.x509_show.specs.FrontReport.{IsFrontReport, ReportsAnswer, front_report}
use Rattle.x509_show.specs.Lines.{line}
use Rattle.x509_show.specs.ListReport.{list_text, or_none}
use Rattle.x509_show.specs.RequestReport.{request_text}
use Rattle.x509_show.specs.Commands.{IsReport, IsCommand, command_word, usage_report}
use Rattle.x509_show.specs.Runs.{IsStopped, WriteStops}
use Rattle.x509_show.specs.declared.commands.Command.{Command}
use Rattle.x509_show.specs.declared.commands.Command.TheVariants as commands
use Rattle.x509_show.specs.declared.stop.Stop.{Stop}
use Rattle.x509_show.specs.declared.stop.Stop.TheVariants as stop

-- what the input is to a reader, and nothing else is, gives its one report
pub IsElementReport-only : (input : List ℕ) (reading : Reading Element) → ((r : Reading Element) → ElementIs strict input r ↔ (r ≡ reading)) → IsOnly (IsElementReport input) (reading_report reading)
IsElementReport-only input reading exact = record {
  is = record { reading = reading; read = (exact reading).1 refl; reported = refl };
  only = λ y h. h.reported ∙ ap reading_report ((exact h.reading).0 h.read);
}

reading_report-status : (reading : Reading Element) → (reading_report reading).status < 2
unfolding accepted_report refused_report
reading_report-status (Ok x) = omega arith
reading_report-status (Err refusal) = omega arith

IsElementReport-status : (input : List ℕ) (r : Report) → IsElementReport input r → r.status < 2
IsElementReport-status input r h = subst (λ (p : Report). p.status < 2) (sym h.reported) (reading_report-status h.reading)

-- ---- fronts

same_front : {A : Type 0} (text_of : A → List ℕ → List ℕ) (a b : A) (m n : List ℕ) → (a ≡ b) × (m ≡ n) → front_report text_of a m ≡ front_report text_of b n
same_front text_of a b m n e = ap (λ x. front_report text_of x m) e.0 ∙ ap (front_report text_of b) e.1

-- what is read of the input, and refused by no reason, gives its one report
accepted_only : {A : Type 0} (plan : Field A) (text_of : A → List ℕ → List ℕ) (input : List ℕ) (value : A) (rest : List ℕ) (report : Report)
    → IsFront plan input value rest
    → ((a b : A) (m n : List ℕ) → IsFront plan input a m → IsFront plan input b n → (a ≡ b) × (m ≡ n))
    → ((e : Refusal X509Error) (left : ℕ) → plan.Refuses input e left → refusing e ≡ got value rest)
    → report ≡ front_report text_of value rest → IsOnly (IsFrontReport plan text_of input) report
accepted_only plan text_of input value rest report front only refuses is = record {
  is = inl (record { value = value; rest = rest; front = front; reported = is });
  only = λ y h. elim h [
    | inl a ↦ a.reported ∙ same_front text_of a.value value a.rest rest (only a.value value a.rest rest a.front front) ∙ sym is
    | inr r ↦ absurd (got_not_err value rest r.reason (sym (refuses r.reason r.refused.0 r.refused.1)))
  ];
}

-- and so does the reason of a refusal that is not want of memory
refused_only : {A : Type 0} (plan : Field A) (text_of : A → List ℕ → List ℕ) (input : List ℕ) (reason : Refusal X509Error) (report : Report)
    → is_excused is_x509_memory true reason ≡ false
    → (is_excused is_x509_memory true reason ≡ false → (left : ℕ) × plan.Refuses input reason left)
    → ((a : A) (m : List ℕ) → IsFront plan input a m → cond (is_excused is_x509_memory true reason) (Unit {0}) (got a m ≡ err reason))
    → ((e : Refusal X509Error) (left : ℕ) → plan.Refuses input e left → cond (is_excused is_x509_memory true reason) (Unit {0}) (err {A = A} e ≡ err reason))
    → report ≡ refused_report x509_word reason → IsOnly (IsFrontReport plan text_of input) report
refused_only {A} plan text_of input reason report own refused accepts refuses is = record {
  is = inr (record { reason = reason; refused = refused own; reported = is });
  only = λ y h. elim h [
    | inl a ↦ absurd (got_not_err a.value a.rest reason (rw own at accepts a.value a.rest a.front))
    | inr r ↦ r.reported ∙ ap (refused_report x509_word) (err_is A r.reason reason (rw own at refuses r.reason r.refused.0 r.refused.1)) ∙ sym is
  ];
}

-- what a reader that reads exactly answered gives the one report
pub one_report : {A X : Type 0} (plan : Field A) (text_of : A → List ℕ → List ℕ) (view : X → List ℕ × A) (input : List ℕ) (read : Result X (Refusal X509Error)) (answer : Result Report Stop)
    → ReadsExactly is_x509_memory true view plan input read
    → MatchResult answer (λ r. ReportsAnswer view text_of read r) (λ e. e ≡ stop.Memory)
    → MatchResult answer (λ r. IsOnly (IsFrontReport plan text_of input) r) (λ e. e ≡ stop.Memory)
one_report plan text_of view input (Ok x) (Ok r) exact is =
    accepted_only plan text_of input (view x).1 (view x).0 r exact.accepted exact.only exact.refuses is
one_report plan text_of view input (Err e) (Ok r) exact is =
    refused_only plan text_of input e r is.0 exact.refused exact.accepts exact.refuses is.1
one_report plan text_of view input read (Err e) exact is = is

-- the lines of one more
pub lines_more : {X Y : Type 0} (line_of : Y → List ℕ) (value : X → Y) (before : List ℕ) (xs : List X) (i : ℕ) (d : X) → i < length xs
    → before ++ flat_map line_of (map value (take i xs)) ++ line_of (value (get_or xs i d)) ≡ before ++ flat_map line_of (map value (take (i + 1) xs))
lines_more line_of value before xs i d lt =
    rw (take_more xs i d lt, map-append value (take i xs) (get_or xs i d ∷ [])) (flat_map_more line_of before (map value (take i xs)) (value (get_or xs i d)))

-- the line of a field that may be absent
pub optional_line : {X A : Type 0} (view : X → A) (text : A → List ℕ) (label before after : List ℕ) (o : Option X)
    → MatchOption o (after ≡ before ++ line label (codes "none")) (λ held. after ≡ before ++ line label (text (view held)))
    → after ≡ before ++ line label (or_none text (option_view view o))
optional_line view text label before after None h = h
optional_line view text label before after (Some x) h = h

-- ---- commands

-- the word of a command has the report that the command has
pub IsReport-named : (command input : List ℕ) (named : Command) (r : Report) → command ≡ command_word named → IsOnly (IsReport (command_word named) input) r → IsOnly (IsReport command input) r
IsReport-named command input named r is h = subst (λ c. IsOnly (IsReport c input) r) (sym is) h

refusal-status : {E : Type 0} (word_of : E → List ℕ) (refusal : Refusal E) → (refused_report word_of refusal).status < 2
unfolding refused_report
refusal-status word_of refusal = omega arith

IsFrontReport-status : {A : Type 0} (plan : Field A) (text_of : A → List ℕ → List ℕ) (input : List ℕ) (r : Report) → IsFrontReport plan text_of input r → r.status < 2
IsFrontReport-status plan text_of input r (inl h) = subst (λ (p : Report). p.status < 2) (sym h.reported) (omega arith)
IsFrontReport-status plan text_of input r (inr h) = subst (λ (p : Report). p.status < 2) (sym h.reported) (refusal-status x509_word h.reason)

pub IsReport-status : (input : List ℕ) (named : Command) (r : Report) → IsReport (command_word named) input r → r.status < 2
IsReport-status input commands.Der r h = IsElementReport-status input r (h.der refl)
IsReport-status input commands.Cert r h = IsFrontReport-status (certificate false) certificate_text input r (h.cert refl)
IsReport-status input commands.Crl r h = IsFrontReport-status certificate_list list_text input r (h.crl refl)
IsReport-status input commands.Csr r h = IsFrontReport-status certification_request request_text input r (h.csr refl)
IsReport-status input commands.CertStrict r h = IsFrontReport-status (certificate_by true true) certificate_text input r (h.cert_strict refl)
IsReport-status input commands.CrlStrict r h = IsFrontReport-status plain_list list_text input r (h.crl_strict refl)
IsReport-status input commands.CsrStrict r h = IsFrontReport-status plain_request request_text input r (h.csr_strict refl)

pub IsReport-usage : (command input : List ℕ) → ¬ IsCommand command → IsOnly (IsReport command input) usage_report
IsReport-usage command input not = record {
  is = record {
    der = λ der. absurd (not (inl der));
    cert = λ cert. absurd (not (inr (inl cert)));
    crl = λ crl. absurd (not (inr (inr (inl crl))));
    csr = λ csr. absurd (not (inr (inr (inr (inl csr)))));
    cert_strict = λ cert. absurd (not (inr (inr (inr (inr (inl cert))))));
    crl_strict = λ crl. absurd (not (inr (inr (inr (inr (inr (inl crl)))))));
    csr_strict = λ csr. absurd (not (inr (inr (inr (inr (inr (inr csr)))))));
    other = λ _. refl;
  };
  only = λ y p. p.other not;
}

pub IsStopped-in_text : (command : List ℕ) (rs rs' : Bool) (had left : Option (List ℕ)) (ws ws' : Bool) (held holds : Option (List ℕ)) (input : List ℕ) (r : Report) (e : Stop)
    → IsOnly (IsReport command input) r → rs' ≡ rs → (r.status < 2 → IsDrainedOf had left input)
    → WriteStops ws' held holds r.text e → IsStopped command rs rs' had left ws ws' held holds e
IsStopped-in_text command rs rs' had left ws ws' held holds input r stop.Read is same whole h = absurd h
IsStopped-in_text command rs rs' had left ws ws' held holds input r stop.Write is same whole h = (h.0, same, record { input = input; report = r; reported = is; whole = whole; front = h.1 })
IsStopped-in_text command rs rs' had left ws ws' held holds input r stop.Memory is same whole h = absurd h
