-- What the parser answers.
use Rattle.std.specs.Prelude.{◌≡◌, ◌⊎◌, ℕ, List, Result, Some, IfOk, IfErr, IsErrAnd, MatchResult, true}
use Rattle.x509_der.specs.Laws.{IsBytes}
use Rattle.x509_der.specs.Oid.{is_dotted, oid_text}
use Rattle.x509_names.specs.Arcs.{IsDottedText}
use Rattle.x509_names.specs.DottedRefusals.{IsReason, refusal}
use Rattle.x509_names.specs.declared.parse_error.ParseOidError.{ParseOidError}
use Rattle.x509_names.specs.declared.parse_error.ParseOidError.TheVariants.{OutOfMemory}

-- this text is what an `Oid` of these octets is shown as, in dotted form
pub record IsShownAs (octets text : List ℕ) : Type 0 where
  pub bytes : IsBytes octets
  pub form : is_dotted octets ≡ true
  pub text_is : oid_text octets ≡ text

-- the answer is the identifier with these octets, or else want of memory
abbrev pub Gives : Result (List ℕ) ParseOidError → List ℕ → Type 0
Gives result octets = MatchResult result (λ given. given ≡ octets) (λ e. e ≡ OutOfMemory)

pub record ParsesExactly (text : List ℕ) (result : Result (List ℕ) ParseOidError) : Type 0 where
  -- an identifier that is answered is the one that the text names, and one that it names is answered
  pub accepted : IfOk result (λ octets. IsDottedText text octets)
  pub accepts : (octets : List ℕ) → IsDottedText text octets → Gives result octets
  -- a refusal that is answered is that of the text, and the text's is answered
  pub refused : IfErr result (λ e. IsReason text e)
  pub refuses : (e : ParseOidError) → refusal text ≡ Some e → IsErrAnd result (λ given. (given ≡ e) ⊎ (given ≡ OutOfMemory))
  -- what is answered is shown as the text, and what is shown as the text is answered
  pub shown : IfOk result (λ octets. IsShownAs octets text)
  pub shows : (octets : List ℕ) → IsShownAs octets text → Gives result octets
