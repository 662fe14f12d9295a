-- Extensions that close a structure and end before it does.
use Rattle.std.proofs.Common.{◌≡◌, ◌<◌, ℕ, Bool, true, ◌&&◌, List, [], ◌∷◌, length, Err, ap, sym, ◌∙◌, arith}
use Rattle.x509_der.specs.declared.header.Header.{Header}
use Rattle.x509_der.specs.declared.error.Err.{Err as Refusal}
use Rattle.x509_der.specs.Plan.{Outcome, got, and_then, then_marks, then_stop, stop_here, ended}
use Rattle.x509_der.specs.Promises.{ended_early}
use Rattle.x509_der.proofs.Marked.{and_true}
use Rattle.x509_der.proofs.Results.{then_by}
use Rattle.x509_der.proofs.RunLoop.{not_at_end}
use Rattle.x509_fields.specs.declared.error.X509Error.{X509Error}
use Rattle.x509_fields.specs.declared.error.X509Error.TheVariants as x509
use Rattle.x509_extensions.specs.Extension.{Extension}
use Rattle.x509_extensions.specs.ExtensionList.{extensions, closes, wrapper_header, wrapped_extensions, wrapped}

pub ends_early : (n : ℕ) (deep : Bool) (place inner rest : List ℕ) (h : Header) (xs : List Extension) → 0 < length place → (wrapper_header n).read place ≡ got h inner → (extensions deep).read inner ≡ got xs rest → 0 < length rest → (wrapped_extensions n deep).read place ≡ Err (ended_early x509.NomError)
unfolding wrapped_extensions wrapped
ends_early n deep [] inner rest h xs some is list left = absurd (omega arith)
ends_early n deep (b ∷ bs) inner rest h xs some is list left =
    then_by ((wrapper_header n).read (b ∷ bs)) (λ header at. and_then ((extensions deep).read at) (λ a. ended (ended_early x509.NomError) a)) h inner is
    ∙ then_by ((extensions deep).read inner) (λ a. ended (ended_early x509.NomError) a) xs rest list
    ∙ not_at_end (ended_early x509.NomError) xs rest left

-- and the place of that refusal is where they end
pub ended_there : {L : Type 0} (n : ℕ) (deep : Bool) (more : ℕ → L → L) (outside : L) (place inner rest : List ℕ) (h : Header) (xs : List Extension) → (wrapper_header n).read place ≡ got h inner → (extensions deep).read inner ≡ got xs rest → (wrapped_extensions n deep).stop more place outside ≡ stop_here more rest outside
unfolding wrapped_extensions wrapped
ended_there {L} n deep more outside place inner rest h xs is list =
    ap (λ (r : Outcome (Refusal X509Error) Header). then_stop r ((wrapper_header n).stop more place outside) (λ header at. at_their_end at ((extensions deep).read at))) is
    ∙ ap (at_their_end inner) list
  where
    at_their_end : List ℕ → Outcome (Refusal X509Error) (List Extension) → L
    at_their_end at r = then_stop r ((extensions deep).stop more at outside) (λ xs next. stop_here more next outside)

-- the mark of those that end where it does
pub ended_plain : (n : ℕ) (deep : Bool) (place inner rest : List ℕ) (h : Header) (xs : List Extension) → 0 < length place → (wrapper_header n).read place ≡ got h inner → (wrapper_header n).marks place ≡ true → (extensions deep).read inner ≡ got xs rest → (closes n h inner && (extensions deep).marks inner) ≡ (wrapped_extensions n deep).marks place
unfolding wrapped_extensions wrapped
ended_plain n deep [] inner rest h xs some is plain list = absurd (omega arith)
ended_plain n deep (b ∷ bs) inner rest h xs some is plain list =
    let at_end = λ (r : Outcome (Refusal X509Error) (List Extension)). then_marks r (λ xs next. true) in
    let header = ap (λ (r : Outcome (Refusal X509Error) Header). (wrapper_header n).marks (b ∷ bs) && then_marks r (λ header at. closes n header at && ((extensions deep).marks at && at_end ((extensions deep).read at)))) is in
    let first = ap (λ (m : Bool). m && (closes n h inner && ((extensions deep).marks inner && at_end ((extensions deep).read inner)))) plain in
    let last = ap (λ r. closes n h inner && ((extensions deep).marks inner && at_end r)) list in
    sym (header ∙ (first ∙ (last ∙ ap (λ (m : Bool). closes n h inner && m) (and_true ((extensions deep).marks inner)))))
