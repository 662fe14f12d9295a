-- Texts that may be absent, and how they are written.
use Rattle.std.proofs.Common.{◌≡◌, ℕ, Bool, true, false, List, [], ◌++◌, Option, Some, None, Result, is_some, refl, sym, ap, ◌∙◌, append_assoc, append-nil}
use Rattle.std.specs.Prelude.{if◌then◌else◌}
use Rattle.std.specs.Option.{option_map}
use Rattle.std.specs.Fmt.{HasWritten, IsPlainFormatter, WritesOnOk, DisplaysOnOk}
use Rattle.std.specs.declared.fmt.Error.{Error}
use Rattle.std.specs.declared.fmt.Formatter.{Formatter}

pub is_some-option_map : {A B : Type 0} (f : A → B) (o : Option A) → is_some (option_map f o) ≡ is_some o
is_some-option_map f None = refl
is_some-option_map f (Some x) = refl

pub is_some_if : (is : Bool) (text : List ℕ) → is_some (if is then Some text else None) ≡ is
is_some_if true text = refl
is_some_if false text = refl

pub left_whole : (o : Option (List ℕ)) → option_map (λ text. [] ++ text) o ≡ o
left_whole None = refl
left_whole (Some text) = refl

-- one text behind another, both behind what stands there
pub behind_both : (a b : List ℕ) (o : Option (List ℕ)) → option_map (λ text. (a ++ b) ++ text) o ≡ option_map (λ text. a ++ text) (option_map (λ text. b ++ text) o)
behind_both a b None = refl
behind_both a b (Some text) = ap (λ (l : List ℕ). Some l) (append_assoc a b text)

-- nothing behind what stands there
pub behind_none : (is : Bool) (a whole : List ℕ) → option_map (λ text. a ++ text) (if is then Some [] else None) ≡ Some whole → a ≡ whole
behind_none true a whole e = let same : a ++ [] ≡ whole = cc in sym (append-nil a) ∙ same
behind_none false a whole e = absurd (cc)

module _ {W : Type 0} (took : W → List ℕ → W → Type 0) where
  pub nothing_written : (f : Formatter W) → IsPlainFormatter f → HasWritten took f [] f
  nothing_written f plain = record { wrote = record { parts = []; calls = refl; whole = refl }; plain = plain }

  -- what is written where there is a text is that text
  pub displays_if : (f g : Formatter W) (r : Result (Unit {0}) Error) (o : Option (List ℕ)) → ((text : List ℕ) → o ≡ Some text → WritesOnOk took f r text g) → DisplaysOnOk took f r o g
  displays_if f g r None k = tt
  displays_if f g r (Some text) k = k text refl

  -- and where a text is displayed, it is written
  pub writes_some : (f g : Formatter W) (r : Result (Unit {0}) Error) (o : Option (List ℕ)) (text : List ℕ) → o ≡ Some text → DisplaysOnOk took f r o g → WritesOnOk took f r text g
  writes_some f g r None text e h = absurd (cc)
  writes_some f g r (Some s) text e h = let same : s ≡ text = cc in rw (← same) h
