-- What is found at the members of a list, one after another.
use Rattle.std.specs.Prelude.{Bool, true, ◌&&◌, List, [], ◌∷◌, ◌++◌}

module _ {A X : Type 0} where
  -- the findings at each member, which may look at the members before it; `before` are those that stand before the list
  abbrev pub findings : (List A → A → List X) → List A → List A → List X
  findings f before [] = []
  findings f before (x ∷ xs) = f before x ++ findings f (before ++ x ∷ []) xs

module _ {A : Type 0} where
  -- each member passes the test, which may look at the members before it
  abbrev pub all_sound : (List A → A → Bool) → List A → List A → Bool
  all_sound p before [] = true
  all_sound p before (x ∷ xs) = p before x && all_sound p (before ++ x ∷ []) xs
