-- The words of a command line, of which the first is the program's name.
use Rattle.std.specs.Prelude.{List, [], ◌∷◌, Option, Some, None}

abbrev pub only_word : {A : Type 0} → List A → Option A
only_word (program ∷ word ∷ []) = Some word
only_word _ = None
