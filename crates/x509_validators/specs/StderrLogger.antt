use Rattle.std.specs.Prelude.{◌≡◌, ℕ, List, [], ◌∷◌, ◌++◌, Option, MatchResult, codes}
use Rattle.std.specs.Io.KnownBytes.{Appends}
use Rattle.x509_fields.specs.declared.error.X509Error.TheVariants.{Generic}
use Rattle.x509_validators.specs.Message.{Message, warning, error, Logged}

-- the level, the text and a newline
abbrev pub line_of : Message → List ℕ
line_of (warning text) = codes "[W] " ++ text ++ 10 ∷ []
line_of (error text) = codes "[E] " ++ text ++ 10 ∷ []

-- the line is appended to what the writer holds, where that is known, or the write failed
abbrev pub writes_line : {S : Type 0} → (S → Option (List ℕ)) → S → Message → Logged → S → Type 0
writes_line contents s m r t = MatchResult r (λ _. Appends (contents s) (contents t) (line_of m)) (λ e. e ≡ Generic)
