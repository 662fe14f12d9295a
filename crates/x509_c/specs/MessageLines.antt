-- A logger that writes each message as a line.
use Rattle.std.specs.Prelude.{◌≡◌, ℕ, List, [], ◌∷◌, ◌++◌, codes, MatchResult}
use Rattle.x509_fields.specs.declared.error.X509Error.TheVariants.{OutOfMemory}
use Rattle.x509_report_lines.specs.Escape.{escaped}
use Rattle.x509_report_lines.specs.Kept.{kept}
use Rattle.x509_validators.specs.Message.{Message, warning, error, Logged}
use Rattle.x509_c.specs.declared.validation.MessageLines.{MessageLines}

-- its level, its text as it is shown, and a newline
abbrev pub message_line : Message → List ℕ
message_line (warning text) = codes "warning: " ++ (escaped text ++ 10 ∷ [])
message_line (error text) = codes "error: " ++ (escaped text ++ 10 ∷ [])

-- the line is added behind those that stand there, or memory ran out
abbrev pub adds_line : MessageLines → Message → Logged → MessageLines → Type 0
adds_line s m r t = MatchResult r (λ _. t.text ≡ kept (s.text.so_far ++ message_line m)) (λ e. e ≡ OutOfMemory)
