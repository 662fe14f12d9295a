-- What a logger of lines has after a run.
use Rattle.std.proofs.Common.{◌≡◌, List, [], ◌∷◌, ◌++◌, ap, ◌∙◌, append_assoc, append-nil}
use Rattle.x509_validators.specs.Message.{Message}
use Rattle.x509_fields.specs.Steps.{Took}
use Rattle.x509_c.specs.MessageLines.{adds_line, message_line}
use Rattle.x509_c.specs.Validation.{message_lines}
use Rattle.x509_c.specs.declared.validation.MessageLines.{MessageLines}

pub lines_written : (s : MessageLines) (ms : List Message) (t : MessageLines) → Took adds_line s ms t → t.text.so_far ≡ s.text.so_far ++ message_lines ms
unfolding Took
lines_written s [] t p = simp (append-nil, ← p)
lines_written s (m ∷ ms) t p = lines_written p.0 ms t p.2 ∙ ap (λ lines. lines.so_far ++ message_lines ms) p.1 ∙ append_assoc s.text.so_far (message_line m) (message_lines ms)
