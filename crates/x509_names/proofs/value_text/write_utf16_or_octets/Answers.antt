use Rattle.std.proofs.Common.{sym, ◌∙◌}
use Rattle.std.proofs.Output.{has_written_of_eq}
use Rattle.x509_names.proofs.Present.{shown, not_shown}
use Rattle.x509_names.proofs.Written.{writes_some}
use Rattle.x509_names.proofs.value_text.write_utf16_or_octets.Goals as goal

pub returns-then-is_utf16 : goal.returns-then-is_utf16
returns-then-is_utf16 g c =
    writes_some _ _ _ c.write_utf16.result _ _ (shown _ _ (sym c.is_utf16.ensures ∙ c.if-is_utf16.true)) c.write_utf16.ensures

pub returns-else-is_utf16 : goal.returns-else-is_utf16
returns-else-is_utf16 g c = λ plain ok.
    has_written_of_eq _ _ _ _ _ (sym (not_shown _ _ (sym c.is_utf16.ensures ∙ c.if-is_utf16.false))) (c.write_octets.ensures plain ok)
