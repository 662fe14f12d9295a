use Rattle.std.proofs.Common.{is_some, sym, ap, ◌∙◌}
use Rattle.x509_names.proofs.Written.{is_some-option_map, is_some_if}
use Rattle.x509_names.proofs.value_text.is_utf16.Goals as goal

pub chars-preserved : goal.chars-preserved
chars-preserved c =
    sym (ap is_some c.in-Some.ensures.some ∙ is_some-option_map _ _) ∙ c.chars.invariant

pub returns : goal.returns
returns c =
    c.is_empty.ensures ∙ sym (ap is_some c.in_default.ensures.none ∙ is_some_if _ _) ∙ c.chars.invariant
