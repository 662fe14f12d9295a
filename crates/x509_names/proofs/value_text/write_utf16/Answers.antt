use Rattle.std.proofs.Common.{◌++◌, [], encode_utf8, Ok, true, refl, sym, ap, ◌∙◌}
use Rattle.std.specs.Option.{option_map}
use Rattle.std.proofs.Output.{has_written_append, has_written_of_eq}
use Rattle.x509_names.specs.NameTexts.{utf16_text}
use Rattle.x509_names.proofs.Written.{behind_both, behind_none, left_whole, nothing_written, displays_if}
use Rattle.x509_names.proofs.value_text.write_utf16.Goals as goal

pub chars-init : goal.chars-init
chars-init g c = λ whole is plain. ([], nothing_written _ _ plain, left_whole _ ∙ is)

pub chars-preserved : goal.chars-preserved
chars-preserved g c = λ whole is plain.
    let (done, wrote, all) = c.chars.invariant whole is plain in
    let next = encode_utf8 c.in-Some.character in
    let grown = behind_both done next (utf16_text c.in-Some.behind.now) in (
      done ++ next,
      has_written_append _ _ _ _ _ _ wrote (c.in_ok-write_char.ensures.writes wrote.plain (refl {a = true})),
      grown ∙ ap (option_map (λ text. done ++ text)) (sym c.in-Some.ensures.some) ∙ all,
    )

pub returns : goal.returns
returns g c = displays_if _ _ _ (Ok tt) _ (λ whole is plain ok.
    let (done, wrote, all) = c.chars.invariant whole is plain in
    has_written_of_eq _ _ _ _ _ (behind_none _ done whole (ap (option_map (λ text. done ++ text)) (sym c.in_default.ensures.none) ∙ all)) wrote)
