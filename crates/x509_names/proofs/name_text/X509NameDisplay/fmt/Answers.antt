use Rattle.std.proofs.Common.{sym, ◌∙◌}
use Rattle.std.proofs.Output.{has_written_of_eq}
use Rattle.x509_names.specs.Names.{name_of}
use Rattle.x509_names.proofs.Lossy.{name_whole, shown_whole}
use Rattle.x509_names.proofs.Present.{name_there, not_shown}
use Rattle.x509_names.specs.Objects.{registered_name}
use Rattle.x509_names.proofs.name_text.X509NameDisplay.fmt.Goals as goal

pub returns-then-all_have_texts-clause-writes : goal.returns-then-all_have_texts-clause-writes
returns-then-all_have_texts-clause-writes g c = λ plain ok.
    let there = name_there registered_name (name_of c.args.self.now) ∙ sym c.all_have_texts.ensures ∙ c.if-all_have_texts.true in
    has_written_of_eq _ _ _ _ _ (shown_whole _ _ _ (name_whole registered_name (name_of c.args.self.now)) there) (c.write_name.ensures plain ok)

pub returns-else-all_have_texts-clause-writes : goal.returns-else-all_have_texts-clause-writes
returns-else-all_have_texts-clause-writes g c = λ plain ok.
    let missing = name_there registered_name (name_of c.args.self.now) ∙ sym c.all_have_texts.ensures ∙ c.if-all_have_texts.false in
    has_written_of_eq _ _ _ _ _ (sym (not_shown _ _ missing)) (c.write_str.ensures.writes plain ok)
