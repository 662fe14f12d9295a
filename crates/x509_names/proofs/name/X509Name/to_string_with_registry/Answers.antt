use Rattle.std.proofs.Common.{sym, ap, ◌∙◌, Some, refl, inr}
use Rattle.x509_names.specs.Names.{name_of}
use Rattle.x509_names.specs.Registry.{name_by}
use Rattle.x509_names.proofs.Lossy.{name_whole, whole_there}
use Rattle.x509_names.proofs.Present.{name_there, not_there}
use Rattle.x509_names.proofs.name.X509Name.to_string_with_registry.Goals as goal

pub returns-in_ok-format : goal.returns-in_ok-format
returns-in_ok-format c =
    let there = name_there (name_by c.args.registry.now) (name_of c.args.self.now) ∙ sym c.all_have_texts.ensures ∙ c.if-all_have_texts.true in
    whole_there _ _ (name_whole (name_by c.args.registry.now) (name_of c.args.self.now)) there ∙ ap (λ t. Some t) (sym c.in_ok-format.ensures.ok)

pub returns-else-all_have_texts : goal.returns-else-all_have_texts
returns-else-all_have_texts c =
    let missing = name_there (name_by c.args.registry.now) (name_of c.args.self.now) ∙ sym c.all_have_texts.ensures ∙ c.if-all_have_texts.false in
    inr (refl, not_there _ missing)
