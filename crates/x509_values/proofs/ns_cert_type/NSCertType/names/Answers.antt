use Rattle.std.proofs.Common.{ap, ◌∙◌}
use Rattle.x509_fields.specs.Texts.{set_names}
use Rattle.x509_values.specs.NsCertType.{ns_cert_type_words}
use Rattle.x509_values.proofs.ns_cert_type.NSCertType.names.Goals as goal

pub returns : goal.returns
returns c = c.new.ensures ∙ ap (set_names ns_cert_type_words) c.from.ensures
