use Rattle.std.proofs.Common.{string_bytes}
use Rattle.x509_names.specs.Names.{name_of}
use Rattle.x509_names.proofs.Lossy.{name_whole, displayed}
use Rattle.x509_names.specs.Objects.{registered_name}
use Rattle.x509_names.proofs.name.X509Name.to_text_lossy.Goals as goal

pub returns-clause-displayed : goal.returns-clause-displayed
returns-clause-displayed c =
    displayed string_bytes c.format.result _ _ _ (name_whole registered_name (name_of c.args.self.now)) c.format.ensures.ok
