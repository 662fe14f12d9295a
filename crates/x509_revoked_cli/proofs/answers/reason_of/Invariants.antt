use Rattle.std.proofs.Common.{◌≡◌, map, drop}
use Rattle.x509_extensions.specs.Extension.{extension_of}
use Rattle.x509_revoked_cli.specs.Answers.{reason_of}
use Rattle.x509_revoked_cli.proofs.answers.reason_of.Given as goal

-- none so far has the identifier
abbrev pub invariant-loop-extension : goal.invariant-loop-extension
invariant-loop-extension l = reason_of (map extension_of (drop l.extension-index l.extensions)) ≡ reason_of (map extension_of l.extensions)
