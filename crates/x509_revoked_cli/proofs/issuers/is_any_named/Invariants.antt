use Rattle.std.proofs.Common.{◌≡◌, map, drop}
use Rattle.std.specs.List.{list_any}
use Rattle.x509_general_names.specs.GeneralName.{general_name_of}
use Rattle.x509_revoked_cli.specs.Issuers.{is_named}
use Rattle.x509_revoked_cli.proofs.issuers.is_any_named.Given as goal

-- none so far is
abbrev pub invariant-loop-name : goal.invariant-loop-name
invariant-loop-name l =
    list_any (is_named l.text) (map general_name_of (drop l.name-index l.names)) ≡ list_any (is_named l.text) (map general_name_of l.names)
