-- What a certificate may have by its version (RFC 5280, 4.1.2.1, 4.1.2.8 and 4.1.2.9): versions 1, 2 and 3 are 0, 1 and 2.
use Rattle.std.specs.Prelude.{ℕ, Bool, not, ◌&&◌, ◌||◌, ◌==◌, List, ◌++◌, codes, length, nat_lt, Option}
use Rattle.std.specs.Option.{is_some}
use Rattle.x509_der.specs.Primitives.{Bits}
use Rattle.x509_extensions.specs.Extension.{Extension}
use Rattle.x509_validators.specs.Rules.{Row, error_where, warning_where}

abbrev pub is_version : ℕ → Bool
is_version version = nat_lt version 3

abbrev pub version_rule : ℕ → Row
version_rule version = error_where (not (is_version version)) (codes "Invalid version")

-- a unique identifier in version 1
abbrev pub is_too_early : ℕ → Option Bits → Bool
is_too_early version uid = version == 0 && is_some uid

-- by the name of the field
abbrev pub uid_rule : List ℕ → ℕ → Option Bits → Row
uid_rule field version uid = warning_where (is_too_early version uid) (field ++ codes " present but version 1")

-- extensions in version 3 alone
abbrev pub may_have : ℕ → List Extension → Bool
may_have version extensions = version == 2 || length extensions == 0

abbrev pub presence_rule : ℕ → List Extension → Row
presence_rule version extensions = error_where (not (may_have version extensions)) (codes "Extensions present but version is not 3")
