-- Lines of reports.
use Rattle.std.specs.Prelude.{List, ℕ, ◌++◌, Bool, length, codes, if◌then◌else◌}
use Rattle.std.specs.Fmt.{decimal}
use Rattle.x509_der.specs.Oid.{oid_text}
use Rattle.x509_extensions.specs.Extension.{Extension}

-- a label, a colon and a space, what is shown, and a newline
unfoldable pub line : List ℕ → List ℕ → List ℕ
line label text = label ++ codes ": " ++ text ++ codes "\n"

abbrev pub critical_word : Bool → List ℕ
critical_word critical = if critical then codes "critical" else codes "normal"

-- the identifier, whether the extension is critical, and the length of its value
abbrev pub extension_line : Extension → List ℕ
extension_line e = line (codes "extension") (oid_text e.oid ++ codes " " ++ critical_word e.critical ++ codes " " ++ decimal (length e.value))
