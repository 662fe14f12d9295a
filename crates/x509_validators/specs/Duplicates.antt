-- Identifiers that stand twice.
use Rattle.std.specs.Prelude.{◌≡◌, ℕ, Bool, not, List, [], ◌++◌}
use Rattle.std.specs.BTreeSet.{BTreeSet, contains}
use Rattle.std.specs.List.{list_any}
use Rattle.std.specs.Str.{bytes_eq}
use Rattle.x509_der.specs.declared.oid.Oid.{Oid}
use Rattle.x509_der.specs.Oid.{oid_bytes, oid_text}
use Rattle.x509_validators.specs.Findings.{findings, all_sound}
use Rattle.x509_validators.specs.Message.{Message, error_if}
use Rattle.x509_values.specs.ExtendedKeyUsage.{oid_cmp}

-- whether the identifier is one of these
unfoldable pub is_among : List (List ℕ) → List ℕ → Bool
is_among ids id = list_any (λ other. bytes_eq other id) ids

unfoldable pub repeat_error : List ℕ → List (List ℕ) → List ℕ → List Message
repeat_error label before id = error_if (is_among before id) (label ++ oid_text id)

unfoldable pub is_new : List (List ℕ) → List ℕ → Bool
is_new before id = not (is_among before id)

-- an error at each identifier that one before it is equal to
abbrev pub repeat_errors : List ℕ → List (List ℕ) → List Message
repeat_errors label ids = findings (repeat_error label) [] ids

-- no identifier stands twice
abbrev pub all_distinct : List (List ℕ) → Bool
all_distinct ids = all_sound is_new [] ids

-- the set has these identifiers, and no other
abbrev pub IsSetOf : List (List ℕ) → BTreeSet Oid → Type 0
IsSetOf ids set = (id : Oid) → contains oid_cmp set id ≡ is_among ids (oid_bytes id)
