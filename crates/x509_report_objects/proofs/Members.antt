-- The members of an object, and its end.
use Rattle.std.proofs.Common.{◌≡◌, ℕ, List, [], ◌∷◌, ◌++◌, refl}
use Rattle.json.specs.Json.{Json}
use Rattle.json.specs.Token.{Token}
use Rattle.x509_report_lines.specs.Says.{written, members_written, members_of, members_said}

pub members_end : (ts : List Token) (ms : List (List ℕ × Json)) → members_written ts (members_of ms) ≡ members_said ts ms ++ Token.end_object ∷ []
members_end ts [] = refl
members_end ts (m ∷ ms) = members_end (written (ts ++ Token.key m.0 ∷ []) m.1) ms

pub members_appended : (ts : List Token) (ms more : List (List ℕ × Json)) → members_said ts (ms ++ more) ≡ members_said (members_said ts ms) more
members_appended ts [] more = refl
members_appended ts (m ∷ ms) more = members_appended (written (ts ++ Token.key m.0 ∷ []) m.1) ms more
