-- What is still to come in the middle of a walk.
use Rattle.std.specs.Prelude.{◌≡◌, ℕ, ◌-◌, List, [], ◌∷◌, ◌++◌, length, take, drop, reverse, MatchResult, Result}
use Rattle.x509_elements.specs.declared.line.DumpLine.{DumpLine as RustLine}
use Rattle.x509_elements.specs.declared.lines.DumpLines.{DumpLines}
use Rattle.x509_elements.specs.declared.open.Open.{Open}
use Rattle.x509_elements.specs.Elements.{Line, line_of, lines_at}
use Rattle.x509_elements.specs.Cursors.{standing_of}

-- the octets from one on, up to another
abbrev pub window : List ℕ → ℕ → ℕ → List ℕ
window octets at end = take (end - at) (drop at octets)

-- the lines of elements that are open, the innermost first: of what is left of each, in the middle of so many others
unfoldable pub still : List ℕ → ℕ → List Open → List Line
still octets at [] = []
still octets at (o ∷ os) = lines_at (record { offset = at; depth = length os; standing = standing_of o.cursor }) (window octets at o.end) ++ still octets o.end os

-- the open elements, the innermost first
abbrev pub opens : DumpLines → List Open
opens s = s.innermost ∷ reverse s.outer.items

abbrev pub left : DumpLines → List Line
left s = still s.octets.now s.at (opens s)

-- the next line, of those that are left; none behind a refused request for memory
abbrev pub IsNext : {E : Type 0} → DumpLines → Result RustLine E → DumpLines → Type 0
IsNext s found t = MatchResult found (λ line. left s ≡ line_of line ∷ left t) (λ _. left t ≡ [])
