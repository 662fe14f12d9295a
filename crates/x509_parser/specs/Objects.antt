-- Objects that stand one behind another.
use Rattle.std.specs.Prelude.{◌≡◌, ℕ, ◌+◌, List, [], ◌++◌, MatchResult, length, if◌then◌else◌}
use Rattle.x509_der.specs.Looks.{behind, is_element}
use Rattle.x509_parser.specs.Object.{IsObject, IsNoObject}
use Rattle.x509_parser.specs.declared.found_object.FoundObject.{FoundObject}
use Rattle.x509_parser.specs.declared.object_iter.ObjectIter.{ObjectIter}

-- what stands behind the first element; nothing where the octets are none
unfoldable pub rest_of : List ℕ → List ℕ
rest_of octets = if is_element octets then behind octets else []

-- From the one state to the other, this was found: the octets up to what stands behind the first element, whichever object they are.
pub record IsNext (s : ObjectIter) (x : FoundObject) (t : ObjectIter) : Type 0 where
  pub offset : x.offset ≡ s.offset
  pub octets : s.left.now ≡ x.octets.now ++ t.left.now
  pub left : t.left.now ≡ rest_of s.left.now
  pub next : t.offset ≡ s.offset + length x.octets.now
  pub object : MatchResult x.object (λ o. (rest : List ℕ) × IsObject x.octets.now rest o) (IsNoObject x.octets.now)
