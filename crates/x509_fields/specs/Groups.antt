-- Members grouped under their identifiers.
use Rattle.std.specs.Prelude.{◌≡◌, Bool, List, [], ◌∷◌, Option, Some, None, Result, IfOk, IfErr, map, Vec, unwrap_or, option_map}
use Rattle.std.specs.List.{filter}
use Rattle.std.specs.Borrow.{Bor}
use Rattle.std.specs.Str.{bytes_eq}
use Rattle.std.specs.HashMap.{HashMap, get}
use Rattle.x509_der.specs.declared.oid.Oid.{Oid}
use Rattle.x509_der.specs.Oid.{oid_bytes}
use Rattle.x509_fields.specs.declared.error.X509Error.{X509Error}
use Rattle.x509_fields.specs.declared.error.X509Error.TheVariants.{OutOfMemory}

-- whether two identifiers have the same octets
abbrev pub oid_eq : Oid → Oid → Bool
oid_eq a b = bytes_eq (oid_bytes a) (oid_bytes b)

-- the list that the map has under an identifier
abbrev pub held : {X A S : Type 0} → HashMap Oid (Vec X A) S → Oid → Option (List X)
held m q = option_map (λ g. g.items) (get oid_eq m q)

-- that list, or the empty one
abbrev pub held_at : {X A S : Type 0} → HashMap Oid (Vec X A) S → Oid → List X
held_at m q = unwrap_or (held m q) []

-- what the references of a list point at
abbrev pub pointed : {X : Type 0} → Option (List (Bor X)) → Option (List X)
pointed o = option_map (map (λ r. r.now)) o

-- none, or a list of one member at least
unfoldable pub group : {X : Type 0} → List X → Option (List X)
group [] = None
group (x ∷ xs) = Some (x ∷ xs)

-- what the members with an identifier hold, in order; none where there is no such member
unfoldable pub grouped : {M X : Type 0} → (M → Oid) → (M → X) → List M → Oid → Option (List X)
grouped id value xs q = group (map value (filter (λ x. oid_eq (id x) q) xs))

-- What a map of groups promises: under each identifier the list of what has it, and no other list; without memory there is no map.
pub record MapsGroups {M X : Type 0} (list_under : M → Oid → Option (List X)) (wanted : Oid → Option (List X)) (result : Result M X509Error) : Type 0 where
  pub groups : IfOk result (λ m. (q : Oid) → list_under m q ≡ wanted q)
  pub err : IfErr result (λ e. e ≡ OutOfMemory)
