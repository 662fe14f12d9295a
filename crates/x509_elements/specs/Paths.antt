-- The path of names to an octet of an object.
use Rattle.std.specs.Prelude.{ℕ, suc, zero, ◌+◌, ◌-◌, ◌||◌, nat_lt, Bool, true, false, List, [], ◌∷◌, ◌++◌, length, drop, codes, decimal, Option, Some, None, if◌then◌else◌}
use Rattle.x509_elements.specs.declared.member.Member.{Member as RustMember}
use Rattle.x509_elements.specs.declared.part.Part.{Part}
use Rattle.x509_elements.specs.declared.part.Part.TheVariants as parts
use Rattle.x509_elements.specs.Cursors.{Called, Standing, Step, called_of, first_of, stepped}
use Rattle.x509_elements.specs.Seen.{Seen, seen}

-- ---- the member in which an octet lies

-- what it is called, its octets from its header on, and how many of them stand before the octet
pub record Member : Type 0 where
  pub called : Called
  pub window : List ℕ
  pub at : ℕ

abbrev pub member_of : RustMember → Member
member_of m = record { called = called_of m.called; window = m.window.now; at = m.at }

abbrev pub where_seen : {A : Type 0} → Option Seen → (Seen → Option A) → Option A
where_seen None f = None
where_seen (Some s) f = f s

abbrev pub is_field : Part → Bool
is_field parts.Unknown = false
is_field part = true

abbrev pub where_field : {A : Type 0} → Step → (Step → Option A) → Option A
where_field step f = if is_field step.0.part then f step else None

abbrev pub size_of : Seen → ℕ
size_of s = s.size + length s.contents

-- of so many members at most, from this standing on
unfoldable pub find_member : ℕ → Standing → List ℕ → ℕ → Option Member
find_member zero standing window at = None
find_member (suc more) standing window at =
    where_seen (seen window) λ s.
    where_field (stepped standing s.header s.contents) λ step.
    if nat_lt at (size_of s)
    then Some (record { called = step.0; window = window; at = at })
    else find_member more step.1 s.behind (at - size_of s)

abbrev pub find_in : Standing → List ℕ → ℕ → Option Member
find_in standing members at = find_member (length members) standing members at

-- how many octets of the contents stand before the first member: of bits that are a key the one that says how many are unused (X.690, 8.6.2)
abbrev pub lead : Part → ℕ
lead parts.RsaKeyBits = 1
lead part = 0

-- none where the octet lies in the header of the structure itself, or before its first member
unfoldable pub member_at : Part → List ℕ → ℕ → Option Member
member_at part window at =
    where_seen (seen window) λ s.
    if nat_lt at s.size || nat_lt (at - s.size) (lead part) then None
    else find_in (first_of part) (drop (lead part) s.contents) (at - s.size - lead part)

-- ---- the path

abbrev pub dotted : List ℕ → List ℕ → List ℕ
dotted before [] = before
dotted [] (d ∷ ds) = d ∷ ds
dotted (c ∷ cs) (d ∷ ds) = (c ∷ cs) ++ codes "." ++ d ∷ ds

abbrev pub numbered : List ℕ → Option ℕ → List ℕ
numbered before None = before
numbered before (Some n) = before ++ codes "[" ++ decimal n ++ codes "]"

-- a member behind its structure: its name, its number in a list, and its alternative of a choice
abbrev pub named : List ℕ → Called → List ℕ
named before c = dotted (numbered (dotted before c.name) c.number) c.alternative

abbrev pub where_member : Option Member → List ℕ → (Member → List ℕ) → List ℕ
where_member None before f = before
where_member (Some m) before f = f m

-- of so many members at most, behind the path to the part itself
unfoldable pub path : ℕ → Part → List ℕ → ℕ → List ℕ → List ℕ
path zero part window at before = before
path (suc more) part window at before =
    where_member (member_at part window at) before λ m. path more m.called.part m.window m.at (named before m.called)

-- no more members stand in one another (`whole_path`, proofs/Deepest.antt): in a request extnValue is the seventh, and nine stand in it, from
-- cRLDistributionPoints to the value in a directoryName
abbrev pub deepest : ℕ
deepest = 16
