-- No path is cut off: as many members as an object has in one another are fewer than the path may have.
use Rattle.std.proofs.Common.{◌≡◌, ℕ, suc, zero, ◌-◌, ◌<◌, ◌≤◌, ◌==◌, ◌&&◌, ◌||◌, nat_lt, Bool, true, false, List, [], ◌∷◌, Option, Some, None, if◌then◌else◌, length, drop, refl, sym, arith}
use Rattle.std.proofs.lemmas.Bool.{ltb-true}
use Rattle.std.specs.Str.{bytes_eq}
use Rattle.x509_der.specs.declared.header.Header.{Header}
use Rattle.x509_der.specs.Primitives.{is_context}
use Rattle.x509_elements.specs.declared.part.Part.{Part}
use Rattle.x509_elements.specs.declared.part.Part.TheVariants as parts
use Rattle.x509_elements.specs.declared.value.ExtensionValue.{ExtensionValue}
use Rattle.x509_elements.specs.declared.value.ExtensionValue.TheVariants as values
use Rattle.x509_elements.specs.Cursors.{Alternative, Standing, Step, alternative, alternative_of, called_as, first_of, general_name, held, holds, resolved, step_by, stepped}
use Rattle.x509_elements.specs.Fields.{Chosen, Field, behind, chosen, fits, is_each}
use Rattle.x509_elements.specs.Parts.{fields_of, value_field}
use Rattle.x509_elements.specs.Paths.{Member, deepest, find_member, is_field, lead, member_at, named, path, size_of, where_member, where_seen}
use Rattle.x509_elements.specs.Seen.{Seen, front_contents, seen}
use Rattle.x509_elements.specs.Told.{challenge_password, extension_request, rsa_encryption, told_by, user_notice, value_of, value_part}

-- how many members stand in one another in a part, or in what it tells
abbrev pub deep : Part → ℕ
deep parts.Certificate = 14
deep parts.TbsCertificate = 13
deep parts.Tagged = 1
deep parts.Algorithm = 1
deep parts.Name = 3
deep parts.RelativeName = 2
deep parts.NameAttribute = 1
deep parts.Validity = 1
deep parts.KeyInfo = 3
deep parts.KeyAlgorithm = 2
deep parts.RsaKeyBits = 2
deep parts.RsaKey = 1
deep parts.TaggedExtensions = 12
deep parts.Extensions = 11
deep parts.Extension = 10
deep parts.ExtensionId = 9
deep (parts.Value value) = 9
deep parts.List = 15
deep parts.TbsList = 14
deep parts.Revoked = 13
deep parts.Entry = 12
deep parts.Request = 16
deep parts.RequestInfo = 15
deep parts.Attributes = 14
deep parts.Attribute = 13
deep parts.AttributeType = 12
deep parts.Values = 1
deep parts.RequestedExtensions = 12
deep parts.Passwords = 1
deep parts.GeneralNames = 5
deep parts.GeneralName = 4
deep parts.OtherName = 2
deep parts.TaggedName = 4
deep parts.EdiPartyName = 2
deep parts.AuthorityKeyIdentifier = 6
deep parts.Policies = 7
deep parts.Policy = 6
deep parts.Qualifiers = 5
deep parts.Qualifier = 4
deep parts.QualifierId = 3
deep parts.UserNotice = 3
deep parts.NoticeReference = 2
deep parts.NoticeNumbers = 1
deep parts.PolicyMappings = 2
deep parts.PolicyMapping = 1
deep parts.BasicConstraints = 1
deep parts.NameConstraints = 7
deep parts.Subtrees = 6
deep parts.Subtree = 5
deep parts.PolicyConstraints = 1
deep parts.Purposes = 1
deep parts.DistributionPoints = 8
deep parts.DistributionPoint = 7
deep parts.DistributionPointName = 6
deep parts.FullName = 5
deep parts.RelativeToIssuer = 3
deep parts.IssuingDistributionPoint = 7
deep parts.Accesses = 6
deep parts.Access = 5
deep parts.Told = 0
deep parts.Whole = 0
deep parts.Serial = 0
deep parts.Critical = 0
deep parts.Unread = 0
deep parts.Unknown = 0

either_below : (b : Bool) (x y : Part) (j : ℕ) → deep x ≤ j → deep y ≤ j → deep (if b then x else y) ≤ j
either_below true x y j h g = h
either_below false x y j h g = g

-- ---- what a field is lies no deeper than its entry in the table

value_below : (v : Option ExtensionValue) (j : ℕ) → 9 ≤ j → deep (value_part v) ≤ j
value_below (Some v) j h = h
value_below None j h = omega (arith, h)

told_below : (part : Part) (contents : List ℕ) (before : Part) (j : ℕ) → deep part ≤ j → deep before ≤ j → deep (told_by part contents before) ≤ j
told_below parts.ExtensionId contents before j h g = value_below (value_of contents) j h
told_below parts.KeyAlgorithm contents before j h g = either_below (bytes_eq (front_contents contents) rsa_encryption) parts.RsaKeyBits parts.Whole j h (omega (arith, h))
told_below parts.AttributeType contents before j h g =
    either_below (bytes_eq contents extension_request) parts.RequestedExtensions _ j h
    (either_below (bytes_eq contents challenge_password) parts.Passwords parts.Values j (omega (arith, h)) (omega (arith, h)))
told_below parts.QualifierId contents before j h g = either_below (bytes_eq contents user_notice) parts.UserNotice parts.Whole j h (omega (arith, h))
told_below _ contents before j h g = g

resolved_below : (part before : Part) (j : ℕ) → deep part ≤ j → deep before ≤ j → deep (resolved part before) ≤ j
resolved_below parts.Told before j h g = g
resolved_below _ before j h g = h

named_below : (b : Bool) (x y : Alternative) (j : ℕ) → deep x.part ≤ j → deep y.part ≤ j → deep (if b then x else y).part ≤ j
named_below true x y j h g = h
named_below false x y j h g = g

general_below : (n j : ℕ) → 4 ≤ j → deep (general_name n).part ≤ j
general_below n j h =
    named_below (n == 0) _ _ j (omega (arith, h)) (
    named_below (n == 1) _ _ j (omega arith) (
    named_below (n == 2) _ _ j (omega arith) (
    named_below (n == 3) _ _ j (omega arith) (
    named_below (n == 4) _ _ j (omega (arith, h)) (
    named_below (n == 5) _ _ j (omega (arith, h)) (
    named_below (n == 6) _ _ j (omega arith) (
    named_below (n == 7) _ _ j (omega arith) (
    named_below (n == 8) _ _ j (omega arith) (omega arith)))))))))

alternative_below : (part : Part) (h : Header) (j : ℕ) → deep part ≤ j → deep (alternative_of part h).part ≤ j
alternative_below parts.GeneralName h j d = named_below (is_context h.class) (general_name h.tag.0) (alternative [] parts.Whole) j (general_below h.tag.0 j d) (omega arith)
alternative_below _ h j d = d

called_below : (f : Field) (n : ℕ) (told : Part) (h : Header) (contents : List ℕ) (j : ℕ) → deep f.part ≤ j → deep told ≤ j → deep (called_as f n told h contents).part ≤ j
called_below f n before h contents j d g =
    let part = resolved f.part before in
    alternative_below (held part h contents) h j (either_below (holds part h contents) part parts.Whole j (resolved_below f.part before j d g) (omega arith))

-- ---- fields lie deeper than what they are fields of

abbrev lie : ℕ → List Field → Bool
lie k [] = true
lie k (f ∷ fs) = nat_lt (deep f.part) k && lie k fs

value_lies : (v : ExtensionValue) → lie 9 (value_field v ∷ []) ≡ true
value_lies values.KeyUsage = refl
value_lies _ = refl

fields_lie : (part : Part) → lie (deep part) (fields_of part) ≡ true
fields_lie (parts.Value v) = value_lies v
fields_lie _ = refl

abbrev AreBelow : ℕ → List Field → Type 0
AreBelow k [] = Unit {0}
AreBelow k (f ∷ fs) = (deep f.part < k) × AreBelow k fs

first_true : (a b : Bool) → (a && b) ≡ true → a ≡ true
first_true true b is = refl
first_true false b is = absurd cc

second_true : (a b : Bool) → (a && b) ≡ true → b ≡ true
second_true true b is = is
second_true false b is = absurd cc

all_below : (k : ℕ) (fs : List Field) → lie k fs ≡ true → AreBelow k fs
all_below k [] is = tt
all_below k (f ∷ fs) is = (ltb-true (deep f.part) k (first_true (nat_lt (deep f.part) k) (lie k fs) is), all_below k fs (second_true (nat_lt (deep f.part) k) (lie k fs) is))

-- ---- one member

abbrev ChosenBelow : ℕ → Option Chosen → Type 0
ChosenBelow k None = Unit {0}
ChosenBelow k (Some c) = (deep c.0.part < k) × AreBelow k c.1

behind_below : (k : ℕ) (each : Bool) (f : Field) (fs : List Field) → deep f.part < k → AreBelow k fs → AreBelow k (if each then f ∷ fs else fs)
behind_below k true f fs h all = (h, all)
behind_below k false f fs h all = all

fit_below : (k : ℕ) (b : Bool) (f : Field) (fs : List Field) (others : Option Chosen) → deep f.part < k → AreBelow k fs → ChosenBelow k others
    → ChosenBelow k (if b then Some (f, behind f fs) else others)
fit_below k true f fs others h all rest = (h, behind_below k (is_each f.stands) f fs h all)
fit_below k false f fs others h all rest = rest

chosen_below : (k : ℕ) (fs : List Field) (h : Header) → AreBelow k fs → ChosenBelow k (chosen fs h)
chosen_below k [] h all = tt
chosen_below k (f ∷ fs) h all = fit_below k (fits f.stands h) f fs (chosen fs h) all.0 all.1 (chosen_below k fs h all.1)

abbrev StandsBelow : ℕ → Standing → Type 0
StandsBelow k s = AreBelow k s.fields × (deep s.told ≤ k - 1)

abbrev StepBelow : ℕ → Step → Type 0
StepBelow k step = (is_field step.0.part ≡ true → deep step.0.part < k) × StandsBelow k step.1

step_below : (k n : ℕ) (told : Part) (h : Header) (contents : List ℕ) (o : Option Chosen) → deep told ≤ k - 1 → ChosenBelow k o → StepBelow k (step_by n told h contents o)
step_below k n before h contents None g below = (λ is. absurd cc, (tt, g))
step_below k n before h contents (Some c) g below =
    let field : deep c.0.part ≤ k - 1 = omega (arith, below.0) in
    (λ is. omega (arith, below.0, called_below c.0 n before h contents (k - 1) field g), (below.1, told_below c.0.part contents before (k - 1) field g))

-- ---- the member in which an octet lies

abbrev MemberBelow : ℕ → Option Member → Type 0
MemberBelow k None = Unit {0}
MemberBelow k (Some m) = deep m.called.part < k

seen_below : (k : ℕ) (o : Option Seen) (f : Seen → Option Member) → ((s : Seen) → MemberBelow k (f s)) → MemberBelow k (where_seen o f)
seen_below k None f below = tt
seen_below k (Some s) f below = below s

field_below : (k : ℕ) (b : Bool) (o : Option Member) → (b ≡ true → MemberBelow k o) → MemberBelow k (if b then o else None)
field_below k true o below = below refl
field_below k false o below = tt

here_below : (k : ℕ) (b : Bool) (m : Member) (o : Option Member) → deep m.called.part < k → MemberBelow k o → MemberBelow k (if b then Some m else o)
here_below k true m o h below = h
here_below k false m o h below = below

find_below : (k more : ℕ) (s : Standing) (window : List ℕ) (at : ℕ) → StandsBelow k s → MemberBelow k (find_member more s window at)
unfolding find_member
find_below k zero s window at below = tt
find_below k (suc more) s window at below =
    seen_below k (seen window) _ λ e.
    let step = stepped s e.header e.contents in
    let next : StepBelow k step = step_below k s.number s.told e.header e.contents (chosen s.fields e.header) below.1 (chosen_below k s.fields e.header below.0) in
    field_below k (is_field step.0.part) _ λ is.
    here_below k (nat_lt at (size_of e)) _ _ (next.0 is) (find_below k more step.1 e.behind (at - size_of e) next.1)

member_below : (part : Part) (window : List ℕ) (at : ℕ) → MemberBelow (deep part) (member_at part window at)
unfolding member_at
member_below part window at =
    let k = deep part in
    seen_below k (seen window) _ λ e.
    let members = drop (lead part) e.contents in
    in_header k (nat_lt at e.size || nat_lt (at - e.size) (lead part)) _
    (find_below k (length members) (first_of part) members (at - e.size - lead part) (all_below k (fields_of part) (fields_lie part), omega arith))
  where
    in_header : (k : ℕ) (b : Bool) (o : Option Member) → MemberBelow k o → MemberBelow k (if b then None else o)
    in_header k true o below = tt
    in_header k false o below = below

-- ---- the path

abbrev Same : ℕ → ℕ → Type 0
Same n m = (part : Part) (window : List ℕ) (at : ℕ) (before : List ℕ) → deep part ≤ n → deep part ≤ m → path n part window at before ≡ path m part window at before

no_member : (k : ℕ) (o : Option Member) (before : List ℕ) (f : Member → List ℕ) → k ≤ 0 → MemberBelow k o → where_member o before f ≡ before
no_member k None before f none below = refl
no_member k (Some m) before f none below = absurd (omega (arith, below))

same_by : (n m k : ℕ) (o : Option Member) (before : List ℕ) → Same n m → k ≤ suc n → k ≤ suc m → MemberBelow k o
    → where_member o before (λ x. path n x.called.part x.window x.at (named before x.called)) ≡ where_member o before (λ x. path m x.called.part x.window x.at (named before x.called))
same_by n m k None before same h g below = refl
same_by n m k (Some x) before same h g below = same x.called.part x.window x.at (named before x.called) (omega (arith, below)) (omega (arith, below))

same : (n m : ℕ) → Same n m
unfolding path
same zero zero part window at before h g = refl
same zero (suc m) part window at before h g = sym (no_member (deep part) (member_at part window at) before _ h (member_below part window at))
same (suc n) zero part window at before h g = no_member (deep part) (member_at part window at) before _ g (member_below part window at)
same (suc n) (suc m) part window at before h g = same_by n m (deep part) (member_at part window at) before (same n m) h g (member_below part window at)

limit : (part : Part) → deep part ≤ deepest
limit parts.Whole = omega arith
limit parts.Serial = omega arith
limit parts.Critical = omega arith
limit parts.Unread = omega arith
limit _ = omega arith

-- a path of more members is the same
pub whole_path : (object : Part) (octets : List ℕ) (octet more : ℕ) → deepest ≤ more → path more object octets octet [] ≡ path deepest object octets octet []
whole_path object octets octet more enough = same more deepest object octets octet [] (omega (arith, enough, limit object)) (limit object)
