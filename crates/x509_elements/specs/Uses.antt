-- The lenient rules that an object uses: where it stands plainly none, else those of its parts in the order of their octets.
use Rattle.std.specs.Prelude.{◌≡◌, ◌<◌, ℕ, zero, suc, ◌+◌, ◌-◌, ◌==◌, ◌&&◌, is_ok, Bool, true, false, List, [], ◌∷◌, ◌++◌, length, drop, Option, Some, None, if◌then◌else◌}
use Rattle.std.proofs.Common.{refl, arith}
use Rattle.x509_der.specs.declared.header.Header.{Header}
use Rattle.x509_der.specs.Primitives.{is_constructed, is_context}
use Rattle.x509_der.specs.Reading.{header_at, strict}
use Rattle.x509_elements.specs.declared.part.Part.{Part}
use Rattle.x509_elements.specs.declared.part.Part.TheVariants as parts
use Rattle.x509_elements.specs.declared.value.ExtensionValue.TheVariants as values
use Rattle.x509_elements.specs.Cursors.{Called, Standing, Step, first_of, stepped}
use Rattle.x509_elements.specs.Seen.{Seen, seen}
use Rattle.x509_elements.specs.Paths.{size_of}
use Rattle.x509_elements.specs.declared.judged.Judged.{Judged}
use Rattle.x509_elements.specs.declared.judged.Judged.TheVariants.{Absent, Plain, Lenient, Unjudged}
use Rattle.x509_elements.specs.declared.leniency.Leniency.{Leniency}
use Rattle.x509_elements.specs.declared.leniency.Leniency.TheVariants.{BytesBehind, WrapperByNumber, AnySerial, BasicTruth, UnreadableField, AttributeByNumbers, ChoiceByNumber, UnreadableName, TimestampsBehind, Inside}
use Rattle.x509_elements.specs.declared.leniency.LenientUse.{LenientUse}
use Rattle.x509_elements.specs.Judgements.{Around, is_leaf, is_name, judged, part_judged}

-- a rule, and how many octets stand before the place at which it is used
abbrev pub Use : Type 0
Use = LenientUse

abbrev pub uses : Leniency → ℕ → Use
uses rule at = record { at = at; rule = rule }

abbrev pub one_use : Leniency → ℕ → List Use
one_use rule at = uses rule at ∷ []

abbrev pub uses_by : Option Leniency → ℕ → List Use
uses_by None at = []
uses_by (Some rule) at = one_use rule at

-- ---- the rules of one element

-- the wrappers that close a structure, and the alternatives of a point's name: their readers take all that is left of it, whatever their
-- length says
abbrev pub is_wrapper : Part → Bool
is_wrapper parts.TaggedExtensions = true
is_wrapper parts.Attributes = true
is_wrapper parts.FullName = true
is_wrapper parts.RelativeToIssuer = true
is_wrapper _ = false

-- the octets in which its members stand
abbrev pub contents_of : Part → List ℕ → Seen → List ℕ
contents_of part place s = if is_wrapper part then drop s.size place else if is_leaf part then [] else s.contents

abbrev pub behind_of : Part → Seen → List ℕ
behind_of part s = if is_wrapper part then [] else s.behind

-- a constructed element of context class, which ends where its structure does
abbrev pub closes : Header → ℕ → Bool
closes h left = is_context h.class && (h.constructed && left == h.length)

abbrev pub unless : Bool → Leniency → Option Leniency
unless true rule = None
unless false rule = Some rule

-- the rule by which the element itself is taken, whatever stands in it
abbrev pub own_rule : Part → List ℕ → Seen → Option Leniency
own_rule parts.TaggedExtensions place s = unless (closes s.header (length place - s.size)) WrapperByNumber
own_rule parts.Attributes place s = unless (closes s.header (length place - s.size)) WrapperByNumber
own_rule parts.FullName place s = unless (closes s.header (length place - s.size)) ChoiceByNumber
own_rule parts.RelativeToIssuer place s = unless (closes s.header (length place - s.size)) ChoiceByNumber
own_rule parts.Attribute place s = unless (is_ok (header_at strict place)) AttributeByNumbers
own_rule parts.Values place s = unless (is_constructed 17 s.header) AttributeByNumbers
own_rule parts.Passwords place s = unless (is_constructed 17 s.header) AttributeByNumbers
own_rule parts.RequestedExtensions place s = unless (is_constructed 17 s.header) AttributeByNumbers
own_rule _ place s = None

-- the rule of what its reader takes by one, where none of its members uses any
abbrev pub part_rule : Part → Leniency
part_rule parts.Serial = AnySerial
part_rule parts.Critical = BasicTruth
part_rule parts.DistributionPointName = ChoiceByNumber
part_rule (parts.Value values.TimestampList) = TimestampsBehind
part_rule parts.Attribute = BytesBehind
part_rule _ = Inside

-- of a member of such a part
abbrev pub rule_of : Part → Called → Leniency
rule_of around c = if is_name around c.name then UnreadableName else part_rule c.part

abbrev pub or_own : Use → List Use → List Use
or_own own [] = own ∷ []
or_own own (u ∷ us) = u ∷ us

-- of a part that stands so, where these are used inside, and this is its own
abbrev pub told : Leniency → Judged → ℕ → List Use → List Use
told rule Absent at within = []
told rule Plain at within = []
told rule Lenient at within = or_own (uses rule at) within
told rule Unjudged at within = within

-- ---- the members of an element

-- what is read of a part at a place
abbrev pub Look : Type 0
Look = Called → Judged → ℕ → List ℕ → List Use

-- what is read from one member on: what may come, where it stands, and the octets that are left
abbrev pub More : Type 0
More = Standing → ℕ → List ℕ → List Use

-- By which rule a member is passed over that can't be read: one of a list ends it, and so does what is no field; a field is absent then.
-- Of a general name that is a Name the whole can't be read, and is told itself.
abbrev pub unread_by : Option ℕ → Part → Option Leniency
unread_by (Some number) part = Some BytesBehind
unread_by None parts.Unknown = Some BytesBehind
unread_by None parts.Unread = Some BytesBehind
unread_by None parts.Name = None
unread_by None _ = Some UnreadableField

abbrev pub unread_rule : Called → Option Leniency
unread_rule c = unread_by c.number c.part

abbrev pub member_judged : Look → More → Step → ℕ → List ℕ → Seen → Judged → List Use
member_judged look more step at place s Absent = uses_by (unread_rule step.0) at
member_judged look more step at place s j = look step.0 j at place ++ more step.1 (at + size_of s) (behind_of step.0.part s)

abbrev pub member_stepped : Look → More → Around → ℕ → List ℕ → Seen → Step → List Use
member_stepped look more around at place s step = member_judged look more step at place s (judged step.0 around place)

abbrev pub member_seen : Look → More → Standing → Around → ℕ → List ℕ → Option Seen → List Use
member_seen look more standing around at place None = one_use BytesBehind at
member_seen look more standing around at place (Some s) = member_stepped look more around at place s (stepped standing s.header s.contents)

-- of so many members at most
unfoldable pub members : Look → ℕ → Standing → Around → ℕ → List ℕ → List Use
members look zero standing around at place = []
members look (suc n) standing around at [] = []
members look (suc n) standing around at (b ∷ bs) = member_seen look (λ next. members look n next around) standing around at (b ∷ bs) (seen (b ∷ bs))

-- ---- an element

abbrev pub inside_seen : Look → Part → ℕ → List ℕ → Option Seen → List Use
inside_seen look part at place None = []
inside_seen look part at place (Some s) =
    let contents = contents_of part place s in
    uses_by (own_rule part place s) at ++ members look (length contents) (first_of part) (record { part = part; octets = place }) (at + s.size) contents

-- the rules that are used inside the element at the front of a place, as deep as so many parts stand in one another
unfoldable pub inside : ℕ → Part → ℕ → List ℕ → List Use
inside zero part at place = []
inside (suc n) part at place = inside_seen (λ c j a w. told (rule_of part c) j a (inside n c.part a w)) part at place (seen place)

-- what is looked at in an element that may be so deep
abbrev pub within : ℕ → Part → Look
within n part = λ c j a w. told (rule_of part c) j a (inside n c.part a w)

-- the rules that are used among the members of such an element, which stand behind so many octets
abbrev pub among : ℕ → Part → List ℕ → ℕ → List ℕ → List Use
among n part place at contents = members (within n part) (length contents) (first_of part) (record { part = part; octets = place }) at contents

abbrev pub deepest : ℕ
deepest = 32

-- of the object at the front of the octets
abbrev pub leniencies : Part → List ℕ → List Use
leniencies object octets = told (part_rule object) (part_judged object octets octets) 0 (inside deepest object 0 octets)

-- ---- what a strict reader takes uses none, and what it refuses that is taken at all uses some

none_of : (rule : Leniency) (j : Judged) (within : List Use) → j ≡ Plain → told rule j 0 within ≡ []
none_of rule Plain within is = refl
none_of rule Absent within is = refl
none_of rule Lenient within is = absurd cc
none_of rule Unjudged within is = absurd cc

one_at_least : (own : Use) (us : List Use) → 0 < length (or_own own us)
one_at_least own [] = omega arith
one_at_least own (u ∷ us) = omega arith

some_of : (rule : Leniency) (j : Judged) (within : List Use) → j ≡ Lenient → 0 < length (told rule j 0 within)
some_of rule Lenient within is = one_at_least (uses rule 0) within
some_of rule Absent within is = absurd cc
some_of rule Plain within is = absurd cc
some_of rule Unjudged within is = absurd cc

pub none_plainly : (object : Part) (octets : List ℕ) → part_judged object octets octets ≡ Plain → leniencies object octets ≡ []
none_plainly object octets plain = none_of (part_rule object) (part_judged object octets octets) (inside deepest object 0 octets) plain

pub some_leniently : (object : Part) (octets : List ℕ) → part_judged object octets octets ≡ Lenient → 0 < length (leniencies object octets)
some_leniently object octets lenient = some_of (part_rule object) (part_judged object octets octets) (inside deepest object 0 octets) lenient
