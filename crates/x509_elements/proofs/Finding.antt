-- One member after another, up to the one in which the octet lies.
use Rattle.std.proofs.Common.{◌≡◌, ℕ, suc, zero, ◌+◌, ◌-◌, ◌||◌, nat_lt, Bool, true, false, List, Option, Some, None, drop, if◌then◌else◌, sym, ap, ◌∙◌, refl}
use Rattle.x509_der.specs.declared.header.Header.{Header}
use Rattle.x509_elements.specs.Cursors.{Standing, Step, first_of, step_by, stepped}
use Rattle.x509_elements.specs.Fields.{Chosen, chosen}
use Rattle.x509_elements.specs.declared.part.Part.{Part}
use Rattle.x509_elements.specs.Paths.{Member, find_in, find_member, is_field, lead, member_at, named, path, size_of, where_field, where_member, where_seen}
use Rattle.x509_elements.specs.Seen.{Seen, seen}

if_true : {A : Type 0} (b : Bool) (x y : A) → b ≡ true → (if b then x else y) ≡ x
if_true true x y is = refl
if_true false x y is = absurd cc

or_left : (a b : Bool) → a ≡ true → (a || b) ≡ true
or_left true b is = refl
or_left false b is = absurd cc

or_right : (a b : Bool) → b ≡ true → (a || b) ≡ true
or_right true b is = refl
or_right false b is = is

or_neither : (a b : Bool) → a ≡ false → b ≡ false → (a || b) ≡ false
or_neither true b is none = absurd cc
or_neither false b is none = none

if_false : {A : Type 0} (b : Bool) (x y : A) → b ≡ false → (if b then x else y) ≡ y
if_false true x y is = absurd cc
if_false false x y is = refl

-- one member more stands before what comes next

number_by : (n : ℕ) (before : Part) (h : Header) (contents : List ℕ) (o : Option Chosen) → (step_by n before h contents o).1.number ≡ n + 1
number_by n before h contents (Some c) = refl
number_by n before h contents None = refl

pub number_stepped : (s : Standing) (h : Header) (contents : List ℕ) → (stepped s h contents).1.number ≡ s.number + 1
number_stepped s h contents = number_by s.number s.told h contents (chosen s.fields h)

-- ---- the member, of those that are left

abbrev here : (more : ℕ) (window : List ℕ) (at : ℕ) → Seen → Step → Option Member
here more window at s step =
    if nat_lt at (size_of s) then Some (record { called = step.0; window = window; at = at }) else find_member more step.1 s.behind (at - size_of s)

abbrev stepping : (more : ℕ) (standing : Standing) (window : List ℕ) (at : ℕ) → Seen → Option Member
stepping more standing window at s = where_field (stepped standing s.header s.contents) (here more window at s)

seen_step : (more : ℕ) (standing : Standing) (window : List ℕ) (at : ℕ) (s : Seen) → Some s ≡ seen window → find_member (suc more) standing window at ≡ stepping more standing window at s
unfolding find_member
seen_step more standing window at s is = ap (λ found. where_seen found (stepping more standing window at)) (sym is)

pub find_unseen : (more : ℕ) (standing : Standing) (window : List ℕ) (at : ℕ) → None ≡ seen window → find_member (suc more) standing window at ≡ None
unfolding find_member
find_unseen more standing window at is = ap (λ found. where_seen found (stepping more standing window at)) (sym is)

pub find_unknown : (more : ℕ) (standing : Standing) (window : List ℕ) (at : ℕ) (s : Seen) (step : Step) → Some s ≡ seen window → step ≡ stepped standing s.header s.contents
    → is_field step.0.part ≡ false → find_member (suc more) standing window at ≡ None
find_unknown more standing window at s step is stands none =
    seen_step more standing window at s is
    ∙ ap (λ taken. where_field taken (here more window at s)) (sym stands)
    ∙ if_false (is_field step.0.part) (here more window at s step) None none

fielded : (more : ℕ) (standing : Standing) (window : List ℕ) (at : ℕ) (s : Seen) (step : Step) → Some s ≡ seen window → step ≡ stepped standing s.header s.contents
    → is_field step.0.part ≡ true → find_member (suc more) standing window at ≡ here more window at s step
fielded more standing window at s step is stands some =
    seen_step more standing window at s is
    ∙ ap (λ taken. where_field taken (here more window at s)) (sym stands)
    ∙ if_true (is_field step.0.part) (here more window at s step) None some

pub find_here : (more : ℕ) (standing : Standing) (window : List ℕ) (at : ℕ) (s : Seen) (step : Step) → Some s ≡ seen window → step ≡ stepped standing s.header s.contents
    → is_field step.0.part ≡ true → nat_lt at (size_of s) ≡ true
    → find_member (suc more) standing window at ≡ Some (record { called = step.0; window = window; at = at })
find_here more standing window at s step is stands some within =
    fielded more standing window at s step is stands some
    ∙ if_true (nat_lt at (size_of s)) _ (find_member more step.1 s.behind (at - size_of s)) within

pub find_next : (more : ℕ) (standing : Standing) (window : List ℕ) (at : ℕ) (s : Seen) (step : Step) → Some s ≡ seen window → step ≡ stepped standing s.header s.contents
    → is_field step.0.part ≡ true → nat_lt at (size_of s) ≡ false
    → find_member (suc more) standing window at ≡ find_member more step.1 s.behind (at - size_of s)
find_next more standing window at s step is stands some beyond =
    fielded more standing window at s step is stands some
    ∙ if_false (nat_lt at (size_of s)) (Some (record { called = step.0; window = window; at = at })) _ beyond

pub find_none : (standing : Standing) (window : List ℕ) (at : ℕ) → find_member zero standing window at ≡ None
unfolding find_member
find_none standing window at = refl

-- ---- the member of an element

abbrev inside : Part → ℕ → Seen → Option Member
inside part at s =
    if nat_lt at s.size || nat_lt (at - s.size) (lead part) then None
    else find_in (first_of part) (drop (lead part) s.contents) (at - s.size - lead part)

pub member_unseen : (part : Part) (window : List ℕ) (at : ℕ) → None ≡ seen window → member_at part window at ≡ None
unfolding member_at
member_unseen part window at is = ap (λ found. where_seen found (inside part at)) (sym is)

member_before : (part : Part) (window : List ℕ) (at : ℕ) (s : Seen) → Some s ≡ seen window → (nat_lt at s.size || nat_lt (at - s.size) (lead part)) ≡ true
    → member_at part window at ≡ None
unfolding member_at
member_before part window at s is before =
    ap (λ found. where_seen found (inside part at)) (sym is)
    ∙ if_true (nat_lt at s.size || nat_lt (at - s.size) (lead part)) None (find_in (first_of part) (drop (lead part) s.contents) (at - s.size - lead part)) before

pub member_in_header : (part : Part) (window : List ℕ) (at : ℕ) (s : Seen) → Some s ≡ seen window → nat_lt at s.size ≡ true → member_at part window at ≡ None
member_in_header part window at s is before = member_before part window at s is (or_left (nat_lt at s.size) (nat_lt (at - s.size) (lead part)) before)

pub member_in_lead : (part : Part) (window : List ℕ) (at : ℕ) (s : Seen) → Some s ≡ seen window → nat_lt (at - s.size) (lead part) ≡ true → member_at part window at ≡ None
member_in_lead part window at s is before = member_before part window at s is (or_right (nat_lt at s.size) (nat_lt (at - s.size) (lead part)) before)

pub member_inside : (part : Part) (window : List ℕ) (at : ℕ) (s : Seen) → Some s ≡ seen window → nat_lt at s.size ≡ false → nat_lt (at - s.size) (lead part) ≡ false
    → member_at part window at ≡ find_in (first_of part) (drop (lead part) s.contents) (at - s.size - lead part)
unfolding member_at
member_inside part window at s is header behind =
    ap (λ found. where_seen found (inside part at)) (sym is)
    ∙ if_false (nat_lt at s.size || nat_lt (at - s.size) (lead part)) None (find_in (first_of part) (drop (lead part) s.contents) (at - s.size - lead part))
    (or_neither (nat_lt at s.size) (nat_lt (at - s.size) (lead part)) header behind)

-- ---- the path

pub path_ends : (part : Part) (window : List ℕ) (at : ℕ) (before : List ℕ) → path zero part window at before ≡ before
unfolding path
path_ends part window at before = refl

pub path_stays : (more : ℕ) (part : Part) (window : List ℕ) (at : ℕ) (before : List ℕ) → None ≡ member_at part window at → path (suc more) part window at before ≡ before
unfolding path
path_stays more part window at before is = ap (λ found. where_member found before (λ m. path more m.called.part m.window m.at (named before m.called))) (sym is)

pub path_leads : (more : ℕ) (part : Part) (window : List ℕ) (at : ℕ) (before : List ℕ) (m : Member) → Some m ≡ member_at part window at
    → path (suc more) part window at before ≡ path more m.called.part m.window m.at (named before m.called)
unfolding path
path_leads more part window at before m is = ap (λ found. where_member found before (λ m. path more m.called.part m.window m.at (named before m.called))) (sym is)
