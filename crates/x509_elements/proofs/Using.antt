-- One member after another, of one element inside another.
use Rattle.std.proofs.Common.{◌≡◌, ℕ, suc, zero, ◌+◌, ◌<◌, ◌≤◌, ◌==◌, Bool, true, false, if◌then◌else◌, List, [], ◌∷◌, ◌++◌, length, Option, Some, None, sym, ap, ◌∙◌, refl, arith, append_assoc, append-nil}
use Rattle.std.proofs.lemmas.Bool.Decides.{nat_tests}
use Rattle.x509_der.proofs.Marked.{nothing}
use Rattle.x509_elements.specs.declared.part.Part.{Part}
use Rattle.x509_der.specs.declared.header.Header.{Header}
use Rattle.x509_elements.specs.Cursors.{Standing, Step, first_of, step_by, stepped}
use Rattle.x509_elements.specs.Fields.{Chosen, chosen}
use Rattle.x509_elements.specs.Seen.{Seen, seen}
use Rattle.x509_elements.specs.Paths.{size_of}
use Rattle.x509_elements.specs.declared.judged.Judged.{Judged}
use Rattle.x509_elements.specs.declared.judged.Judged.TheVariants.{Absent, Plain, Lenient, Unjudged}
use Rattle.x509_elements.specs.Judgements.{Around, is_absent, judged}
use Rattle.x509_elements.specs.declared.leniency.Leniency.TheVariants.{BytesBehind}
use Rattle.x509_elements.specs.Uses.{Look, Use, among, behind_of, contents_of, inside, inside_seen, is_wrapper, member_judged, member_seen, member_stepped, members, one_use, own_rule, uses_by, told, unread_rule, within}

pub inside_deepest : (part : Part) (at : ℕ) (place : List ℕ) → inside zero part at place ≡ []
unfolding inside
inside_deepest part at place = refl

pub inside_unseen : (n : ℕ) (part : Part) (at : ℕ) (place : List ℕ) → None ≡ seen place → inside (suc n) part at place ≡ []
unfolding inside
inside_unseen n part at place is = ap (inside_seen (within n part) part at place) (sym is)

pub inside_seen_so : (n : ℕ) (part : Part) (at : ℕ) (place : List ℕ) (s : Seen) → Some s ≡ seen place
    → inside (suc n) part at place ≡ uses_by (own_rule part place s) at ++ members (within n part) (length (contents_of part place s)) (first_of part) (record { part = part; octets = place }) (at + s.size) (contents_of part place s)
unfolding inside
inside_seen_so n part at place s is = ap (inside_seen (within n part) part at place) (sym is)

-- ---- members

pub no_members : (look : Look) (standing : Standing) (around : Around) (at : ℕ) (place : List ℕ) → members look zero standing around at place ≡ []
unfolding members
no_members look standing around at place = refl

pub none_left : (look : Look) (n : ℕ) (standing : Standing) (around : Around) (at : ℕ) → members look n standing around at [] ≡ []
unfolding members
none_left look zero standing around at = refl
none_left look (suc n) standing around at = refl

abbrev more : Look → ℕ → Around → Standing → ℕ → List ℕ → List Use
more look n around = λ next. members look n next around

member : (look : Look) (n : ℕ) (standing : Standing) (around : Around) (at : ℕ) (place : List ℕ) (found : Option Seen) → 0 < length place → found ≡ seen place
    → members look (suc n) standing around at place ≡ member_seen look (more look n around) standing around at place found
unfolding members
member look n standing around at [] found some is = absurd (omega (arith, some))
member look n standing around at (b ∷ bs) found some is = ap (member_seen look (more look n around) standing around at (b ∷ bs)) (sym is)

pub member_unseen : (look : Look) (n : ℕ) (standing : Standing) (around : Around) (at : ℕ) (place : List ℕ) → 0 < length place → None ≡ seen place
    → members look (suc n) standing around at place ≡ one_use BytesBehind at
member_unseen look n standing around at place some is = member look n standing around at place None some is

judgement : (look : Look) (n : ℕ) (standing : Standing) (around : Around) (at : ℕ) (place : List ℕ) (s : Seen) (step : Step) (j : Judged) → 0 < length place → Some s ≡ seen place
    → step ≡ stepped standing s.header s.contents → j ≡ judged step.0 around place
    → members look (suc n) standing around at place ≡ member_judged look (more look n around) step at place s j
judgement look n standing around at place s step j some is goes told =
    member look n standing around at place (Some s) some is
    ∙ ap (member_stepped look (more look n around) around at place s) (sym goes)
    ∙ ap (member_judged look (more look n around) step at place s) (sym told)

pub member_absent : (look : Look) (n : ℕ) (standing : Standing) (around : Around) (at : ℕ) (place : List ℕ) (s : Seen) (step : Step) (j : Judged) → 0 < length place → Some s ≡ seen place
    → step ≡ stepped standing s.header s.contents → j ≡ judged step.0 around place → j ≡ Absent
    → members look (suc n) standing around at place ≡ uses_by (unread_rule step.0) at
member_absent look n standing around at place s step j some is goes told absent =
    judgement look n standing around at place s step Absent some is goes (sym absent ∙ told)

there : (look : Look) (rest : Standing → ℕ → List ℕ → List Use) (step : Step) (at : ℕ) (place : List ℕ) (s : Seen) (j : Judged) → (j ≡ Absent → ⊥)
    → member_judged look rest step at place s j ≡ look step.0 j at place ++ rest step.1 (at + size_of s) (behind_of step.0.part s)
there look rest step at place s Absent stands = absurd (stands refl)
there look rest step at place s Plain stands = refl
there look rest step at place s Lenient stands = refl
there look rest step at place s Unjudged stands = refl

pub member_there : (look : Look) (n : ℕ) (standing : Standing) (around : Around) (at : ℕ) (place : List ℕ) (s : Seen) (step : Step) (j : Judged) → 0 < length place → Some s ≡ seen place
    → step ≡ stepped standing s.header s.contents → j ≡ judged step.0 around place → (j ≡ Absent → ⊥)
    → members look (suc n) standing around at place ≡ look step.0 j at place ++ members look n step.1 around (at + size_of s) (behind_of step.0.part s)
member_there look n standing around at place s step j some is goes told stands =
    judgement look n standing around at place s step j some is goes told ∙ there look (more look n around) step at place s j stands

-- ---- what was found, and what is used from there on

pub nothing_more : (found more : List Use) → more ≡ [] → found ≡ found ++ more
nothing_more found more none = sym (ap (λ us. found ++ us) none ∙ append-nil found)

pub begins : (before found own more all : List Use) → found ≡ before ++ own → all ≡ own ++ more → found ++ more ≡ before ++ all
begins before found own more all grew is = ap (λ us. us ++ more) grew ∙ append_assoc before own more ∙ ap (λ us. before ++ us) (sym is)

-- so the members begin: none was looked at
pub begun : (n : ℕ) (part : Part) (at : ℕ) (place : List ℕ) (s : Seen) (members : List ℕ) → Some s ≡ seen place → members ≡ contents_of part place s
    → inside (suc n) part at place ≡ uses_by (own_rule part place s) at ++ among n part place (at + s.size) members
begun n part at place s members is holds =
    inside_seen_so n part at place s is ∙ ap (λ octets. uses_by (own_rule part place s) at ++ among n part place (at + s.size) octets) (sym holds)

pub both_added : (before found last own more all : List Use) → found ≡ before ++ own → all ≡ own ++ more → last ≡ found ++ more → last ≡ before ++ all
both_added before found last own more all grew is after = after ∙ begins before found own more all grew is

pub ended : (found more all : List Use) → found ++ more ≡ all → more ≡ [] → found ≡ all
ended found more all is none = nothing_more found more none ∙ is

pub last_added : (before found new more all : List Use) → found ≡ before ++ new → more ≡ new → before ++ more ≡ all → found ≡ all
last_added before found new more all grew last is = grew ∙ ap (λ us. before ++ us) (sym last) ∙ is

pub goes_on : (before found new more rest all : List Use) → found ≡ before ++ new → more ≡ new ++ rest → before ++ more ≡ all → found ++ rest ≡ all
goes_on before found new more rest all grew is total = begins before found new rest more grew is ∙ total

-- ---- sizes

behind_by : (wrapper : Bool) (s : Seen) → length (if wrapper then [] else s.behind) ≤ length s.behind
behind_by true s = omega arith
behind_by false s = omega arith

pub behind_fits : (part : Part) (s : Seen) → length (behind_of part s) ≤ length s.behind
behind_fits part s = behind_by (is_wrapper part) s

pub no_octets : (xs : List ℕ) → true ≡ (length xs == 0) → xs ≡ []
no_octets xs none = nothing xs (sym none)

pub some_octets : (xs : List ℕ) → false ≡ (length xs == 0) → 0 < length xs
some_octets xs some = grind (arith, nat_tests, some)

pub absent_is : (j : Judged) → true ≡ is_absent j → j ≡ Absent
absent_is Absent is = refl
absent_is Plain is = absurd cc
absent_is Lenient is = absurd cc
absent_is Unjudged is = absurd cc

pub present_is : (j : Judged) → false ≡ is_absent j → j ≡ Absent → ⊥
present_is Absent is = absurd cc
present_is Plain is = λ h. absurd cc
present_is Lenient is = λ h. absurd cc
present_is Unjudged is = λ h. absurd cc

-- one member more stands before the next
counted_by : (n : ℕ) (before : Part) (h : Header) (contents : List ℕ) (chose : Option Chosen) → (step_by n before h contents chose).1.number ≡ n + 1
counted_by n before h contents (Some c) = refl
counted_by n before h contents None = refl

pub counted : (standing : Standing) (s : Seen) → (stepped standing s.header s.contents).1.number ≡ standing.number + 1
counted standing s = counted_by standing.number standing.told s.header s.contents (chosen standing.fields s.header)
