-- What is written of a value: the tokens of a JSON value behind those that were written before.
use Rattle.std.specs.Prelude.{◌≡◌, ℕ, false, List, [], ◌∷◌, ◌++◌, OnOk, Result, Option, Some, None, decimal, map, fold}
use Rattle.json.specs.Token.{Token}
use Rattle.x509_report_lines.specs.Kept.{Kept, Becomes, kept}
use Rattle.json.specs.Json.{Json, null, boolean, number, string, array, object, Items, no_items, item, Members, no_members, member}

-- the tokens ts, and behind them those of a value; `written_tokens` says that this is ts ++ json_tokens j
abbrev mutual
  pub written : List Token → Json → List Token
  written ts null = ts ++ Token.null ∷ []
  written ts (boolean b) = ts ++ Token.boolean b ∷ []
  written ts (number n) = ts ++ Token.number n ∷ []
  written ts (string s) = ts ++ Token.string s ∷ []
  written ts (array js) = items_written (ts ++ Token.begin_array ∷ []) js
  written ts (object ms) = members_written (ts ++ Token.begin_object ∷ []) ms

  pub items_written : List Token → Items → List Token
  items_written ts no_items = ts ++ Token.end_array ∷ []
  items_written ts (item j js) = items_written (written ts j) js

  pub members_written : List Token → Members → List Token
  members_written ts no_members = ts ++ Token.end_object ∷ []
  members_written ts (member k j ms) = members_written (written (ts ++ Token.key k ∷ []) j) ms

-- a line as far as it is written
abbrev pub OnLine : Type 0
OnLine = Kept (List Token)

-- one token is added
abbrev pub Adds : OnLine → OnLine → Token → Type 0
Adds old new t = Becomes old new (λ ts. ts ++ t ∷ [])

-- the value is said
abbrev pub Says : OnLine → OnLine → Json → Type 0
Says old new j = Becomes old new (λ ts. written ts j)

-- the same of a call that tells whether memory was refused
abbrev pub SaysWhole : {A E : Type 0} → Result A E → OnLine → OnLine → Json → Type 0
SaysWhole r old new j = OnOk r ((old.stopped ≡ false) × (new ≡ kept (written old.so_far j)))

-- the value is said under a key
abbrev pub SaysUnder : OnLine → OnLine → List ℕ → Json → Type 0
SaysUnder old new k j = Becomes old new (λ ts. written (ts ++ Token.key k ∷ []) j)

-- the values are said one after another
abbrev pub each_written : {A : Type 0} → (A → Json) → List Token → List A → List Token
each_written say ts xs = fold (λ before x. written before (say x)) ts xs

abbrev pub SaysEach : {A : Type 0} → OnLine → OnLine → (A → Json) → List A → Type 0
SaysEach old new say xs = Becomes old new (λ ts. each_written say ts xs)

-- the same in the middle, with the values that are left of all
abbrev pub SaysRest : {A : Type 0} → OnLine → OnLine → (A → Json) → List A → List A → Type 0
SaysRest old new say left all = new.stopped ≡ false → (old.stopped ≡ false) × (each_written say new.so_far left ≡ each_written say old.so_far all)

-- of each thing some values, one after another
abbrev pub each_in_written : {A B : Type 0} → (B → Json) → (A → List B) → List Token → List A → List Token
each_in_written say values ts xs = fold (λ before x. each_written say before (values x)) ts xs

abbrev pub SaysEachIn : {A B : Type 0} → OnLine → OnLine → (B → Json) → (A → List B) → List A → Type 0
SaysEachIn old new say values xs = Becomes old new (λ ts. each_in_written say values ts xs)

abbrev pub optional : {A : Type 0} → (A → Json) → Option A → Json
optional say None = null
optional say (Some x) = say x

abbrev pub count : ℕ → Json
count n = number (decimal n)

abbrev pub items_of : List Json → Items
items_of [] = no_items
items_of (j ∷ js) = item j (items_of js)

abbrev pub list_of : {A : Type 0} → (A → Json) → List A → Json
list_of say xs = array (items_of (map say xs))

-- members in this order
abbrev pub members_of : List (List ℕ × Json) → Members
members_of [] = no_members
members_of (m ∷ ms) = member m.0 m.1 (members_of ms)

abbrev pub record_of : List (List ℕ × Json) → Json
record_of ms = object (members_of ms)

-- these members are said one after another
abbrev pub members_said : List Token → List (List ℕ × Json) → List Token
members_said ts [] = ts
members_said ts (m ∷ ms) = members_said (written (ts ++ Token.key m.0 ∷ []) m.1) ms

abbrev pub SaysMembers : OnLine → OnLine → List (List ℕ × Json) → Type 0
SaysMembers old new ms = Becomes old new (λ ts. members_said ts ms)
