-- What `written` is.
use Rattle.std.proofs.Common.{◌≡◌, ◌++◌, ◌∷◌, [], List, Result, Ok, Err, OnOk, false, refl, ap, sym, ◌∙◌, append_assoc, map, flat_map}
use Rattle.std.proofs.lemmas.List.Sums.{fold-append}
use Rattle.json.specs.Token.{Token}
use Rattle.json.specs.Json.{Json, null, boolean, number, string, array, object, Items, no_items, item, Members, no_members, member}
use Rattle.json.specs.Tree.{json_tokens, items_tokens, members_tokens}
use Rattle.x509_report_lines.specs.Kept.{kept}
use Rattle.x509_report_lines.specs.Says.{OnLine, Says, SaysWhole, written, items_written, members_written, items_of, each_written, each_in_written}

-- the tokens of the value, behind those before
mutual
  pub written_tokens : (ts : List Token) (j : Json) → written ts j ≡ ts ++ json_tokens j
  written_tokens ts null = refl
  written_tokens ts (boolean b) = refl
  written_tokens ts (number n) = refl
  written_tokens ts (string s) = refl
  written_tokens ts (array js) = items_written_tokens (ts ++ Token.begin_array ∷ []) js ∙ append_assoc ts (Token.begin_array ∷ []) (items_tokens js)
  written_tokens ts (object ms) = members_written_tokens (ts ++ Token.begin_object ∷ []) ms ∙ append_assoc ts (Token.begin_object ∷ []) (members_tokens ms)

  items_written_tokens : (ts : List Token) (js : Items) → items_written ts js ≡ ts ++ items_tokens js
  items_written_tokens ts no_items = refl
  items_written_tokens ts (item j js) = items_written_tokens (written ts j) js ∙ ap (λ t. t ++ items_tokens js) (written_tokens ts j) ∙ append_assoc ts (json_tokens j) (items_tokens js)

  members_written_tokens : (ts : List Token) (ms : Members) → members_written ts ms ≡ ts ++ members_tokens ms
  members_written_tokens ts no_members = refl
  members_written_tokens ts (member k j ms) =
      members_written_tokens (written (ts ++ Token.key k ∷ []) j) ms
      ∙ ap (λ t. t ++ members_tokens ms) (written_tokens (ts ++ Token.key k ∷ []) j)
      ∙ append_assoc (ts ++ Token.key k ∷ []) (json_tokens j) (members_tokens ms)
      ∙ append_assoc ts (Token.key k ∷ []) (json_tokens j ++ members_tokens ms)

-- a list is said by its brackets and its items
pub list_written : {A : Type 0} (say : A → Json) → (ts : List Token) (xs : List A) → items_written ts (items_of (map say xs)) ≡ each_written say ts xs ++ Token.end_array ∷ []
list_written say ts [] = refl
list_written say ts (x ∷ xs) = list_written say (written ts (say x)) xs

-- of each thing some values, one after another, are the values of all
pub each_in_flat : {A B : Type 0} (say : B → Json) (values : A → List B) (ts : List Token) (xs : List A) → each_in_written say values ts xs ≡ each_written say ts (flat_map values xs)
each_in_flat say values ts [] = refl
each_in_flat say values ts (x ∷ xs) =
    each_in_flat say values (each_written say ts (values x)) xs
    ∙ sym (fold-append (λ before y. written before (say y)) ts (values x) (flat_map values xs))

-- the tokens of a value that stands alone
pub written_first : (j : Json) → written [] j ≡ json_tokens j
written_first j = written_tokens [] j

-- a value that is said, of a line that didn't stop
pub said_whole : {A E : Type 0} (r : Result A E) (old new : OnLine) (j : Json) → Says old new j → OnOk r (new.stopped ≡ false) → SaysWhole r old new j
said_whole (Ok x) old new j says whole =
    let said = says whole in
    (said.0, ap (λ stopped. record { so_far = new.so_far; stopped = stopped }) whole ∙ ap kept said.1)
said_whole (Err e) old new j says whole = whole
