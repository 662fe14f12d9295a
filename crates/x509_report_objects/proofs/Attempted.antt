-- Lists that are said in parts.
use Rattle.std.proofs.Common.{◌≡◌, ◌++◌, ◌∷◌, [], List, map, refl, ap, ◌∙◌}
use Rattle.json.specs.Json.{Json}
use Rattle.json.specs.Token.{Token}
use Rattle.x509_report_lines.specs.Says.{each_written, items_of, items_written, written}

pub each_appended : {A : Type 0} (say : A → Json) (ts : List Token) (xs ys : List A) → each_written say ts (xs ++ ys) ≡ each_written say (each_written say ts xs) ys
each_appended say ts [] ys = refl
each_appended say ts (x ∷ xs) ys = each_appended say (written ts (say x)) xs ys

pub each_of_three : {A : Type 0} (say : A → Json) (ts : List Token) (xs ys zs : List A)
    → each_written say ts (xs ++ ys ++ zs) ≡ each_written say (each_written say (each_written say ts xs) ys) zs
each_of_three say ts xs ys zs = each_appended say ts (xs ++ ys) zs ∙ ap (λ t. each_written say t zs) (each_appended say ts xs ys)

-- ---- things of one kind, and of another behind them

each_mapped : {A : Type 0} (say : A → Json) (ts : List Token) (xs : List A) → each_written (λ j. j) ts (map say xs) ≡ each_written say ts xs
each_mapped say ts [] = refl
each_mapped say ts (x ∷ xs) = each_mapped say (written ts (say x)) xs

pub each_of_two : {A : Type 0} (say also : A → Json) (ts : List Token) (xs ys : List A)
    → each_written (λ j. j) ts (map say xs ++ map also ys) ≡ each_written also (each_written say ts xs) ys
each_of_two say also ts xs ys =
    each_appended (λ j. j) ts (map say xs) (map also ys)
    ∙ ap (λ t. each_written (λ j. j) t (map also ys)) (each_mapped say ts xs)
    ∙ each_mapped also (each_written say ts xs) ys

pub items_listed : (ts : List Token) (js : List Json) → items_written ts (items_of js) ≡ each_written (λ j. j) ts js ++ Token.end_array ∷ []
items_listed ts [] = refl
items_listed ts (j ∷ js) = items_listed (written ts j) js
