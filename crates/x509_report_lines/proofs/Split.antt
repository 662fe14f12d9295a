-- One more element behind others.
use Rattle.std.proofs.Common.{◌≡◌, Bor, List, ℕ, [], ◌∷◌, ◌++◌, Some, None, length, map, refl, ap, sym, ◌∙◌, subst, append-nil, append_assoc}
use Rattle.std.proofs.lemmas.List.{map-append}
use Rattle.x509_report_lines.specs.Elements.{IsSplit, size_of}

abbrev pub windows : List (Bor (List ℕ)) → List (List ℕ)
windows = map (λ w. w.now)

pub one_more : (bytes left after : List ℕ) (found next : List (Bor (List ℕ))) (w : Bor (List ℕ)) → next ≡ found ++ w ∷ [] → left ≡ w.now ++ after → size_of left ≡ Some (length w.now)
    → ((more : List (List ℕ)) (rest : List ℕ) → IsSplit left more rest → IsSplit bytes (windows found ++ more) rest)
    → (more : List (List ℕ)) (rest : List ℕ) → IsSplit after more rest → IsSplit bytes (windows next ++ more) rest
unfolding IsSplit
one_more bytes left after found next w e parts size before more rest p =
    subst (λ xs. IsSplit bytes xs rest) (sym (ap (λ xs. windows xs ++ more) e ∙ ap (λ xs. xs ++ more) (map-append (λ w. w.now) found (w ∷ [])) ∙ append_assoc (windows found) (w.now ∷ []) more))
    (before (w.now ∷ more) rest (after, parts, size, p))

pub no_more : (bytes left : List ℕ) (found : List (Bor (List ℕ))) → size_of left ≡ None
    → ((more : List (List ℕ)) (rest : List ℕ) → IsSplit left more rest → IsSplit bytes (windows found ++ more) rest) → IsSplit bytes (windows found) left
unfolding IsSplit
no_more bytes left found size before = subst (λ xs. IsSplit bytes xs left) (append-nil _) (before [] left (refl, size))
