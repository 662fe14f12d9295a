-- The only member of a list that passes a test.
use Rattle.std.proofs.Common.{◌≡◌, ℕ, ◌+◌, ◌<◌, ◌≤◌, Bool, true, List, [], ◌∷◌, ◌++◌, Option, Some, None, Ok, Err, filter, length, get_or, take, drop, refl, sym, ap, ◌∙◌, is_some, append_assoc}
use Rattle.std.proofs.lemmas.List.{take-append-drop, take_all}
use Rattle.std.proofs.lemmas.List.Elements.{filter-append, filter_more}
use Rattle.std.specs.Borrow.{Bor}
use Rattle.std.specs.Option.{option_to_list, option_copied}
use Rattle.x509_extensions.specs.declared.extension.X509Extension.{X509Extension}
use Rattle.x509_fields.specs.declared.error.X509Error.TheVariants.{DuplicateExtensions}
use Rattle.x509_extensions.specs.Lookups.{only}

only_of_option : (o : Option X509Extension) → only (option_to_list o) ≡ Ok o
unfolding only
only_of_option None = refl
only_of_option (Some x) = refl

only_of_two : (o : Option (Bor X509Extension)) (x : X509Extension) (xs : List X509Extension) → is_some o ≡ true → only (option_to_list (option_copied o) ++ x ∷ xs) ≡ Err DuplicateExtensions
unfolding only
only_of_two None x xs h = cc
only_of_two (Some y) x xs h = refl

-- the whole list was looked at
pub only-all : (p : X509Extension → Bool) (xs : List X509Extension) (k : ℕ) (o : Option (Bor X509Extension)) → length xs ≤ k → option_to_list (option_copied o) ≡ filter p (take k xs) → only (filter p xs) ≡ Ok (option_copied o)
only-all p xs k o h e = ap (λ ys. only (filter p ys)) (sym (take_all k xs h)) ∙ (ap only (sym e) ∙ only_of_option (option_copied o))

-- a second one was found
pub only-twice : (p : X509Extension → Bool) (xs : List X509Extension) (k : ℕ) (d : X509Extension) (o : Option (Bor X509Extension)) → k < length xs → is_some o ≡ true → option_to_list (option_copied o) ≡ filter p (take k xs) → p (get_or xs k d) ≡ true → only (filter p xs) ≡ Err DuplicateExtensions
only-twice p xs k d o h s e t =
    ap (λ ys. only (filter p ys)) (sym (take-append-drop (k + 1) xs))
    ∙ (ap only (filter-append p (take (k + 1) xs) (drop (k + 1) xs)
    ∙ (ap (λ ys. ys ++ filter p (drop (k + 1) xs)) (filter_more p xs k d h ∙ rw (t, ← e) refl)
    ∙ append_assoc (option_to_list (option_copied o)) (get_or xs k d ∷ []) (filter p (drop (k + 1) xs))))
    ∙ only_of_two o (get_or xs k d) (filter p (drop (k + 1) xs)) s)

pub ruleset only_lemmas = (only-all, only-twice)
