-- One more name behind others.
use Rattle.std.proofs.Common.{◌≡◌, ℕ, suc, ◌+◌, ◌/◌, ◌%◌, ◌^◌, ◌<◌, ◌==◌, Bool, true, false, List, [], ◌∷◌, ◌++◌, length, get_or, take, map, codes, if◌then◌else◌, ap, sym, subst, refl, ◌∙◌, arith}
use Rattle.std.specs.List.{join_by}
use Rattle.std.proofs.Math.Nat.{div-one, div-div-eq-div-mul, pow-suc, mul_comm}
use Rattle.std.proofs.lemmas.List.{append-nil, map-append, flat_map_more, take_more, length-map, length-take-le}
use Rattle.std.proofs.lemmas.Bool.Decides.{nat_tests}
use Rattle.std.proofs.lemmas.Grind.{put_two}
use Rattle.std.specs.Fmt.{HasWritten}
use Rattle.std.specs.declared.fmt.Formatter.{Formatter}
use Rattle.x509_fields.specs.Texts.{set_names, flags_text}

-- what stands before one more name
abbrev pub separator_behind : List (List ℕ) → List ℕ
separator_behind [] = []
separator_behind (name ∷ names) = codes ", "

abbrev pub one_if : ℕ → List ℕ → List (List ℕ)
one_if n name = if n % 2 == 1 then name ∷ [] else []

pub half_more : (n k : ℕ) → n / 2 / 2 ^ k ≡ n / 2 ^ suc k
half_more n k = div-div-eq-div-mul n 2 (2 ^ k) ∙ ap (λ m. n / m) (mul_comm 2 (2 ^ k) ∙ sym (pow-suc 2 k))

set_names-append : (names : List (List ℕ)) (name : List ℕ) (flags : ℕ) → set_names (names ++ name ∷ []) flags ≡ set_names names flags ++ one_if (flags / 2 ^ length names) name
unfolding set_names
set_names-append [] name flags = sym (ap (λ n. one_if n name) (div-one flags))
set_names-append (x ∷ xs) name flags =
    go (flags % 2 == 1) (set_names (xs ++ name ∷ []) (flags / 2)) (set_names xs (flags / 2)) (one_if (flags / 2 ^ suc (length xs)) name)
    (set_names-append xs name (flags / 2) ∙ ap (λ n. set_names xs (flags / 2) ++ one_if n name) (half_more flags (length xs)))
  where
    go : (b : Bool) (more some one : List (List ℕ)) → more ≡ some ++ one → (if b then x ∷ more else more) ≡ (if b then x ∷ some else some) ++ one
    go true more some one e = ap (λ ys. x ∷ ys) e
    go false more some one e = e

text-append : (xs : List (List ℕ)) (name : List ℕ) → join_by (λ n. n) (codes ", ") (xs ++ name ∷ []) ≡ join_by (λ n. n) (codes ", ") xs ++ (separator_behind xs ++ name)
text-append [] name = append-nil name
text-append (x ∷ xs) name = sym (flat_map_more (λ n. codes ", " ++ n) x xs name)

separator-append : (xs : List (List ℕ)) (name : List ℕ) → separator_behind (xs ++ name ∷ []) ≡ codes ", "
separator-append [] name = refl
separator-append (x ∷ xs) name = refl

module _ {X : Type 0} (f : X → List ℕ) (xs : List X) (i : ℕ) (d : X) (flags rest : ℕ) where
  -- the names of the bits up to this one
  set_names-more : i < length xs → rest ≡ flags / 2 ^ i → set_names (map f (take (i + 1) xs)) flags ≡ set_names (map f (take i xs)) flags ++ one_if rest (f (get_or xs i d))
  set_names-more below shifted =
      let parts : map f (take (i + 1) xs) ≡ map f (take i xs) ++ f (get_or xs i d) ∷ [] = ap (map f) (take_more xs i d below) ∙ map-append f (take i xs) (get_or xs i d ∷ []) in
      let count : length (map f (take i xs)) ≡ i = length-map (take i xs) f ∙ length-take-le i xs (omega arith) in
      ap (λ ys. set_names ys flags) parts
      ∙ set_names-append (map f (take i xs)) (f (get_or xs i d)) flags
      ∙ ap (λ n. set_names (map f (take i xs)) flags ++ one_if (flags / 2 ^ n) (f (get_or xs i d))) count
      ∙ ap (λ n. set_names (map f (take i xs)) flags ++ one_if n (f (get_or xs i d))) (sym shifted)

  -- where its bit is not set
  pub set_names-skip : i < length xs → rest ≡ flags / 2 ^ i → (rest % 2 ≡ 1 → ⊥) → set_names (map f (take (i + 1) xs)) flags ≡ set_names (map f (take i xs)) flags
  set_names-skip below shifted clear =
      let test : (rest % 2 == 1) ≡ false = grind (arith, nat_tests) in
      set_names-more below shifted
      ∙ ap (λ b. set_names (map f (take i xs)) flags ++ (if b then f (get_or xs i d) ∷ [] else [])) test
      ∙ append-nil (set_names (map f (take i xs)) flags)

  -- where it is set
  set_names-one : i < length xs → rest ≡ flags / 2 ^ i → rest % 2 ≡ 1 → set_names (map f (take (i + 1) xs)) flags ≡ set_names (map f (take i xs)) flags ++ f (get_or xs i d) ∷ []
  set_names-one below shifted is =
      let test : (rest % 2 == 1) ≡ true = grind (arith, nat_tests) in
      set_names-more below shifted ∙ ap (λ b. set_names (map f (take i xs)) flags ++ (if b then f (get_or xs i d) ∷ [] else [])) test

  pub text-one : i < length xs → rest ≡ flags / 2 ^ i → rest % 2 ≡ 1
      → flags_text (map f (take i xs)) flags ++ (separator_behind (set_names (map f (take i xs)) flags) ++ f (get_or xs i d)) ≡ flags_text (map f (take (i + 1) xs)) flags
  text-one below shifted is = sym (ap (join_by (λ n. n) (codes ", ")) (set_names-one below shifted is) ∙ text-append (set_names (map f (take i xs)) flags) (f (get_or xs i d)))

  pub separator-one : i < length xs → rest ≡ flags / 2 ^ i → rest % 2 ≡ 1 → codes ", " ≡ separator_behind (set_names (map f (take (i + 1) xs)) flags)
  separator-one below shifted is = sym (ap separator_behind (set_names-one below shifted is) ∙ separator-append (set_names (map f (take i xs)) flags) (f (get_or xs i d)))

pub shifted_more : (flags rest i : ℕ) → rest ≡ flags / 2 ^ i → rest / 2 ≡ flags / 2 ^ (i + 1)
shifted_more flags rest i e = ap (λ n. n / 2) e ∙ div-div-eq-div-mul flags (2 ^ i) 2 ∙ ap (λ m. flags / m) (sym (pow-suc 2 i) ∙ ap (λ n. 2 ^ n) (omega arith))

-- one write behind another, whose texts make up the whole
pub written : {W : Type 0} (took : W → List ℕ → W → Type 0) (f g h k last : Formatter W) (before separator between name whole : List ℕ)
    → HasWritten took f before g → HasWritten took g separator h → HasWritten took h name k → separator ≡ between → before ++ (between ++ name) ≡ whole → last ≡ k → HasWritten took f whole last
written took f g h k last before separator between name whole one two three same all is =
    subst (λ x. HasWritten took f whole x) (sym is)
    (put_two took f g k before (separator ++ name) whole one (put_two took g h k separator name (separator ++ name) two three refl) (ap (λ s. before ++ (s ++ name)) same ∙ all))

-- the same text under another name
pub same_text : {W : Type 0} (took : W → List ℕ → W → Type 0) (f g last : Formatter W) (text whole : List ℕ) → HasWritten took f text g → text ≡ whole → last ≡ g → HasWritten took f whole last
same_text took f g last text whole one all is = subst (λ x. HasWritten took f whole x) (sym is) (subst (λ t. HasWritten took f t g) all one)
