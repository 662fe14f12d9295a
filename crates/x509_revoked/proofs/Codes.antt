-- Offsets in four octets each.
use Rattle.std.proofs.Common.{◌≡◌, ℕ, ◌<◌, ◌*◌, ◌^◌, List, [], ◌∷◌, ◌++◌, length, take, drop, refl, sym, ap, ◌∙◌, arith}
use Rattle.std.specs.Int.{w32, to_be_bytes, from_be_bytes}
use Rattle.std.proofs.lemmas.Nat.{from_be_bytes-to_be_bytes_4}
use Rattle.std.proofs.lemmas.List.{length-append, append_cancel_left}
use Rattle.x509_revoked.specs.IndexFile.{offset_octets, head_octets, index_octets}

pub length_offsets : (offsets : List ℕ) → length (offset_octets offsets) ≡ 4 * length offsets
length_offsets [] = refl
length_offsets (o ∷ os) = omega (arith, length_offsets os, length-append (to_be_bytes w32 o) (offset_octets os))

pub offsets_more : (offsets : List ℕ) (o : ℕ) → offset_octets (offsets ++ o ∷ []) ≡ offset_octets offsets ++ to_be_bytes w32 o
offsets_more [] o = refl
offsets_more (x ∷ xs) o = ap (λ l. to_be_bytes w32 x ++ l) (offsets_more xs o)

-- every one fits four octets
abbrev pub Fit : List ℕ → Type 0
Fit [] = Unit {0}
Fit (o ∷ os) = (o < 2 ^ 32) × Fit os

first_four : (a b c d : ℕ) (xs ys : List ℕ) (e f g h : ℕ) → a ∷ b ∷ c ∷ d ∷ xs ≡ e ∷ f ∷ g ∷ h ∷ ys → (a ∷ b ∷ c ∷ d ∷ [] ≡ e ∷ f ∷ g ∷ h ∷ []) × (xs ≡ ys)
first_four a b c d xs ys e f g h same = (ap (take 4) same, ap (drop 4) same)

pub offsets_once : (xs ys : List ℕ) → Fit xs → Fit ys → offset_octets xs ≡ offset_octets ys → xs ≡ ys
offsets_once [] [] a b same = refl
offsets_once [] (y ∷ ys) a b same = absurd (omega (arith, ap length same, length_offsets (y ∷ ys)))
offsets_once (x ∷ xs) [] a b same = absurd (omega (arith, ap length same, length_offsets (x ∷ xs)))
offsets_once (x ∷ xs) (y ∷ ys) a b same =
    let parts = first_four _ _ _ _ (offset_octets xs) (offset_octets ys) _ _ _ _ same in
    let first : x ≡ y = sym (from_be_bytes-to_be_bytes_4 x a.0) ∙ ap (from_be_bytes w32) parts.0 ∙ from_be_bytes-to_be_bytes_4 y b.0 in
    let rest : xs ≡ ys = offsets_once xs ys a.1 b.1 parts.1 in
    cc

-- octets of an index are read to their end
pub read_whole : (count octets : ℕ) (file body items left offsets : List ℕ) → file ≡ head_octets count octets ++ body → body ≡ offset_octets items ++ left → length left < 4 → length offsets ≡ count → file ≡ index_octets octets offsets
    → (length items ≡ count) × (length left ≡ 0)
read_whole count octets file body items left offsets head read short counted is =
    let own : index_octets octets offsets ≡ head_octets count octets ++ offset_octets offsets = ap (λ n. head_octets n octets ++ offset_octets offsets) counted in
    let same : body ≡ offset_octets offsets = append_cancel_left (head_octets count octets) body (offset_octets offsets) (sym head ∙ is ∙ own) in
    let sizes : length (offset_octets items ++ left) ≡ length (offset_octets offsets) = ap length (sym read ∙ same) in
    let joined = length-append (offset_octets items) left in
    let size = length_offsets items in
    let all = length_offsets offsets in
    (omega arith, omega arith)

-- the first octets of an index are its head
pub head_first : (entries octets : ℕ) (file body : List ℕ) → file ≡ head_octets entries octets ++ body → take 24 file ≡ head_octets entries octets
unfolding head_octets
head_first entries octets file body is = ap (take 24) is
