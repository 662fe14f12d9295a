-- Rows of the caller.
use Rattle.std.specs.Prelude.{◌≡◌, ℕ, ◌<◌, ◌+◌, ◌⊎◌, List, [], ◌∷◌, ◌++◌, length, map, min, slice_index_or}

-- each row below an index shows its item
abbrev pub RowsShowBelow : {R X : Type 0} → (R → X → Type 0) → ℕ → List R → List X → Type 0
RowsShowBelow {R} {X} Shows i rows items = (k : ℕ) (r : R) (x : X) → k < i → Shows (slice_index_or rows k r) (slice_index_or items k x)

-- each row shows its item, as far as there are rows and items
abbrev pub RowsShow : {R X : Type 0} → (R → X → Type 0) → List R → List X → Type 0
RowsShow {R} {X} Shows rows items = (k : ℕ) (r : R) (x : X) → k < length rows → k < length items → Shows (slice_index_or rows k r) (slice_index_or items k x)

-- Behind the rows that were written stand those of more items, as many as have room: the rows before them are as they were.
pub record ContinuesRows {R X : Type 0} (Shows : R → X → Type 0) (before : ℕ) (old : List R) (after : ℕ) (new : List R) (items : List X) : Type 0 where
  pub count : after ≡ min (length new) (before + length items)
  pub kept : (k : ℕ) (r : R) → k < before → slice_index_or new k r ≡ slice_index_or old k r
  pub shown : (k : ℕ) (r : R) (x : X) → before + k < after → Shows (slice_index_or new (before + k) r) (slice_index_or items k x)

-- all items are counted, and shown as far as there are rows
pub record CountsAndShows {R X : Type 0} (Shows : R → X → Type 0) (rows : List R) (told : ℕ) (items : List X) : Type 0 where
  pub count : told ≡ length items
  pub shown : RowsShow Shows rows items

-- status 0 and that, or 2 and rows and count as they were
abbrev pub AreTold : {R X : Type 0} → (R → X → Type 0) → List X → List R → ℕ → List R → ℕ → ℕ → Type 0
AreTold Shows items rows told new_rows new_told status =
    ((status ≡ 0) × CountsAndShows Shows new_rows new_told items) ⊎ ((status ≡ 2) × (new_rows ≡ rows) × (new_told ≡ told))

-- ---- items of members

-- the items of a member, each with the member's number
abbrev pub numbered : {X : Type 0} → ℕ → List X → List (ℕ × X)
numbered number items = map (λ x. (number, x)) items

-- those of all members in order, of which the first has this number
abbrev pub numbered_from : {X : Type 0} → ℕ → List (List X) → List (ℕ × X)
numbered_from number [] = []
numbered_from number (items ∷ more) = numbered number items ++ numbered_from (number + 1) more
