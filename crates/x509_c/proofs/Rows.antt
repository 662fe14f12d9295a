-- Rows that are written one after another.
use Rattle.std.proofs.Common.{◌≡◌, ℕ, ◌<◌, ◌+◌, ◌-◌, ◌++◌, List, length, map, min, get_or, set, sym, subst, arith, inl, inr, below_more}
use Rattle.std.proofs.lemmas.Bool.{cases_lt}
use Rattle.std.proofs.lemmas.List.{get_or-set_same, get_or-set_other, get_or-map, get_or_append_left, get_or-append_right, length-map, length-append}
use Rattle.x509_c.specs.Rows.{ContinuesRows, RowsShowBelow}

-- one more row, of the item at that index
pub rows_more : {R X : Type 0} (Shows : R → X → Type 0) (i : ℕ) (rows : List R) (items : List X) (row : R) → i < length rows → RowsShowBelow Shows i rows items
    → ((x : X) → Shows row (get_or items i x)) → RowsShowBelow Shows (i + 1) (set rows i row) items
rows_more {R} {X} Shows i rows items row within before here k r x below =
    below_more (λ k. Shows (get_or (set rows i row) k r) (get_or items k x)) i
    (λ k less. subst (λ (a : R). Shows a (get_or items k x)) (sym (get_or-set_other rows i k row r (omega arith))) (before k r x less))
    (subst (λ (a : R). Shows a (get_or items i x)) (sym (get_or-set_same rows i row r within)) (here x))
    k below

-- the same, of an item that a function shows
pub rows_more_of : {R X Y : Type 0} (Shows : R → Y → Type 0) (f : X → Y) (i : ℕ) (rows : List R) (items : List X) (item : X) (row : R) → i < length rows → i < length items
    → item ≡ get_or items i item → RowsShowBelow Shows i rows (map f items) → Shows row (f item) → RowsShowBelow Shows (i + 1) (set rows i row) (map f items)
rows_more_of {R} {X} {Y} Shows f i rows items item row within inside is before here =
    rows_more Shows i rows (map f items) row within before
    (λ y. subst (λ (a : Y). Shows row a) (sym (get_or-map f items i item y inside)) (subst (λ (a : X). Shows row (f a)) is here))

-- the row of the item at an index
pub row_at : {R X Y : Type 0} (Shows : R → Y → Type 0) (f : X → Y) (items : List X) (k : ℕ) (item : X) (row : R) → item ≡ get_or items k item → Shows row (f item)
    → (d : Y) → k < length (map f items) → Shows row (get_or (map f items) k d)
row_at {R} {X} {Y} Shows f items k item row is here d below =
    let within : k < length items = subst (λ n. k < n) (length-map items f) below in
    subst (λ (a : Y). Shows row a) (sym (get_or-map f items k item d within)) (subst (λ (a : X). Shows row (f a)) is here)

-- ---- rows behind others

-- one more row behind those that were there, of the item at that index
pub behind_more : {R X : Type 0} (Shows : R → X → Type 0) (before i : ℕ) (rows : List R) (items : List X) (row : R) → before + i < length rows
    → ((k : ℕ) (r : R) (x : X) → k < i → Shows (get_or rows (before + k) r) (get_or items k x)) → ((x : X) → Shows row (get_or items i x))
    → (k : ℕ) (r : R) (x : X) → k < i + 1 → Shows (get_or (set rows (before + i) row) (before + k) r) (get_or items k x)
behind_more {R} {X} Shows before i rows items row within shown here k r x below =
    below_more (λ k. Shows (get_or (set rows (before + i) row) (before + k) r) (get_or items k x)) i
    (λ k less. subst (λ (a : R). Shows a (get_or items k x)) (sym (get_or-set_other rows (before + i) (before + k) row r (omega (arith, less)))) (shown k r x less))
    (subst (λ (a : R). Shows a (get_or items i x)) (sym (get_or-set_same rows (before + i) row r within)) (here x))
    k below

-- rows of items, and behind them those of more
pub rows_continued : {R X : Type 0} (Shows : R → X → Type 0) (before after : ℕ) (old new : List R) (done more : List X) → length new ≡ length old → before ≡ min (length old) (length done)
    → ContinuesRows Shows before old after new more → RowsShowBelow Shows before old done → RowsShowBelow Shows after new (done ++ more)
rows_continued {R} {X} Shows before after old new done more same count continues shown k r x below = elim (cases_lt k before) [
  | inl less ↦
      subst (λ (y : X). Shows (get_or new k r) y) (sym (get_or_append_left done more x k (omega (arith, less, count))))
      (subst (λ (a : R). Shows a (get_or done k x)) (sym (continues.kept k r less)) (shown k r x less))
  | inr from ↦
      let full : before ≡ length done = omega (arith, count, same, from, below, continues.count) in
      let at : before + (k - before) ≡ k = omega (arith, from) in
      let here : Shows (get_or new (before + (k - before)) r) (get_or more (k - before) x) = continues.shown (k - before) r x (omega (arith, at, below)) in
      subst (λ (y : X). Shows (get_or new k r) y) (sym (get_or-append_right done more before k x (sym full) from)) (subst (λ n. Shows (get_or new n r) (get_or more (k - before) x)) at here)
]

pub count_continued : {R X : Type 0} (Shows : R → X → Type 0) (before after : ℕ) (old new : List R) (done more : List X) → length new ≡ length old → before ≡ min (length old) (length done)
    → ContinuesRows Shows before old after new more → after ≡ min (length new) (length (done ++ more))
count_continued Shows before after old new done more same count continues = omega (arith, same, count, continues.count, length-append done more)
