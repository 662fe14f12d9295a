-- Rows of names, one before others.
use Rattle.std.proofs.Common.{◌≡◌, ℕ, ◌+◌, ◌<◌, ◌≤◌, length, get_or, drop, map, add-one, drop_of_length-le, is_some, Bool, true, false, cond, List, [], ◌∷◌, Option, Some, None, IsSome, refl, sym, ap, subst, ◌∙◌}
use Rattle.std.proofs.Math.Seq.{drop-cons}
use Rattle.std.specs.Borrow.{Bor}
use Rattle.std.specs.List.{find}
use Rattle.std.specs.Option.{option_map, option_or}
use Rattle.std.specs.Str.{bytes_eq}
use Rattle.std.specs.Cmp.Lexicographic.{same_text}
use Rattle.x509_names.specs.Full.{Named, named_entry, named_in}
use Rattle.x509_names.specs.Registry.{Entry, entry_of, registered}
use Rattle.x509_names.specs.declared.registry.OidEntry.{OidEntry}
use Rattle.x509_names.specs.declared.registry.OidRegistry.{OidRegistry}

option_or-assoc : (a b c : Option Entry) → option_or (option_or a b) c ≡ option_or a (option_or b c)
option_or-assoc None b c = refl
option_or-assoc (Some x) b c = refl

one-before : (t : Bool) (r : Named) (o : Option Named)
    → option_map named_entry (cond t (Some r) o) ≡ option_or (option_map named_entry (cond t (Some r) None)) (option_map named_entry o)
one-before true r o = refl
one-before false r o = refl

-- what a registry and the rows say together, after the first row went into the registry
pub named_in-put : (new old : Option Entry) (r : Named) (rs : List Named) (octets : List ℕ) → new ≡ option_or old (named_in (r ∷ []) octets)
    → option_or new (named_in rs octets) ≡ option_or old (named_in (r ∷ rs) octets)
named_in-put new old r rs octets is =
    ap (λ o. option_or o (named_in rs octets)) is ∙ option_or-assoc old (named_in (r ∷ []) octets) (named_in rs octets)
    ∙ ap (option_or old) (sym (one-before (bytes_eq r.0 octets) r (find (λ x. bytes_eq x.0 octets) rs)))

-- an identifier that has an entry keeps it
kept : (t : Bool) (r : Named) (o : Option Entry) → (t ≡ true → IsSome o) → o ≡ option_or o (option_map named_entry (cond t (Some r) None))
kept t r (Some x) h = refl
kept true r None h = cc (h refl)
kept false r None h = refl

-- one that has none gets it
put : (t : Bool) (r : Named) (o : Option Entry) → (t ≡ true → o ≡ None)
    → cond t (Some (named_entry r)) o ≡ option_or o (option_map named_entry (cond t (Some r) None))
put true r None h = refl
put true r (Some x) h = cc (h refl)
put false r None h = refl
put false r (Some x) h = refl

pub registered-kept : (registry : OidRegistry) (r : Named) (octets : List ℕ) → IsSome (registered registry r.0)
    → registered registry octets ≡ option_or (registered registry octets) (named_in (r ∷ []) octets)
registered-kept registry r octets some =
    kept (bytes_eq r.0 octets) r (registered registry octets)
    (λ e. subst (λ (id : List ℕ). IsSome (registered registry id)) (same_text r.0 octets (sym e)) some)

pub entry-of-named : (e : OidEntry) (r : Named) → e.sn.now ≡ r.1 → e.description.now ≡ r.2 → entry_of e ≡ named_entry r
entry-of-named e r name words = rw (name, words) refl

pub none-mapped : {X : Type 0} (f : X → Entry) (o : Option X) → is_some o ≡ false → option_map f o ≡ None
none-mapped f None e = refl
none-mapped f (Some x) e = cc

pub registered-put : (old new : OidRegistry) (r : Named) (entry : Entry) (octets : List ℕ) → entry ≡ named_entry r → registered old r.0 ≡ None
    → registered new octets ≡ cond (bytes_eq r.0 octets) (Some entry) (registered old octets)
    → registered new octets ≡ option_or (registered old octets) (named_in (r ∷ []) octets)
registered-put old new r entry octets is none has =
    has ∙ ap (λ e. cond (bytes_eq r.0 octets) (Some e) (registered old octets)) is
    ∙ put (bytes_eq r.0 octets) r (registered old octets) (λ e. ap (registered old) (sym (same_text r.0 octets (sym e))) ∙ none)

-- ---- a table, row by row

abbrev pub Borrowed : Type 0
Borrowed = Bor (List ℕ) × Bor (List ℕ) × Bor (List ℕ)

abbrev pub row_of : Borrowed → Named
row_of r = (r.0.now, r.1.now, r.2.now)

row_next : (rows : List Borrowed) (i : ℕ) (d : Borrowed) → i < length rows
    → map row_of (drop i rows) ≡ row_of (get_or rows i d) ∷ map row_of (drop (i + 1) rows)
row_next rows i d lt = rw (add-one, drop-cons rows i d) refl

pub row-put : (rows : List Borrowed) (i : ℕ) (d : Borrowed) (new old : Option Entry) (octets : List ℕ) → i < length rows
    → new ≡ option_or old (named_in (row_of (get_or rows i d) ∷ []) octets)
    → option_or new (named_in (map row_of (drop (i + 1) rows)) octets) ≡ option_or old (named_in (map row_of (drop i rows)) octets)
row-put rows i d new old octets lt is =
    named_in-put new old (row_of (get_or rows i d)) (map row_of (drop (i + 1) rows)) octets is
    ∙ ap (λ rs. option_or old (named_in rs octets)) (sym (row_next rows i d lt))

or-none : (o : Option Entry) → option_or o None ≡ o
or-none None = refl
or-none (Some x) = refl

pub rows_left_none : (rows : List Borrowed) (i : ℕ) (e : Option Entry) (octets : List ℕ) → length rows ≤ i
    → option_or e (named_in (map row_of (drop i rows)) octets) ≡ e
rows_left_none rows i e octets h =
    ap (λ rs. option_or e (named_in (map row_of rs) octets)) (drop_of_length-le rows h) ∙ or-none e
