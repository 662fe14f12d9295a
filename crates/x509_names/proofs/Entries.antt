-- Entries of registries.
use Rattle.std.proofs.Common.{◌≡◌, ℕ, Bool, true, false, cond, List, [], ◌∷◌, ◌++◌, Option, Some, None, refl, sym, ap, ◌∙◌}
use Rattle.std.proofs.lemmas.List.Folds.{find-append}
use Rattle.std.specs.Borrow.{Bor}
use Rattle.std.specs.Bool.{if◌then◌else◌}
use Rattle.std.specs.List.{find}
use Rattle.std.specs.Option.{option_map, option_or}
use Rattle.std.specs.Str.{bytes_eq}
use Rattle.x509_der.specs.declared.oid.Oid.{Oid}
use Rattle.x509_names.specs.Objects.{Row, described}
use Rattle.x509_names.specs.Registry.{Entry, entry_of, entry_in, row_entry}
use Rattle.x509_names.specs.declared.registry.OidEntry.{OidEntry}

-- an identifier with these octets
abbrev pub with_octets : List ℕ → Oid
with_octets octets = record { bytes = record { ref_ptr = (0, 0); now = octets } }

pub map-chosen : {X Y : Type 0} (f : X → Y) (b : Bool) (x : X) (o : Option X) → option_map f (if b then Some x else o) ≡ (if b then Some (f x) else option_map f o)
map-chosen f true x o = refl
map-chosen f false x o = refl

before-last : (a : Option Row) (b : Bool) (r : Row) (o : Option Entry) → option_or (option_map row_entry a) (if b then Some (row_entry r) else o) ≡ option_or (option_map row_entry (option_or a (cond b (Some r) None))) o
before-last (Some x) b r o = refl
before-last None true r o = refl
before-last None false r o = refl

-- the entry with the texts of a row
entry-of-row : (e : OidEntry) (r : Row) → e.sn.now ≡ r.1 → e.description.now ≡ described r.0 r.1 → entry_of e ≡ row_entry r
entry-of-row e r name words = rw (name, words) refl

-- the last row's entry, put in, is no longer among the rows that are left
pub last-put-in : (rows before : List Row) (r : Row) (id : List ℕ) (e : OidEntry) (old new : Option Entry) (octets : List ℕ) → rows ≡ before ++ r ∷ [] → id ≡ r.0 → e.sn.now ≡ r.1 → e.description.now ≡ described r.0 r.1 → new ≡ (if bytes_eq id octets then Some (entry_of e) else old) → option_or (entry_in before octets) new ≡ option_or (entry_in rows octets) old
last-put-in rows before r id e old new octets is same name words put =
    let has = λ (x : Row). bytes_eq x.0 octets in
    let here : new ≡ (if bytes_eq r.0 octets then Some (row_entry r) else old) =
    put ∙ (ap (λ i. if bytes_eq i octets then Some (entry_of e) else old) same ∙ ap (λ x. if bytes_eq r.0 octets then Some x else old) (entry-of-row e r name words))
    in ap (option_or (entry_in before octets)) here
    ∙ (before-last (find has before) (has r) r old
    ∙ (ap (λ f. option_or (option_map row_entry f) old) (sym (find-append has before (r ∷ [])))
    ∙ ap (λ rs. option_or (entry_in rs octets) old) (sym is)))

pub or-none : {X : Type 0} (o : Option X) → option_or o None ≡ o
or-none None = refl
or-none (Some x) = refl

-- a row of a table
abbrev pub row_of : Bor (List ℕ) × Bor (List ℕ) → Row
row_of r = (r.0.now, r.1.now)
