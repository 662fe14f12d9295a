-- The only extension with an identifier, by the extensions themselves and by what they say.
use Rattle.std.proofs.Common.{◌≡◌, ℕ, List, [], ◌∷◌, Bool, true, false, refl, ap, ◌∙◌, map, cond}
use Rattle.std.specs.Prelude.{Option, None, Result, Ok, Err}
use Rattle.std.specs.List.{filter}
use Rattle.std.specs.Option.{option_map}
use Rattle.std.specs.Str.{bytes_eq}
use Rattle.x509_fields.specs.declared.error.X509Error.{X509Error}
use Rattle.x509_extensions.specs.declared.extension.X509Extension.{X509Extension}
use Rattle.x509_extensions.specs.Extension.{extension_of}
use Rattle.x509_extensions.specs.Lookups.{has_id, has_oid, only, unique_of}
use Rattle.x509_extensions.specs.Parsed.{Parsed, parsed_of}
use Rattle.x509_report_objects.specs.Certificates.{said_by_one, only_parsed}

abbrev pub parsed_in : Result (Option X509Extension) X509Error → Option Parsed
parsed_in (Ok found) = option_map (λ x. parsed_of x.parsed_extension) found
parsed_in (Err e) = None

by_shape : (xs : List X509Extension) → parsed_in (only xs) ≡ said_by_one (map extension_of xs)
unfolding only
by_shape [] = refl
by_shape (x ∷ []) = refl
by_shape (x ∷ y ∷ xs) = refl

same_id : (id : List ℕ) (x : X509Extension) → has_oid id x ≡ bytes_eq (extension_of x).oid id
unfolding has_id
same_id id x = refl

with_one : (id : List ℕ) (x : X509Extension) (xs : List X509Extension) (b c : Bool) → b ≡ c
    → map extension_of (filter (has_oid id) xs) ≡ filter (λ e. bytes_eq e.oid id) (map extension_of xs)
    → map extension_of (cond b (x ∷ filter (has_oid id) xs) (filter (has_oid id) xs))
    ≡ cond c (extension_of x ∷ filter (λ e. bytes_eq e.oid id) (map extension_of xs)) (filter (λ e. bytes_eq e.oid id) (map extension_of xs))
with_one id x xs true true same h = ap (λ es. extension_of x ∷ es) h
with_one id x xs false false same h = h
with_one id x xs true false same h = absurd cc
with_one id x xs false true same h = absurd cc

filtered : (id : List ℕ) (xs : List X509Extension) → map extension_of (filter (has_oid id) xs) ≡ filter (λ e. bytes_eq e.oid id) (map extension_of xs)
filtered id [] = refl
filtered id (x ∷ xs) = with_one id x xs (has_oid id x) (bytes_eq (extension_of x).oid id) (same_id id x) (filtered id xs)

pub only_is_only_parsed : (id : List ℕ) (xs : List X509Extension) → parsed_in (unique_of id xs) ≡ only_parsed id (map extension_of xs)
only_is_only_parsed id xs = by_shape (filter (has_oid id) xs) ∙ ap said_by_one (filtered id xs)
