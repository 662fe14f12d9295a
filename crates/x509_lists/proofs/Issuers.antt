-- What the extensions of an entry say of its issuer, and the walk over entries that goes by it.
use Rattle.std.proofs.Common.{◌≡◌, ◌==◌, ◌+◌, ◌&&◌, ℕ, Bool, true, false, List, [], ◌∷◌, length, drop, map, cond, Option, Some, None, Ok, refl, sym, ap, ◌∙◌, arith}
use Rattle.std.specs.Int.Digits.{number_from_digits}
use Rattle.std.specs.Prelude.{◌||◌}
use Rattle.std.specs.List.{find, list_any}
use Rattle.std.specs.Option.{option_map}
use Rattle.std.specs.Str.{bytes_eq}
use Rattle.x509_der.specs.Oid.{oid_bytes}
use Rattle.x509_der.specs.Plan.{nothing_left}
use Rattle.x509_extensions.specs.Extension.{extension_of}
use Rattle.x509_extensions.specs.Lookups.{has_id, has_oid}
use Rattle.x509_extensions.specs.declared.extension.X509Extension.{X509Extension}
use Rattle.x509_general_names.specs.AlternativeNames.{general_names}
use Rattle.x509_general_names.specs.GeneralName.{GeneralNameValue, general_name_of}
use Rattle.x509_general_names.specs.declared.general_name.GeneralName.{GeneralName}
use Rattle.x509_lists.specs.EntryIssuers.{nothing, names, unreadable, certificate_issuer, is_certificate_issuer, is_name, names_read, said_in, said_by, is_of, Place, at, nowhere, unclear, place_if, place_of, place_for}
use Rattle.x509_lists.specs.RevokedCertificate.{Revoked, revoked_of}
use Rattle.x509_lists.specs.declared.revoked_certificate.RevokedCertificate.{RevokedCertificate}
use Rattle.x509_der.specs.Unsigned.{unsigned_number}
use Rattle.x509_lists.proofs.Seeking.{drop_next}

pub any_name : (issuer : List ℕ) (xs : List GeneralName) → list_any (λ x. is_name issuer (general_name_of x)) xs ≡ list_any (is_name issuer) (map general_name_of xs)
any_name issuer [] = refl
any_name issuer (x ∷ xs) = ap (λ b. is_name issuer (general_name_of x) || b) (any_name issuer xs)

-- the first extension with the identifier, as a value
found : (xs : List X509Extension) → option_map extension_of (find (has_oid certificate_issuer) xs) ≡ find is_certificate_issuer (map extension_of xs)
unfolding has_id
found [] = refl
found (x ∷ xs) = one (found xs) (bytes_eq (oid_bytes x.oid) certificate_issuer)
  where
    one : option_map extension_of (find (has_oid certificate_issuer) xs) ≡ find is_certificate_issuer (map extension_of xs)
        → (b : Bool) → option_map extension_of (cond b (Some x) (find (has_oid certificate_issuer) xs)) ≡ cond b (Some (extension_of x)) (find is_certificate_issuer (map extension_of xs))
    one more true = refl
    one more false = more

pub said_nothing : (id : List ℕ) (xs : List X509Extension) → id ≡ certificate_issuer → None ≡ find (has_oid id) xs → said_by (map extension_of xs) ≡ nothing
said_nothing id xs is none = ap said_in (sym (found xs) ∙ ap (option_map extension_of) (sym (none ∙ ap (λ (i : List ℕ). find (has_oid i) xs) is)))

pub said_there : (id : List ℕ) (xs : List X509Extension) (x : X509Extension) → id ≡ certificate_issuer → Some x ≡ find (has_oid id) xs → said_by (map extension_of xs) ≡ names_read (general_names.read x.value.now)
said_there id xs x is there = ap said_in (sym (found xs) ∙ ap (option_map extension_of) (sym (there ∙ ap (λ (i : List ℕ). find (has_oid i) xs) is)))

pub read_whole : (rest : List ℕ) (said : List GeneralNameValue) → nothing_left rest ≡ true → names_read (Ok (rest, said)) ≡ names said
read_whole rest said whole = ap (λ b. cond b (names said) unreadable) whole

pub read_with_rest : (rest : List ℕ) (said : List GeneralNameValue) → nothing_left rest ≡ false → names_read (Ok (rest, said)) ≡ unreadable
read_with_rest rest said more = ap (λ b. cond b (names said) unreadable) more

-- what was found of an entry that was read, in the words of its value
pub is_of_read : (issuer : List ℕ) (before now : Bool) (entry : Revoked) (read : RevokedCertificate) (name : List ℕ) → revoked_of read ≡ entry → name ≡ issuer
    → is_of name before (said_by (revoked_of read).extensions) ≡ Some now → is_of issuer before (said_by entry.extensions) ≡ Some now
is_of_read issuer before now entry read name same named found =
    ap (λ (r : Revoked). is_of issuer before (said_by r.extensions)) (sym same) ∙ ap (λ (i : List ℕ). is_of i before (said_by (revoked_of read).extensions)) (sym named) ∙ found

pub has_number : (number : ℕ) (has : Bool) (entry : Revoked) (read : RevokedCertificate) → revoked_of read ≡ entry → has ≡ (unsigned_number read.user_certificate == number) → has ≡ (number_from_digits 256 entry.serial == number)
has_number number has entry read same is = is ∙ ap (λ (r : Revoked). number_from_digits 256 r.serial == number) same

-- ---- the walk

-- the entries before the position were passed, and these are left
pub record Walked (issuer : List ℕ) (number : ℕ) (all : List Revoked) (place : Place) (ours : Bool) (position : ℕ) (left : List Revoked) : Type 0 where
  pub goes : place ≡ place_of issuer number ours position left
  pub rest : drop position all ≡ left
  pub within : position + length left ≡ length all

pub begun : (issuer : List ℕ) (number : ℕ) (all : List Revoked) (list_issuer : List ℕ) (ours : Bool) → ours ≡ bytes_eq list_issuer issuer → Walked issuer number all (place_for list_issuer all issuer number) ours 0 all
begun issuer number all list_issuer ours is = record { goes = ap (λ b. place_of issuer number b 0 all) (sym is); rest = refl; within = omega arith }

of_ours : (now has : Bool) (position : ℕ) (more : Bool → Place) → place_if (Some now) has position more ≡ cond (now && has) (at position) (more now)
of_ours true has position more = refl
of_ours false has position more = refl

-- at the next entry
next_is : (issuer : List ℕ) (number : ℕ) (all : List Revoked) (place : Place) (ours : Bool) (position : ℕ) (left : List Revoked) (entry : Revoked) (others : List Revoked) (said : Option Bool)
    → Walked issuer number all place ours position left → left ≡ entry ∷ others → is_of issuer ours (said_by entry.extensions) ≡ said
    → place ≡ place_if said (number_from_digits 256 entry.serial == number) position (λ b. place_of issuer number b (position + 1) others)
next_is issuer number all place ours position left entry others said so_far first is =
    so_far.goes ∙ ap (place_of issuer number ours position) first
    ∙ ap (λ o. place_if o (number_from_digits 256 entry.serial == number) position (λ b. place_of issuer number b (position + 1) others)) is

pub is_unclear : (issuer : List ℕ) (number : ℕ) (all : List Revoked) (place : Place) (ours : Bool) (position : ℕ) (left : List Revoked) (entry : Revoked) (others : List Revoked)
    → Walked issuer number all place ours position left → left ≡ entry ∷ others → is_of issuer ours (said_by entry.extensions) ≡ None → place ≡ unclear
is_unclear issuer number all place ours position left entry others so_far first is = next_is issuer number all place ours position left entry others None so_far first is

pub is_here : (issuer : List ℕ) (number : ℕ) (all : List Revoked) (place : Place) (ours now has : Bool) (position : ℕ) (left : List Revoked) (entry : Revoked) (others : List Revoked)
    → Walked issuer number all place ours position left → left ≡ entry ∷ others → is_of issuer ours (said_by entry.extensions) ≡ Some now → has ≡ (number_from_digits 256 entry.serial == number) → (now && has) ≡ true → place ≡ at position
is_here issuer number all place ours now has position left entry others so_far first is test it =
    next_is issuer number all place ours position left entry others (Some now) so_far first is ∙ of_ours now _ position (λ b. place_of issuer number b (position + 1) others)
    ∙ ap (λ b. cond (now && b) (at position) (place_of issuer number now (position + 1) others)) (sym test) ∙ ap (λ b. cond b (at position) (place_of issuer number now (position + 1) others)) it

pub walked_on : (issuer : List ℕ) (number : ℕ) (all : List Revoked) (place : Place) (ours now has : Bool) (position : ℕ) (left : List Revoked) (entry : Revoked) (others : List Revoked)
    → Walked issuer number all place ours position left → left ≡ entry ∷ others → is_of issuer ours (said_by entry.extensions) ≡ Some now → has ≡ (number_from_digits 256 entry.serial == number) → (now && has) ≡ false
    → Walked issuer number all place now (position + 1) others
walked_on issuer number all place ours now has position left entry others so_far first is test other = record {
  goes = next_is issuer number all place ours position left entry others (Some now) so_far first is ∙ of_ours now _ position (λ b. place_of issuer number b (position + 1) others)
      ∙ ap (λ b. cond (now && b) (at position) (place_of issuer number now (position + 1) others)) (sym test) ∙ ap (λ b. cond b (at position) (place_of issuer number now (position + 1) others)) other;
  rest = drop_next all others position entry (so_far.rest ∙ first);
  within = omega (arith, so_far.within, ap length first);
}

pub is_nowhere : (issuer : List ℕ) (number : ℕ) (all : List Revoked) (place : Place) (ours : Bool) (position : ℕ) (left : List Revoked) → Walked issuer number all place ours position left → left ≡ [] → place ≡ nowhere
is_nowhere issuer number all place ours position left so_far none = so_far.goes ∙ ap (place_of issuer number ours position) none
