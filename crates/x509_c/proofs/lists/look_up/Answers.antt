-- The entry at the position that was found is shown.
use Rattle.std.proofs.Common.{◌≡◌, ℕ, ◌<◌, ◌==◌, List, Option, Some, refl, map, length, ap, sym, subst, ◌∙◌, get_or}
use Rattle.std.specs.Int.Digits.{number_from_digits}
use Rattle.std.proofs.lemmas.List.{length-map}
use Rattle.std.proofs.lemmas.List.Quantifiers.{position-Some}
use Rattle.x509_lists.specs.FindRevoked.{first_of, serial_numbers}
use Rattle.x509_lists.specs.RevokedCertificate.{Revoked, revoked_of}
use Rattle.x509_lists.specs.declared.revoked_certificate.RevokedCertificate.{RevokedCertificate}
use Rattle.x509_c.specs.Lists.{IsRevokedRow, IsFound, IsEntryAt}
use Rattle.x509_c.proofs.Rows.{row_at}
use Rattle.x509_c.proofs.lists.look_up.Goals as goal

-- a position that was found is one of the list's
found_within : (entries : List RevokedCertificate) (number k : ℕ) → first_of (serial_numbers (map revoked_of entries)) number ≡ Some k → k < length entries
found_within entries number k is =
    let numbers = serial_numbers (map revoked_of entries) in
    let below : k < length numbers = (position-Some (λ n. n == number) numbers k 0 is).0 in
    subst (λ n. k < n) (length-map entries revoked_of)
    (subst (λ n. k < n) (length-map (map revoked_of entries) (λ (r : Revoked). number_from_digits 256 r.serial)) below)

pub returns-in-Some : goal.returns-in-Some
returns-in-Some c =
    let revoked = c.args.list.now.revoked_certificates in
    let entries : List Revoked = map revoked_of revoked in
    let number = number_from_digits 256 c.args.serial.now in
    let k = c.in-Some.k in
    let is : first_of (serial_numbers entries) number ≡ Some k = ap (λ (n : ℕ). first_of (serial_numbers entries) n) (sym c.new.ensures.number) ∙ sym c.in-Some.ensures in
    let within : k < length entries = subst (λ n. k < n) (sym (length-map revoked revoked_of)) (found_within revoked number k is) in
    let entry = c.index-as_slice-k.result in
    let there : entry ≡ get_or revoked k entry = subst (λ (xs : List RevokedCertificate). entry ≡ get_or xs k entry) c.as_slice.ensures c.index-as_slice-k.is in
    let shown : IsEntryAt entries k c.revoked_row.result k = record { is = refl; within = within; shown = λ none. row_at IsRevokedRow revoked_of revoked k entry c.revoked_row.result there c.revoked_row.ensures none within } in
    record { found = subst (λ (o : Option ℕ). IsFound entries o c.revoked_row.result k 0) (sym is) (refl, shown); kept = λ other. absurd (other refl) }
