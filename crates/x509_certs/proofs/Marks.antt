-- The mark of a validity that is read in its place.
use Rattle.std.proofs.Common.{◌≡◌, ◌&&◌, Bool, true, List, ℕ, rules}
use Rattle.std.proofs.Math.Bool.{and_assoc}
use Rattle.x509_der.specs.Leaves.{sequence}
use Rattle.x509_der.specs.Looks.{behind}
use Rattle.x509_der.specs.Plan.{got, nothing_left}
use Rattle.x509_der.proofs.Marking.{marks_of_readers}
use Rattle.x509_fields.specs.Fields.{lifted}
use Rattle.x509_fields.specs.Times.{Time, time}
use Rattle.x509_certs.specs.Validity.{validity}

pub times_mark : (place times start next : List ℕ) (first last : Time) (begun so_far plain : Bool) → (lifted sequence).read place ≡ got times (behind place) → start ≡ times → time.read start ≡ got first next → begun ≡ true
    → so_far ≡ (begun && time.marks start) → time.read next ≡ got last (behind next) → plain ≡ (so_far && (time.marks next && nothing_left (behind next))) → plain ≡ validity.marks place
unfolding validity
times_mark place times start next first last begun so_far plain whole same one before mark two is = search (rules, marks_of_readers, and_assoc)
