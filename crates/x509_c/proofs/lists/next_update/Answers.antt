-- The seconds of the time that is there.
use Rattle.std.proofs.Common.{◌≡◌, Option, refl, sym, subst, w64, to_z, of_z, rules}
use Rattle.x509_der.specs.Promises.{option_view}
use Rattle.x509_times.specs.Moments.{floor_seconds}
use Rattle.x509_fields.specs.Times.{instant_of, time_of}
use Rattle.x509_fields.specs.declared.time.asn1_time.ASN1Time.{ASN1Time}
use Rattle.x509_c.specs.Seconds.{AreSecondsOfSome}
use Rattle.x509_c.proofs.lists.next_update.Goals as goal

pub returns-in-Some : goal.returns-in-Some
returns-in-Some c =
    let seconds : to_z w64 (of_z w64 c.seconds.result) ≡ floor_seconds (instant_of c.in-Some.time) = search rules in
    subst (λ (o : Option ASN1Time). AreSecondsOfSome (to_z w64 (of_z w64 c.seconds.result)) (option_view time_of o)) (sym c.in-Some.is) (c.in-Some.time, refl, seconds)
