use Rattle.std.proofs.Common.{◌==◌, ◌∙◌, ap, sym}
use Rattle.std.specs.Int.Digits.{number_from_digits}
use Rattle.x509_der.specs.Unsigned.{unsigned_number}
use Rattle.x509_lists.proofs.Seeking.{sought_all, found_next, sought_more}
use Rattle.x509_lists.proofs.revoked_entries.RevokedEntries.seek.Goals as goal

pub loop-first-init : goal.loop-first-init
loop-first-init c = sought_all _ _

pub returns-then-eq : goal.returns-then-eq
returns-then-eq c =
    let first = c.in-Some.ensures in
    let test = c.eq.ensures ∙ ap (λ digits. number_from_digits 256 digits == unsigned_number c.args.serial.now) (sym first.2) in
    record {
      first = found_next _ _ _ _ first.0 _ c.eq.result c.loop-first.invariant first.1 test c.if-eq.true;
      entry = first.0;
      others = _;
      stands = c.loop-first.invariant.rest ∙ first.1;
      is_left = first.1;
    }

pub loop-first-preserved : goal.loop-first-preserved
loop-first-preserved c =
    let first = c.in-Some.ensures in
    let test = c.eq.ensures ∙ ap (λ digits. number_from_digits 256 digits == unsigned_number c.args.serial.now) (sym first.2) in
    sought_more _ _ _ _ first.0 _ c.eq.result c.loop-first.invariant first.1 test c.if-eq.false
