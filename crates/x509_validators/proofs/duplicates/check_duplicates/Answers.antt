use Rattle.std.proofs.Common.{rules, ◌≡◌, arith, ap, map, take, get_or, ◌∙◌}
use Rattle.x509_der.specs.Oid.{oid_bytes}
use Rattle.x509_validators.specs.Duplicates.{repeat_error, is_new}
use Rattle.x509_validators.proofs.Among.{IsSetOf-item, alone-distinct, alone-logged}
use Rattle.x509_validators.proofs.Viewed.{Took-found, StoppedAt-found, all_sound-item}
use Rattle.x509_validators.proofs.duplicates.check_duplicates.Goals as goal

pub returns-then-members-lt2 : goal.returns-then-members-lt2
returns-then-members-lt2 g c =
    let members = c.args.members.now in
    let few = c.if-members-lt2.true in
    record { can = search rules; logs = (alone-distinct g.T.Identified.id members few, alone-logged g.L.Logger.step c.args.label.now g.T.Identified.id members c.args.logger.now few) }

pub returns-in_err-distinct : goal.returns-in_err-distinct
returns-in_err-distinct g c =
    let members = c.args.members.now in
    let k = c.loop-member.member-index in
    let ids = map g.T.Identified.id (take k members) in
    let is : oid_bytes c.oid.result.now ≡ g.T.Identified.id (get_or members k c.member-item.result) = c.oid.ensures ∙ ap g.T.Identified.id c.member-item.is in
    let stopped = StoppedAt-found g.L.Logger.step g.T.Identified.id (repeat_error c.args.label.now) members k c.member-item.result _ c.args.logger.now c.loop-member.logger _ _ is c.loop-member-test.true c.loop-member.invariant.took (c.in_err-distinct.ensures.logs ids c.loop-member.invariant.seen) in
    record { can = search rules; logs = grind (arith, stopped) }

pub loop-member-preserved : goal.loop-member-preserved
loop-member-preserved g c =
    let members = c.args.members.now in
    let k = c.loop-member.member-index in
    let ids = map g.T.Identified.id (take k members) in
    let is : oid_bytes c.oid.result.now ≡ g.T.Identified.id (get_or members k c.member-item.result) = c.oid.ensures ∙ ap g.T.Identified.id c.member-item.is in
    let told = c.in_ok-distinct.ensures.logs ids c.loop-member.invariant.seen in
    record {
      can = c.check_new.ensures.can;
      seen = IsSetOf-item g.T.Identified.id members k c.member-item.result _ _ is c.loop-member-test.true (c.in_ok-distinct.ensures.seen ids c.loop-member.invariant.seen);
      took = Took-found g.L.Logger.step g.T.Identified.id (repeat_error c.args.label.now) members k c.member-item.result _ c.args.logger.now c.loop-member.logger _ is c.loop-member-test.true c.loop-member.invariant.took told.1;
      answer = all_sound-item g.T.Identified.id is_new members k c.member-item.result _ c.loop-member.distinct c.in_ok-distinct.field-0 is c.loop-member-test.true c.loop-member.invariant.answer told.0;
    }
