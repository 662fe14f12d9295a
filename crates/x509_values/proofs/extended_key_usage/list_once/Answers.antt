use Rattle.std.proofs.Common.{rules, ◌≡◌, ◌++◌, ◌∷◌, [], sym}
use Rattle.x509_values.proofs.Purposes.{alone, behind_others}
use Rattle.x509_values.proofs.extended_key_usage.list_once.Goals as goal
use Rattle.x509_values.proofs.extended_key_usage.list_once.Goals.{in_default, in-len1-up+else-eq+in-Ok-true}

pub returns-clause-list : goal.returns-clause-list
returns-clause-list c = let pushed : c.push.new.self ≡ c.args.list.now ++ c.args.id ∷ [] = search rules in elim c.if-as_slice-lt1.branch [
  | in_default w ↦ (alone _ c.args.list.now _ c.args.id c.args.seen.now c.as_slice.ensures w.in_default.len_below pushed c.requires).listed
  | in-len1-up+else-eq+in-Ok-true w ↦ (behind_others _ c.args.list.now _ c.args.id _ c.args.seen.now w.insert.new.self _ c.as_slice.ensures w.in-len1-up.len_at_least (sym w.if-eq.ensures) w.in-Ok-true.field-0-test w.in-Ok-true.ensures.added w.in-Ok-true.ensures.updates.0 pushed c.requires).listed
]

pub returns-clause-seen : goal.returns-clause-seen
returns-clause-seen c = let pushed : c.push.new.self ≡ c.args.list.now ++ c.args.id ∷ [] = search rules in elim c.if-as_slice-lt1.branch [
  | in_default w ↦ rw w.seen-is (alone _ c.args.list.now _ c.args.id c.args.seen.now c.as_slice.ensures w.in_default.len_below pushed c.requires).behind
  | in-len1-up+else-eq+in-Ok-true w ↦ rw w.seen-is (behind_others _ c.args.list.now _ c.args.id _ c.args.seen.now w.insert.new.self _ c.as_slice.ensures w.in-len1-up.len_at_least (sym w.if-eq.ensures) w.in-Ok-true.field-0-test w.in-Ok-true.ensures.added w.in-Ok-true.ensures.updates.0 pushed c.requires).behind
]
