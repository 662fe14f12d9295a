use Rattle.std.proofs.Common.{rules, refl, ap, length, arith}
use Rattle.std.proofs.Math.Bool.{and_assoc}
use Rattle.x509_der.proofs.Marking.{marks_of_readers}
use Rattle.x509_lists.specs.TbsCertList.{tbs_list}
use Rattle.x509_lists.proofs.Budget.{closing_tries}
use Rattle.x509_lists.proofs.tbs_parts.read_parts.Goals as goal

pub returns-4 : goal.returns-4
unfolding tbs_list
returns-4 g c =
    let closing = closing_tries _ _ 0 _ _ _ _ refl c.in-Ok-ok-2.ensures.count c.in-Ok-ok-2.ensures.grows c.in-Ok-ok-2.ensures.foreign c.in-Ok-ok-3.ensures.count c.in-Ok-ok-3.ensures.foreign in
    record {
      reads = search (rules, marks_of_readers);
      marks = search (rules, marks_of_readers, and_assoc);
      grows = search rules;
      count = omega (arith, closing, c.of-fields.ensures.tries.few, ap length c.of-fields.ensures.place, c.in-Ok-ok.ensures.sizes, c.read_version-fields.ensures.count, c.in_ok-contents.ensures.sizes);
      foreign = search rules;
      least = search rules;
      there = search rules;
    }

pub returns-3 : goal.returns-3
unfolding tbs_list
returns-3 g c =
    let closing = closing_tries _ _ 0 _ _ _ _ refl c.in-Ok-ok-2.ensures.count c.in-Ok-ok-2.ensures.grows c.in-Ok-ok-2.ensures.foreign c.in-Err-ok-3.ensures.count c.in-Err-ok-3.ensures.foreign in
    record {
      reads = search (rules, marks_of_readers);
      marks = search (rules, marks_of_readers);
      grows = search rules;
      count = omega (arith, closing, c.of-fields.ensures.tries.few, ap length c.of-fields.ensures.place, c.in-Ok-ok.ensures.sizes, c.read_version-fields.ensures.count, c.in_ok-contents.ensures.sizes);
      foreign = search rules;
      least = search rules;
      there = search rules;
    }
