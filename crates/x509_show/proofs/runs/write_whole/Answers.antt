use Rattle.std.proofs.Common.{arith, rules}
use Rattle.std.proofs.lemmas.List.{take_rest}
use Rattle.std.proofs.KnownBytes.{Appends-kept}
use Rattle.x509_show.proofs.Transfers.{Appends-more, Appends-none}
use Rattle.x509_show.proofs.runs.write_whole.Goals as goal

pub text-preserved : goal.text-preserved
text-preserved g c = record {
  within = grind arith;
  took = Appends-more _ _ _ _ _ _ c.text.invariant.took (rw take_rest at c.in-Ok.ensures.bytes);
  well = search rules;
}

pub returns-in-Err-clause-stopped : goal.returns-in-Err-clause-stopped
returns-in-Err-clause-stopped g c =
    (c.in-Err.ensures.failed, record { count = c.text.taken; took = Appends-kept _ _ _ _ c.text.invariant.took c.in-Err.ensures.bytes })

pub returns-in-Ok-eq0-clause-stopped : goal.returns-in-Ok-eq0-clause-stopped
returns-in-Ok-eq0-clause-stopped g c =
    (search rules, record { count = c.text.taken; took = Appends-none _ _ _ _ _ _ c.in-Ok-eq0.field-0-test c.text.invariant.took (rw take_rest at c.in-Ok-eq0.ensures.bytes) })
