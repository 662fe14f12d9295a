use Rattle.std.proofs.Common.{◌≡◌, ◌++◌, ◌∷◌, [], ◌∙◌, take, sym, ap, subst, arith}
use Rattle.std.proofs.lemmas.List.{take_more, take_all}
use Rattle.std.proofs.lemmas.List.Elements.{All-nil, All-push}
use Rattle.x509_revoked.specs.HeadedEntries.{offsets_of, IsHeaded, AreHeaded}
use Rattle.x509_revoked.proofs.HeadedOrder.{offsets_more}
use Rattle.x509_revoked.proofs.beginnings.entries_from.Goals as goal

pub loop-offset-init : goal.loop-offset-init
loop-offset-init c = record {
  begin = ap offsets_of c.in-Ok.ensures.items;
  headed = subst (AreHeaded c.args.octets.now) (sym c.in-Ok.ensures.items) (All-nil (IsHeaded c.args.octets.now));
}

pub loop-offset-preserved : goal.loop-offset-preserved
loop-offset-preserved c =
    let octets = c.args.octets.now in
    let offsets = c.args.offsets.now in
    let i = c.loop-offset.offset-index in
    let held = c.loop-offset.entries.items in
    let entry = c.entry_at.result in
    let pushed : c.push.new.self.items ≡ held ++ entry ∷ [] = grind (arith, c.push.ensures.items, c.is_err.ensures, c.if-is_err.false) in
    record {
      begin = ap offsets_of pushed ∙ offsets_more held entry ∙ ap (λ xs. xs ++ entry.offset ∷ []) c.loop-offset.invariant.begin
          ∙ ap (λ o. take i offsets ++ o ∷ []) c.entry_at.ensures.offset ∙ sym (take_more offsets i 0 c.loop-offset-test.true);
      headed = subst (AreHeaded octets) (sym pushed) (All-push (IsHeaded octets) held entry c.loop-offset.invariant.headed c.entry_at.ensures.headed);
    }

pub returns : goal.returns
returns c = (c.loop-offset.invariant.begin ∙ take_all c.loop-offset.offset-index c.args.offsets.now c.loop-offset-test.false, c.loop-offset.invariant.headed)
