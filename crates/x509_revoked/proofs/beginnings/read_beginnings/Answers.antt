use Rattle.std.proofs.Common.{◌≡◌, ◌<◌, ◌-◌, ◌++◌, ◌∷◌, [], ◌∙◌, List, ℕ, length, sym, ap, subst, arith}
use Rattle.std.proofs.lemmas.List.Elements.{All-nil, All-push}
use Rattle.x509_der.specs.Looks.{behind}
use Rattle.x509_revoked.specs.HeadedEntries.{offsets_of, IsHeaded, AreHeaded}
use Rattle.x509_revoked.specs.declared.headed_entry.HeadedEntry.{HeadedEntry}
use Rattle.x509_revoked.proofs.Filled.{Begun, begun_none, begun_more, begun_shorter, begun_all}
use Rattle.x509_revoked.proofs.HeadedOrder.{offsets_more}
use Rattle.x509_revoked.proofs.beginnings.read_beginnings.Goals as goal

pub loop-left-init : goal.loop-left-init
loop-left-init c =
    let octets = c.args.octets.now in
    record {
      begun = subst (λ (xs : List HeadedEntry). Begun octets octets (offsets_of xs)) (sym c.in-Ok.ensures.items)
          (begun_none octets c.args.count c.requires.holds);
      headed = subst (AreHeaded octets) (sym c.in-Ok.ensures.items) (All-nil (IsHeaded octets));
      within = omega arith;
    }

pub loop-left-preserved : goal.loop-left-preserved
loop-left-preserved c =
    let octets = c.args.octets.now in
    let left = c.loop-left.left.now in
    let held = c.loop-left.entries.items in
    let entry = c.entry_at.result in
    let some : 0 < length left = grind (arith, c.is_empty.ensures, c.loop-left-test.true) in
    let next : behind left ≡ c.rest-left.result.now = ap behind (sym c.look.ensures.bytes) ∙ sym c.rest-left.ensures.behind in
    let pushed : c.push.new.self.items ≡ held ++ entry ∷ [] = grind (arith, c.push.ensures.items, c.is_err.ensures, c.if-is_err.false) in
    let offsets : offsets_of c.push.new.self.items ≡ offsets_of held ++ (length octets - length left) ∷ [] =
    ap offsets_of pushed ∙ offsets_more held entry ∙ ap (λ o. offsets_of held ++ o ∷ []) c.entry_at.ensures.offset in
    let more = begun_more octets left (offsets_of held) c.loop-left.invariant.begun some in
    let less = begun_shorter octets left (offsets_of held) c.loop-left.invariant.begun some in
    record {
      begun = subst (λ (x : List ℕ). Begun octets x (offsets_of c.push.new.self.items)) next (subst (Begun octets (behind left)) (sym offsets) more);
      headed = subst (AreHeaded octets) (sym pushed) (All-push (IsHeaded octets) held entry c.loop-left.invariant.headed c.entry_at.ensures.headed);
      within = omega (arith, less, c.loop-left.invariant.within, ap length next);
    }

pub loop-left-smaller : goal.loop-left-smaller
loop-left-smaller c =
    let left = c.loop-left.left.now in
    let some : 0 < length left = grind (arith, c.is_empty.ensures, c.loop-left-test.true) in
    let next : behind left ≡ c.rest-left.result.now = ap behind (sym c.look.ensures.bytes) ∙ sym c.rest-left.ensures.behind in
    omega (arith, begun_shorter c.args.octets.now left (offsets_of c.loop-left.entries.items) c.loop-left.invariant.begun some, ap length next)

pub returns-clause-begin : goal.returns-clause-begin
returns-clause-begin c = (
  begun_all c.args.octets.now c.loop-left.left.now (offsets_of c.loop-left.entries.items) c.loop-left.invariant.begun
      (grind (arith, c.is_empty.ensures, c.loop-left-test.false)),
  c.loop-left.invariant.headed,
)
