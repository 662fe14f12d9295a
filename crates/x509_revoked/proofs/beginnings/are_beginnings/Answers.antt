use Rattle.std.proofs.Common.{◌≡◌, ◌<◌, ◌-◌, ◌+◌, ◌++◌, ◌∷◌, [], ◌∙◌, List, ℕ, length, take, get_or, sym, ap, subst, inl, inr, arith}
use Rattle.std.proofs.lemmas.Bool.{cases_lt}
use Rattle.std.proofs.lemmas.List.{take_more, take_all}
use Rattle.x509_der.specs.Looks.{behind}
use Rattle.x509_revoked.proofs.Filled.{Begun, begun_none, begun_more, begun_shorter, begun_all, too_many, elsewhere, too_few}
use Rattle.x509_revoked.proofs.beginnings.are_beginnings.Goals as goal

pub loop-offset-init : goal.loop-offset-init
loop-offset-init c = record { begun = begun_none c.args.octets.now c.args.count c.requires; within = omega arith }

pub loop-offset-preserved : goal.loop-offset-preserved
loop-offset-preserved c =
    let octets = c.args.octets.now in
    let offsets = c.args.offsets.now in
    let left = c.loop-offset.left.now in
    let i = c.loop-offset.offset-index in
    let offset = get_or offsets i 0 in
    let some : 0 < length left = grind (arith, c.is_empty.ensures, c.if-is_empty.false) in
    let next : behind left ≡ c.rest-left.result.now = ap behind (sym c.look.ensures.bytes) ∙ sym c.rest-left.ensures.behind in
    let more = begun_more octets left (take i offsets) c.loop-offset.invariant.begun some in
    let less = begun_shorter octets left (take i offsets) c.loop-offset.invariant.begun some in
    let taken : take i offsets ++ (length octets - length left) ∷ [] ≡ take (i + 1) offsets =
    ap (λ n. take i offsets ++ n ∷ []) (sym c.if-offset-octets.false) ∙ sym (take_more offsets i 0 c.loop-offset-test.true) in
    record {
      begun = subst (λ (x : List ℕ). Begun octets x (take (i + 1) offsets)) next (subst (Begun octets (behind left)) taken more);
      within = omega (arith, less, c.loop-offset.invariant.within, ap length next);
    }

pub returns-then-is_empty-clause-are : goal.returns-then-is_empty-clause-are
returns-then-is_empty-clause-are c = (
  (λ never. cc),
  λ same. absurd (too_many c.args.octets.now c.loop-offset.left.now c.args.offsets.now c.loop-offset.offset-index c.loop-offset.invariant.begun (grind (arith, c.is_empty.ensures, c.if-is_empty.true)) c.loop-offset-test.true same),
)

pub returns-then-offset-octets-clause-are : goal.returns-then-offset-octets-clause-are
returns-then-offset-octets-clause-are c = (
  (λ never. cc),
  λ same. absurd (c.if-offset-octets.true (elsewhere c.args.octets.now c.loop-offset.left.now c.args.offsets.now c.loop-offset.offset-index 0 c.loop-offset.invariant.begun (grind (arith, c.is_empty.ensures, c.if-is_empty.false)) c.loop-offset-test.true same)),
)

pub returns-clause-are : goal.returns-clause-are
returns-clause-are c =
    let octets = c.args.octets.now in
    let offsets = c.args.offsets.now in
    let left = c.loop-offset.left.now in
    let all : take c.loop-offset.offset-index offsets ≡ offsets = take_all c.loop-offset.offset-index offsets c.loop-offset-test.false in
    let begun : Begun octets left offsets = subst (Begun octets left) all c.loop-offset.invariant.begun in (
      (λ true. begun_all octets left offsets begun (grind (arith, c.is_empty-2.ensures, true))),
      λ same. elim (cases_lt 0 (length left)) [
        | inl some ↦ absurd (too_few octets left offsets begun some same)
        | inr none ↦ grind (arith, c.is_empty-2.ensures, none)
      ],
    )
