use Rattle.std.proofs.Common.{arith, refl, inl, inr}
use Rattle.std.proofs.lemmas.Result.{err_from_is_err_and}
use Rattle.x509_names.proofs.DottedParts.{parts_left, two_parts, some_next, no_next, refused_none, refused_one, refused_first, refused_second, refused_further, HasRead-two, HasRead-more, begun, begun_two, read_all}
use Rattle.x509_names.proofs.parse.octets_of.Goals as goal
use Rattle.x509_names.proofs.parse.octets_of.Goals.{in_default-via-in-Some+in_default, in_default-via-in_default}

pub returns-in_default : goal.returns-in_default
returns-in_default c =
    let cut = c.split-parts.ensures in
    let left = parts_left c.split-parts.result c.args.text.now cut.text cut.has_more cut.pattern in
    elim c.in_default.branch [
      | in_default-via-in-Some+in_default w ↦ inl (refused_one c.args.text.now _ _ _ _ _ _ left c.next.ensures.steps w.in_default.is-0 c.next-2.ensures.steps w.in_default.is-1)
      | in_default-via-in_default w ↦ inl (refused_none c.args.text.now _ _ _ left c.next.ensures.steps w.in_default.is-0)
    ]

pub returns-in_err-top : goal.returns-in_err-top
returns-in_err-top c =
    let cut = c.split-parts.ensures in
    let two = two_parts c.args.text.now _ _ _ _ _ _ _ cut.text cut.has_more cut.pattern c.next.ensures.steps c.in-Some-Some.is-0 c.next-2.ensures.steps c.in-Some-Some.is-1 in
    let p = err_from_is_err_and c.from_residual.result c.from_residual.ensures.1 in
    rw (p.1, p.2) (inl (refused_first c.args.text.now _ _ two.others _ two.cut c.in_err-top.ensures))

pub returns-in_err-next : goal.returns-in_err-next
returns-in_err-next c =
    let cut = c.split-parts.ensures in
    let two = two_parts c.args.text.now _ _ _ _ _ _ _ cut.text cut.has_more cut.pattern c.next.ensures.steps c.in-Some-Some.is-0 c.next-2.ensures.steps c.in-Some-Some.is-1 in
    let p = err_from_is_err_and c.from_residual-in_err-next.result c.from_residual-in_err-next.ensures.1 in
    let top = c.in_ok-top.ensures in
    rw (p.1, p.2) (inl (refused_second c.args.text.now _ _ two.others c.in_ok-top.top _ two.cut top.0 top.1 c.in_err-next.ensures))

pub returns-in_err-push_number : goal.returns-in_err-push_number
returns-in_err-push_number c =
    let cut = c.split-parts.ensures in
    let two = two_parts c.args.text.now _ _ _ _ _ _ _ cut.text cut.has_more cut.pattern c.next.ensures.steps c.in-Some-Some.is-0 c.next-2.ensures.steps c.in-Some-Some.is-1 in
    let p = err_from_is_err_and c.from_residual-in_err-push_number.result c.from_residual-in_err-push_number.ensures.1 in
    let top = c.in_ok-top.ensures in
    let next = c.in_ok-next.ensures in
    rw (p.1, p.2) (inr (refl, begun_two c.args.text.now _ _ c.in_ok-top.top c.in_ok-next.next _ two top.0 next.0 (top.1, next.1)))

pub returns-in_err-push_number-2 : goal.returns-in_err-push_number-2
returns-in_err-push_number-2 c =
    let p = err_from_is_err_and c.from_residual-in_err-push_number-2.result c.from_residual-in_err-push_number-2.ensures.1 in
    rw (p.1, p.2) (inr (refl, begun c.args.text.now _ _ _ _ (c.in_ok-top.ensures.1, c.in_ok-next.ensures.1) c.loop-part.invariant))

pub loop-part-init : goal.loop-part-init
loop-part-init c =
    let cut = c.split-parts.ensures in
    let two = two_parts c.args.text.now _ _ _ _ _ _ _ cut.text cut.has_more cut.pattern c.next.ensures.steps c.in-Some-Some.is-0 c.next-2.ensures.steps c.in-Some-Some.is-1 in
    let top = c.in_ok-top.ensures in
    let next = c.in_ok-next.ensures in
    HasRead-two c.args.text.now _ _ _ _ _ _ c.new-octets.result.items _ two c.into_iter-part-iterator.ensures.into_iter_gives top.0 next.0 c.new-octets.ensures.items
    c.in_ok-push_number.ensures

pub returns-in_err-number : goal.returns-in_err-number
returns-in_err-number c =
    let read = c.loop-part.invariant in
    let one = some_next _ _ _ c.in-Some.part read.rest read.left c.next-in-loop-part.ensures.steps c.in-Some.is in
    let p = err_from_is_err_and c.from_residual-in_err-number.result c.from_residual-in_err-number.ensures.1 in
    rw (p.1, p.2) (inl (refused_further c.args.text.now _ _ _ _ _ _ _ (c.in_ok-top.ensures.1, c.in_ok-next.ensures.1) read one c.in_err-number.ensures))

pub loop-part-preserved : goal.loop-part-preserved
loop-part-preserved c =
    let read = c.loop-part.invariant in
    let one = some_next _ _ _ c.in-Some.part read.rest read.left c.next-in-loop-part.ensures.steps c.in-Some.is in
    HasRead-more c.args.text.now _ _ _ c.in_ok-number.number _ _ _ _ read one c.in_ok-number.ensures.0 (omega (arith, c.in_ok-number.ensures.1)) c.in_ok-push_number-2.ensures

pub returns : goal.returns
returns c =
    let read = c.loop-part.invariant in
    read_all c.args.text.now _ _ _ _ (c.in_ok-top.ensures.1, c.in_ok-next.ensures.1) read (no_next _ _ _ read.rest read.left c.next-in-loop-part.ensures.steps c.in-None.is)
