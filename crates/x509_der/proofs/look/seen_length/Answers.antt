use Rattle.std.proofs.Common.{◌≡◌, ◌-◌, ◌≤◌, length, drop, slice_index_or, arith, rules}
use Rattle.std.proofs.lemmas.List.{length-drop, take_all}
use Rattle.x509_der.proofs.Looks.{length_in_one, length_in_two}
use Rattle.x509_der.proofs.look.seen_length.Goals as goal

pub returns-in-130 : goal.returns-in-130
returns-in-130 c = λ form.
    let i = c.args.i.now in
    let is : slice_index_or i 0 0 ≡ 130 = search rules in
    let read = length_in_two form i (λ k. omega (arith, c.type_inv.i k)) c.in-130.len_at_least is in
    rw (c.from.ensures, c.from-in-130.ensures, take_all (length i - 3) (drop 3 i) (omega (arith, length-drop 3 i))) read

pub returns-in-129 : goal.returns-in-129
returns-in-129 c = λ form.
    let i = c.args.i.now in
    let is : slice_index_or i 0 0 ≡ 129 = search rules in
    let some : 2 ≤ length i = search rules in
    let read = length_in_one form i (λ k. omega (arith, c.type_inv.i k)) some is in
    rw (c.from-in-129.ensures, take_all (length i - 2) (drop 2 i) (omega (arith, length-drop 2 i))) read
