use Rattle.std.proofs.Common.{arith, ◌≡◌, ◌+◌, ◌/◌, ◌*◌, ◌%◌, ◌-◌, ◌==◌, ℕ, length, slice_index, ap, sym, ◌∙◌}
use Rattle.x509_der.specs.declared.look.Form.TheVariants.{Loose}
use Rattle.x509_der.specs.Looks.{header_of}
use Rattle.x509_der.proofs.Looks.{header_ends, unpacked_is, packed_wanted}
use Rattle.x509_der.proofs.look.packed_header.Goals as goal

pub overflow_sub-size : goal.overflow_sub-size
overflow_sub-size c =
    let e = header_ends c.args.i.now c.in-Ok.beyond.now (header_of c.in-Ok.seen) (λ k. omega (arith, c.type_inv.i k)) (c.in-Ok.ensures.exact Loose) in
    omega (arith, e.1)

pub returns-then-seen-clause-found : goal.returns-then-seen-clause-found
returns-then-seen-clause-found c = λ some form.
    let e = header_ends c.args.i.now c.in-Ok.beyond.now (header_of c.in-Ok.seen) (λ k. omega (arith, c.type_inv.i k)) (c.in-Ok.ensures.exact Loose) in
    let d = length c.args.i.now - length c.in-Ok.beyond.now in
    let numbers = c.from.result * 4294967296 + c.from-in-Ok.result in
    let half : (2 * d + 1) / 2 ≡ d = omega arith in
    let odd : (2 * d + 1) % 2 ≡ 1 = omega arith in
    let tag : numbers / 4294967296 ≡ c.in-Ok.seen.tag.0 = omega (arith, c.in-Ok.ensures.fits) in
    let len : numbers % 4294967296 ≡ c.in-Ok.seen.length = omega (arith, c.in-Ok.ensures.fits) in
    packed_wanted form c.args.i.now c.in-Ok.beyond.now c.in-Ok.seen (slice_index c.args.i.now 0) numbers (2 * d + 1) (c.in-Ok.ensures.exact form)
    (rw half e.0)
    (unpacked_is c.in-Ok.seen (slice_index c.args.i.now 0) numbers (2 * d + 1) c.in-Ok.ensures.first tag len (ap (λ (k : ℕ). k == 1) odd ∙ sym c.if-seen.true))

pub returns-then-seen-clause-refused : goal.returns-then-seen-clause-refused
returns-then-seen-clause-refused c = λ none form. absurd (omega (arith, none))

pub returns-else-seen-clause-found : goal.returns-else-seen-clause-found
returns-else-seen-clause-found c = λ some form.
    let e = header_ends c.args.i.now c.in-Ok.beyond.now (header_of c.in-Ok.seen) (λ k. omega (arith, c.type_inv.i k)) (c.in-Ok.ensures.exact Loose) in
    let d = length c.args.i.now - length c.in-Ok.beyond.now in
    let numbers = c.from.result * 4294967296 + c.from-in-Ok.result in
    let half : 2 * d / 2 ≡ d = omega arith in
    let even : 2 * d % 2 ≡ 0 = omega arith in
    let tag : numbers / 4294967296 ≡ c.in-Ok.seen.tag.0 = omega (arith, c.in-Ok.ensures.fits) in
    let len : numbers % 4294967296 ≡ c.in-Ok.seen.length = omega (arith, c.in-Ok.ensures.fits) in
    packed_wanted form c.args.i.now c.in-Ok.beyond.now c.in-Ok.seen (slice_index c.args.i.now 0) numbers (2 * d) (c.in-Ok.ensures.exact form)
    (rw half e.0)
    (unpacked_is c.in-Ok.seen (slice_index c.args.i.now 0) numbers (2 * d) c.in-Ok.ensures.first tag len (ap (λ (k : ℕ). k == 1) even ∙ sym c.if-seen.false))

pub returns-else-seen-clause-refused : goal.returns-else-seen-clause-refused
returns-else-seen-clause-refused c = λ none form.
    let e = header_ends c.args.i.now c.in-Ok.beyond.now (header_of c.in-Ok.seen) (λ k. omega (arith, c.type_inv.i k)) (c.in-Ok.ensures.exact Loose) in
    absurd (omega (arith, e.1, none))
