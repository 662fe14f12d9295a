use Rattle.std.proofs.Common.{◌≡◌, ◌≤◌, ◌∙◌, length, take, get_or, refl, sym, ap, arith}
use Rattle.std.specs.Int.Digits.{number_from_digits}
use Rattle.std.proofs.lemmas.List.{get_or-take, length-take, take_all, take_min}
use Rattle.std.proofs.lemmas.Int.Digits.{number_more}
use Rattle.x509_der.proofs.UnsignedLemmas.{is_numeral}
use Rattle.x509_revoked.proofs.Heads.{head_of_many, head_of_octets, count_of, one_more, at_most_seven}
use Rattle.x509_revoked.proofs.headed_serial.head_of.Goals as goal

pub returns-then-octets : goal.returns-then-octets
returns-then-octets c =
    let count = count_of c.args.serial.now.bytes.now (is_numeral c.args.serial.now) in
    sym (head_of_many (number_from_digits 256 c.args.serial.now.bytes.now) (omega (arith, count, ap length c.as_bytes-octets.ensures.digits, c.if-octets.true)))

pub loop-octet-init : goal.loop-octet-init
loop-octet-init c = record { number = refl; fits = omega arith }

pub overflow_mul-first : goal.overflow_mul-first
overflow_mul-first c =
    let octets = c.as_bytes-octets.result.now in
    let i = c.loop-octet.octet-index in
    let few : i ≤ 7 = omega (arith, c.loop-octet-test.true, length-take c.min.result octets, c.min.ensures) in
    let small = at_most_seven i c.loop-octet.first few c.loop-octet.invariant.fits in
    omega (arith, small)

pub overflow_add-first : goal.overflow_add-first
overflow_add-first c =
    let octets = c.as_bytes-octets.result.now in
    let i = c.loop-octet.octet-index in
    let few : i ≤ 7 = omega (arith, c.loop-octet-test.true, length-take c.min.result octets, c.min.ensures) in
    let small = at_most_seven i c.loop-octet.first few c.loop-octet.invariant.fits in
    let octet = get_or-take c.min.result octets i 0 (omega (arith, c.loop-octet-test.true, length-take c.min.result octets)) in
    omega (arith, small, octet, c.type_inv.octets i)

pub loop-octet-preserved : goal.loop-octet-preserved
loop-octet-preserved c =
    let octets = c.as_bytes-octets.result.now in
    let i = c.loop-octet.octet-index in
    let octet = get_or-take c.min.result octets i 0 (omega (arith, c.loop-octet-test.true, length-take c.min.result octets)) in
    record {
      number = omega (arith, number_more 256 (take c.min.result octets) i c.loop-octet-test.true, c.loop-octet.invariant.number);
      fits = one_more i c.loop-octet.first (get_or (take c.min.result octets) i 0) c.loop-octet.invariant.fits (omega (arith, octet, c.type_inv.octets i));
    }

pub overflow_add-result : goal.overflow_add-result
overflow_add-result c =
    let octets = c.as_bytes-octets.result.now in
    let few : c.loop-octet.octet-index ≤ 7 = omega (arith, c.loop-octet.auto.octet-index-end, length-take c.min.result octets, c.min.ensures) in
    let small = at_most_seven c.loop-octet.octet-index c.loop-octet.first few c.loop-octet.invariant.fits in
    omega (arith, small, c.if-octets.false)

pub returns : goal.returns
returns c =
    let octets = c.as_bytes-octets.result.now in
    let items = take c.min.result octets in
    let first : number_from_digits 256 (take c.loop-octet.octet-index items) ≡ number_from_digits 256 (take 7 octets) =
    ap (number_from_digits 256) (take_all c.loop-octet.octet-index items c.loop-octet-test.false ∙ ap (λ n. take n octets) (c.min.ensures ∙ omega arith)
    ∙ take_min 7 octets) in
    let digits = c.as_bytes-octets.ensures.digits in
    let head = head_of_octets c.args.serial.now.bytes.now (is_numeral c.args.serial.now) (omega (arith, ap length digits, c.if-octets.false)) in
    omega (arith, head, first, c.loop-octet.invariant.number, ap length digits, ap (λ ds. number_from_digits 256 (take 7 ds)) digits)
