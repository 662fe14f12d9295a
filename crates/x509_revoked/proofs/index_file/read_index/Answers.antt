use Rattle.std.proofs.Common.{◌++◌, ◌∙◌, inr, ap, arith}
use Rattle.x509_revoked.specs.IndexFile.{head_octets, offset_octets}
use Rattle.x509_revoked.proofs.Codes.{read_whole}
use Rattle.x509_revoked.proofs.index_file.read_index.Goals as goal

pub returns-in-Err : goal.returns-in-Err
returns-in-Err c = inr (λ offsets counted is. c.in-Err.ensures (offset_octets offsets) (is ∙ ap (λ n. head_octets n c.args.octets ++ offset_octets offsets) counted))

pub returns-then-len-entries : goal.returns-then-len-entries
returns-then-len-entries c = inr (λ offsets counted is.
    (let whole = read_whole c.args.entries c.args.octets c.args.file.now c.in-Ok.body.now c.in-Ok-take_offsets.offsets.items c.in-Ok-take_offsets.left.now offsets c.in-Ok.ensures c.in-Ok-take_offsets.ensures.0 c.in-Ok-take_offsets.ensures.1 counted is in
    omega (arith, whole.0)))

pub returns-then-len-entries-2 : goal.returns-then-len-entries-2
returns-then-len-entries-2 c = inr (λ offsets counted is.
    (let whole = read_whole c.args.entries c.args.octets c.args.file.now c.in-Ok.body.now c.in-Ok-take_offsets.offsets.items c.in-Ok-take_offsets.left.now offsets c.in-Ok.ensures c.in-Ok-take_offsets.ensures.0 c.in-Ok-take_offsets.ensures.1 counted is in
    omega (arith, whole.0)))

pub returns-then-not-is_empty : goal.returns-then-not-is_empty
returns-then-not-is_empty c = inr (λ offsets counted is.
    (let whole = read_whole c.args.entries c.args.octets c.args.file.now c.in-Ok.body.now c.in-Ok-take_offsets.offsets.items c.in-Ok-take_offsets.left.now offsets c.in-Ok.ensures c.in-Ok-take_offsets.ensures.0 c.in-Ok-take_offsets.ensures.1 counted is in
    grind (arith, c.is_empty.ensures, c.if-not-is_empty.true, whole.1)))
