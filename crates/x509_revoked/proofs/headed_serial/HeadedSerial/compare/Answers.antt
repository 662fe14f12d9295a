use Rattle.std.proofs.Common.{arith}
use Rattle.x509_revoked.specs.Entries.{number_of}
use Rattle.x509_revoked.proofs.Heads.{less_by_heads, greater_by_heads}
use Rattle.x509_revoked.proofs.headed_serial.HeadedSerial.compare.Goals as goal

pub returns-then-self-other : goal.returns-then-self-other
returns-then-self-other c =
    let mine = c.args.self.now in
    let other = c.args.other.now in
    less_by_heads (number_of mine) (number_of other) mine.head other.head mine.is_head other.is_head (omega (arith, c.if-self-other.true))

pub returns-then-self-other-2 : goal.returns-then-self-other-2
returns-then-self-other-2 c =
    let mine = c.args.self.now in
    let other = c.args.other.now in
    greater_by_heads (number_of mine) (number_of other) mine.head other.head mine.is_head other.is_head (omega (arith, c.if-self-other-2.true))
