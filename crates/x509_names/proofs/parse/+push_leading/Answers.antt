use Rattle.std.proofs.Common.{append_assoc}
use Rattle.x509_names.proofs.DottedOctets.{leading_octets-step}
use Rattle.x509_names.proofs.parse.+push_leading.Goals as goal

pub returns-in_ok-push : goal.returns-in_ok-push
returns-in_ok-push t c =
    rw (c.in_ok-push.ensures.items, c.in_ok-push_leading.ensures, leading_octets-step c.args.number c.if-number-gt0.true) (append_assoc c.args.octets.now.items _ _)
