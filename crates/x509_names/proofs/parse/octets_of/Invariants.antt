use Rattle.x509_names.proofs.DottedParts.{HasRead}
use Rattle.x509_names.proofs.parse.octets_of.Given as goal

abbrev pub invariant-loop-part : goal.invariant-loop-part
invariant-loop-part l = HasRead l.text l.top l.next l.part-iterator l.octets.items
