-- What is found so far, and what the lines that are left hold, are all that is refused; and each of these lines lies in the octets.
use Rattle.std.proofs.Common.{◌≡◌, ◌++◌, length}
use Rattle.x509_elements.specs.Walks.{left}
use Rattle.x509_elements.specs.Findings.{refused_left}
use Rattle.x509_elements.specs.RefusedValues.{refused_values}
use Rattle.x509_elements.proofs.Within.{AreWithin}
use Rattle.x509_elements.proofs.refused.finding.refused_values.Given as goal

abbrev pub invariant-loop-found : goal.invariant-loop-found
invariant-loop-found l = record {
  all : refused_values l.fn.object l.octets ≡ l.refused.items ++ refused_left l.octets l.reading (left l.found-iterator);
  within : AreWithin (length l.octets) (left l.found-iterator);
}
