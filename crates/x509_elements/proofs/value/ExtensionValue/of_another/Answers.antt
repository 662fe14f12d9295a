use Rattle.x509_elements.proofs.Unknown.{no_row}
use Rattle.x509_elements.proofs.value.ExtensionValue.of_another.Goals as goal

pub returns-else-eq-5 : goal.returns-else-eq-5
returns-else-eq-5 c = λ long. no_row c.args.identifier.now long c.if-eq.ensures c.if-eq-3.ensures c.if-eq-2.ensures c.if-eq-4.ensures c.if-eq-5.ensures
