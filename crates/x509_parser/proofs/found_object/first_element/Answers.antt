use Rattle.std.proofs.Common.{refl, arith}
use Rattle.x509_parser.proofs.Rest.{behind_one, behind_none}
use Rattle.x509_parser.proofs.found_object.first_element.Goals as goal

pub returns-in-Some-clause-rest : goal.returns-in-Some-clause-rest
returns-in-Some-clause-rest c =
    behind_one _ _ _ c.cut-elements.result.count _ c.cut-elements.ensures.window (c.in-Some.ensures.variant.0 refl) c.cut-elements.result.few c.in-Some.ensures.element c.tail.ensures

pub returns-in-None-clause-rest : goal.returns-in-None-clause-rest
returns-in-None-clause-rest c =
    behind_none _ _ c.cut-elements.result.count c.cut-elements.ensures.window (grind (arith, c.in-None.ensures.variant.1)) c.cut-elements.result.stops
