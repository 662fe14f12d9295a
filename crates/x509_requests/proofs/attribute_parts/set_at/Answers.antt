use Rattle.std.proofs.Common.{rules, ◌≡◌, Ok}
use Rattle.x509_der.specs.Leaves.{any}
use Rattle.x509_der.specs.Place.{at}
use Rattle.x509_der.specs.Looks.{behind}
use Rattle.x509_der.specs.Reading.{element_of, element_at, strict}
use Rattle.x509_requests.proofs.ElementSizes.{element_sizes}
use Rattle.x509_requests.proofs.attribute_parts.set_at.Goals as goal

pub returns-clause-sizes : goal.returns-clause-sizes
unfolding any
returns-clause-sizes g c =
    let read : element_at strict (at c.args.place.now) ≡ Ok (behind (at c.args.place.now), element_of c.in-Ok.element) = search rules in
    element_sizes (at c.args.place.now) (element_of c.in-Ok.element) (behind (at c.args.place.now)) c.args.place.now.octets read
