-- What leads to the octet leads on from the member that was reached.
use Rattle.std.proofs.Common.{◌≡◌, ◌-◌, []}
use Rattle.std.specs.Prelude.{string_bytes}
use Rattle.x509_elements.specs.Paths.{deepest, path}
use Rattle.x509_elements.proofs.path.path_to.Given as goal

abbrev pub invariant-loop : goal.invariant-loop
invariant-loop l = path (deepest - l.counter) l.part l.window l.at (string_bytes l.text) ≡ path deepest l.fn.object l.octets l.octet []
