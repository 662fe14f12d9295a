-- Members of a SET OF (X.690, 8.12), however many take memory.
use Rattle.std.specs.Prelude.{List}
use Rattle.x509_der.specs.declared.set_of.Held.{Held}
use Rattle.x509_der.specs.declared.set_of.Held.TheVariants as held

abbrev pub members_in : {T : Type 0} → Held T → List T
members_in (held.One members) = members
members_in (held.Many members) = members
