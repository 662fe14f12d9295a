-- What a service does with an input that was refused.
use Rattle.std.specs.Prelude.{true, if◌then◌else◌}
use Rattle.x509_der.specs.Promises.{is_excused}
use Rattle.x509_der.specs.declared.error.Err.{Err as Refusal}
use Rattle.x509_der.specs.declared.error.Err.TheVariants as refusals
use Rattle.x509_fields.specs.Errors.{is_x509_memory}
use Rattle.x509_fields.specs.declared.error.X509Error.{X509Error}
use Rattle.x509_uses.specs.declared.refusals.Next.{Next}
use Rattle.x509_uses.specs.declared.refusals.Next.TheVariants.{AwaitMore, TryAgain, Refuse}

-- the rest of an input that ended too early, another try where memory was wanting, and else nothing
abbrev pub what_next : Refusal X509Error → Next
what_next refusals.Incomplete = AwaitMore
what_next refusal = if is_excused is_x509_memory true refusal then TryAgain else Refuse
