-- How the runs of two validators, or of two parts of one, make one run.
use Rattle.std.proofs.Common.{List, refl}
use Rattle.x509_fields.specs.declared.error.X509Error.TheVariants.{OutOfMemory}
use Rattle.x509_validators.specs.Message.{Message, Logged, WantsMemory}
use Rattle.x509_fields.specs.Steps.{StoppedAt}
use Rattle.x509_fields.proofs.Steps.{running, StoppedAt-now, Took-flat_map, StoppedAt-flat_map}
use Rattle.x509_validators.proofs.Findings.{Took-findings, StoppedAt-findings, all_sound-more}

-- memory may run out at any moment
pub memory-wanted : {L : Type 0} (step : L → Message → Logged → L → Type 0) (s : L) (ms : List Message) → StoppedAt WantsMemory step s ms OutOfMemory s
memory-wanted step s ms = StoppedAt-now WantsMemory step s ms OutOfMemory refl

pub ruleset logging = (running, memory-wanted, Took-flat_map, StoppedAt-flat_map, Took-findings, StoppedAt-findings, all_sound-more)
