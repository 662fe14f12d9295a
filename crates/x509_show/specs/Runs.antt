-- How a run ends.
use Rattle.std.specs.Prelude.{◌≡◌, ℕ, ◌<◌, List, take, codes, Bool, true, false, Option}
use Rattle.std.specs.Io.KnownBytes.{Appends, Keeps}
use Rattle.x509_show.specs.Parts.{IsDrainedOf}
use Rattle.x509_show.specs.Report.{Report, IsOnly}
use Rattle.x509_show.specs.Commands.{IsReport, IsCommand}
use Rattle.x509_show.specs.declared.stop.Stop.{Stop}
use Rattle.x509_show.specs.declared.stop.Stop.TheVariants as stop

-- It wrote the whole of the one report of an input. With 0 and 1 that input is all that the source had.
pub record IsAnswered (command : List ℕ) (had left held holds : Option (List ℕ)) (status : ℕ) : Type 0 where
  pub input : List ℕ
  pub report : Report
  pub reported : IsOnly (IsReport command input) report
  pub text : Appends held holds report.text
  pub exit : status ≡ report.status
  pub whole : status < 2 → IsDrainedOf had left input

-- the sink took a beginning of `text`
pub record AppendsFront (held holds : Option (List ℕ)) (text : List ℕ) : Type 0 where
  pub count : ℕ
  pub took : Appends held holds (take count text)

-- It wrote a beginning of the one report of an input. With 0 and 1 in the report that input is all that the source had.
pub record IsCutShort (command : List ℕ) (had left held holds : Option (List ℕ)) : Type 0 where
  pub input : List ℕ
  pub report : Report
  pub reported : IsOnly (IsReport command input) report
  pub whole : report.status < 2 → IsDrainedOf had left input
  pub front : AppendsFront held holds report.text

-- Why it stopped: a read failed, or a write failed within the report, or memory was refused. Only a command that has an
-- input reads or needs memory. The two pairs of `Bool`s say whether the source and the sink had failed and have failed.
abbrev pub IsStopped : List ℕ → Bool → Bool → Option (List ℕ) → Option (List ℕ) → Bool → Bool → Option (List ℕ) → Option (List ℕ) → Stop → Type 0
IsStopped command rs rs' had left ws ws' held holds stop.Read = IsCommand command × (rs' ≡ true) × (ws' ≡ ws) × Keeps held holds
IsStopped command rs rs' had left ws ws' held holds stop.Write = (ws' ≡ true) × (rs' ≡ rs) × IsCutShort command had left held holds
IsStopped command rs rs' had left ws ws' held holds stop.Memory = IsCommand command × (rs' ≡ rs) × (ws' ≡ ws) × Keeps held holds

-- a read failed, or memory was refused and no read failed
abbrev pub ReadStops : Bool → Bool → Stop → Type 0
ReadStops before after stop.Read = after ≡ true
ReadStops before after stop.Write = ⊥
ReadStops before after stop.Memory = after ≡ before

-- a write failed within the text
abbrev pub WriteStops : Bool → Option (List ℕ) → Option (List ℕ) → List ℕ → Stop → Type 0
WriteStops after held holds text stop.Read = ⊥
WriteStops after held holds text stop.Write = (after ≡ true) × AppendsFront held holds text
WriteStops after held holds text stop.Memory = ⊥

-- what standard error is told of it
abbrev pub stop_words : Stop → List ℕ
stop_words stop.Read = codes "standard input can't be read"
stop_words stop.Write = codes "standard output can't be written"
stop_words stop.Memory = codes "out of memory"

-- Over a source and a sink that had not failed before, a run that stopped stopped for this reason and no other. The
-- `Bool`s say whether they have failed since.
abbrev pub IsOnlyCause : Bool → Bool → Stop → Type 0
IsOnlyCause rs' ws' cause = (command : List ℕ) (had left held holds : Option (List ℕ)) (stop : Stop)
    → IsStopped command false rs' had left false ws' held holds stop → stop ≡ cause
