-- What is told of the objects of a file (lines, one behind another, and whether every object was taken), and what a printer writes of it.
use Rattle.std.specs.Prelude.{◌≡◌, ℕ, ◌≤◌, List, [], ◌++◌, Bool, true, false, ◌&&◌, Option, Some, None, Result, Ok, Err, ⊤, flat_map, length, take}
use Rattle.std.specs.Io.KnownBytes.{Appends}
use Rattle.json.specs.Json.{Json}
use Rattle.x509_report_lines.specs.Kept.{Kept}
use Rattle.x509_report.specs.Texts.{object_said}
use Rattle.x509_report.specs.declared.options.Form.{Form}
use Rattle.x509_report.specs.declared.stop.Stop.{Stop}
use Rattle.x509_report.specs.declared.stop.Stop.TheVariants as stops

pub record Told : Type 0 where
  pub taken : Bool
  pub lines : List (List ℕ)

abbrev pub nothing : Told
nothing = record { taken = true; lines = [] }

abbrev pub both : Told → Told → Told
both a b = record { taken = a.taken && b.taken; lines = a.lines ++ b.lines }

-- one object, that was taken, or wasn't
abbrev pub one : Form → Bool → Json → Told
one form taken report = record { taken = taken; lines = object_said form report }

-- lines that say of no object that it was refused
abbrev pub alone : List (List ℕ) → Told
alone lines = record { taken = true; lines = lines }

abbrev pub text : List (List ℕ) → List ℕ
text lines = flat_map (λ line. line) lines

-- the first of the lines are written, each of them whole
pub record WritesFront (old new : Option (List ℕ)) (lines : List (List ℕ)) : Type 0 where
  pub count : ℕ
  pub within : count ≤ length lines
  pub text : Appends old new (text (take count lines))

-- ---- a printer

-- what it has written, where that is known; whether every object was taken; and where it writes nothing any more, why
pub record Printed : Type 0 where
  pub written : Option (List ℕ)
  pub taken : Bool
  pub stopped : Option Stop

-- Where it hasn't stopped, all is told. Where memory was refused, the first of the lines are written; where a write failed, nothing is said.
abbrev pub Tells : Option Stop → Printed → Printed → Told → Type 0
Tells None old new told = Appends old.written new.written (text told.lines) × (new.taken ≡ (old.taken && told.taken))
Tells (Some stops.Memory) old new told = WritesFront old.written new.written told.lines
Tells (Some stops.Write) old new told = ⊤

-- this is told; what had stopped before writes nothing, and has stopped for the same reason
pub record Prints (old new : Printed) (told : Told) : Type 0 where
  pub lines : Tells new.stopped old new told
  pub still : (why : Stop) → old.stopped ≡ Some why → (new.stopped ≡ Some why) × (new.written ≡ old.written)

-- why it has stopped, once memory is refused
abbrev pub reason : Option Stop → Stop
reason None = stops.Memory
reason (Some why) = why

-- memory is refused
abbrev pub halted : Printed → Printed
halted p = record p { stopped = Some (reason p.stopped) }

-- at the end, whether every object was taken, or why it has stopped
abbrev pub outcome_of : Option Stop → Bool → Result Bool Stop
outcome_of None taken = Ok taken
outcome_of (Some why) taken = Err why

abbrev pub outcome : Printed → Result Bool Stop
outcome p = outcome_of p.stopped p.taken

-- where no memory was refused for it, this stands there
abbrev pub Holds : {A : Type 0} → Kept A → A → Type 0
Holds kept all = kept.stopped ≡ false → kept.so_far ≡ all
