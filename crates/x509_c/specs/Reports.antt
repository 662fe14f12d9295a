-- Reports of objects as C sees them.
use Rattle.std.specs.Prelude.{◌≡◌, ℕ, Bool, false, List, [], Option, Some, None, codes, ◌==◌, ◌||◌, ◌⊎◌}
use Rattle.json.specs.Json.{Json}
use Rattle.json.specs.Print.{print}
use Rattle.x509_report_lines.specs.Says.{written}
use Rattle.x509_report_objects.specs.Places.{Found, Wishes}
use Rattle.x509_report_objects.specs.declared.kind.Kind.{Kind}
use Rattle.x509_c.specs.Text.{ShowsText}

-- what is wanted by a kind's number
abbrev pub wishes_by : ℕ → Bool → Wishes
wishes_by kind strict = record {
  certificates = kind == 0 || kind == 1;
  lists = kind == 0 || kind == 2;
  requests = kind == 0 || kind == 3;
  strict = strict;
  fingerprints = false;
}

-- a buffer is no file
abbrev pub nowhere : Found
nowhere = record { file = codes "-"; index = 0; offset = 0; label = None }

-- 0 where a reader takes the object, and 50 where none does
abbrev pub status_of_kind : Option Kind → ℕ
status_of_kind (Some kind) = 0
status_of_kind None = 50

-- the line of what is told, or 2 where memory was wanting, and all as it was
abbrev pub TellsJson : Option Kind × Json → List ℕ → ℕ → Type 0 → ℕ → Type 0
TellsJson said out told Kept status = ((status ≡ status_of_kind said.0) × ShowsText out told (print (written [] said.1))) ⊎ ((status ≡ 2) × Kept)
