-- The blocks of a PEM text (RFC 7468): what stands between a line that begins a block and one that ends it.
use Rattle.std.specs.Prelude.{ℕ, ◌+◌, ◌==◌, ◌-◌, ◌^◌, min, List, [], ◌++◌, Bool, false, if◌then◌else◌, Option, Some, None, option_map, option_and_then, option_to_list, codes, length, take, drop, filter, fold, nat_lt}
use Rattle.std.specs.List.{slice_split}
use Rattle.std.specs.Str.{bytes_eq}
use Rattle.std.specs.Str.Lines.{strip_carriage_return}

-- at is the octet of its BEGIN line
pub record Pem : Type 0 where
  pub at : ℕ
  pub label : List ℕ
  pub symbols : List ℕ
  pub whole : Bool

-- at is the octet of the next line
pub record Reading : Type 0 where
  pub at : ℕ
  pub found : List Pem
  pub held : Option Pem

-- what stands behind a front, and before an end
abbrev pub behind : List ℕ → List ℕ → Option (List ℕ)
behind front s = if bytes_eq (take (length front) s) front then Some (drop (length front) s) else None

abbrev pub before : List ℕ → List ℕ → Option (List ℕ)
before end s = if bytes_eq (drop (length s - length end) s) end then Some (take (length s - length end) s) else None

-- the label of a line that begins with this front, as of `-----BEGIN CERTIFICATE-----`
abbrev pub label_after : List ℕ → List ℕ → Option (List ℕ)
label_after front line = option_and_then (before (codes "-----")) (behind front line)

-- every octet but spaces and controls
abbrev pub symbols_of : List ℕ → List ℕ
symbols_of line = filter (λ b. nat_lt 32 b) line

abbrev pub fresh : ℕ → List ℕ → Pem
fresh at label = record { at = at; label = label; symbols = []; whole = false }

abbrev pub ended : List ℕ → Pem → Pem
ended label p = record { at = p.at; label = p.label; symbols = p.symbols; whole = bytes_eq p.label label }

abbrev pub with_line : List ℕ → Pem → Pem
with_line line p = record { at = p.at; label = p.label; symbols = p.symbols ++ symbols_of line; whole = p.whole }

-- what a line that begins no block does, by the label that it ends a block of
abbrev pub step_end : Reading → List ℕ → Option (List ℕ) → Reading
step_end r line (Some label) = record { at = r.at; found = r.found ++ option_to_list (option_map (ended label) r.held); held = None }
step_end r line None = record { at = r.at; found = r.found; held = option_map (with_line line) r.held }

abbrev pub step_begin : Reading → List ℕ → Option (List ℕ) → Reading
step_begin r line (Some label) = record { at = r.at; found = r.found ++ option_to_list r.held; held = Some (fresh r.at label) }
step_begin r line None = step_end r line (label_after (codes "-----END ") line)

-- one line
abbrev pub step_line : Reading → List ℕ → Reading
step_line r line = step_begin r line (label_after (codes "-----BEGIN ") line)

-- the octet behind a line and its newline; there it stops at the greatest number of 64 bits
abbrev pub behind_line : ℕ → List ℕ → ℕ
behind_line at line = min (min (at + length line) (2 ^ 64 - 1) + 1) (2 ^ 64 - 1)

abbrev pub moved : ℕ → Reading → Reading
moved at r = record { at = at; found = r.found; held = r.held }

unfoldable pub step : Reading → List ℕ → Reading
step r line = moved (behind_line r.at line) (step_line r (strip_carriage_return line))

abbrev pub start : Reading
start = record { at = 0; found = []; held = None }

abbrev pub all_of : Reading → List Pem
all_of r = r.found ++ option_to_list r.held

abbrev pub lines_of : List ℕ → List (List ℕ)
lines_of text = slice_split (λ b. b == 10) text

-- the blocks of a text in order: those with an end line, and those that another BEGIN line or the end of the text cut off
abbrev pub blocks_of : List ℕ → List Pem
blocks_of text = all_of (fold step start (lines_of text))
