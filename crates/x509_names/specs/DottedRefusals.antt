-- Why a text is refused: numbers have no leading zero (RFC 4512, section 1.4), and the first two arcs are bounded (X.690, 8.19.4).
use Rattle.std.specs.Prelude.{◌≡◌, ◌⊎◌, ◌-◌, ◌^◌, ◌==◌, ◌&&◌, Bool, not, ℕ, List, [], ◌∷◌, Option, Some, None, drop, length, slice_index, nat_lt, if◌then◌else◌}
use Rattle.std.specs.List.{list_all, slice_split}
use Rattle.std.specs.Option.{option_or}
use Rattle.std.specs.Char.{is_ascii_digit}
use Rattle.std.specs.Str.Parse.{digits_value}
use Rattle.x509_names.specs.Arcs.{most_second}
use Rattle.x509_names.specs.declared.parse_error.ParseOidError.{ParseOidError}
use Rattle.x509_names.specs.declared.parse_error.ParseOidError.TheVariants.{TooFewArcs, NotANumber, LeadingZero, FirstArcTooLarge, SecondArcTooLarge, ArcTooLarge, OutOfMemory}

-- one decimal digit or more, and nothing else
abbrev pub is_numeral : List ℕ → Bool
is_numeral text = not (length text == 0) && list_all is_ascii_digit text

-- a 0 (48) in front of other digits
abbrev pub has_leading_zero : List ℕ → Bool
has_leading_zero text = nat_lt 1 (length text) && slice_index text 0 == 48

-- why a text is no arc of at most `most`: it is no number, or one with a leading zero, or a greater one
abbrev pub arc_refusal : ℕ → ParseOidError → List ℕ → Option ParseOidError
arc_refusal most above text = if not (is_numeral text) then Some NotANumber
    else (if has_leading_zero text then Some LeadingZero
    else (if nat_lt most (digits_value 10 text) then Some above else None))

-- why a text is no second arc under this first one
abbrev pub second_refusal : ℕ → List ℕ → Option ParseOidError
second_refusal x text = arc_refusal (most_second x) (if nat_lt x 2 then SecondArcTooLarge else ArcTooLarge) text

-- what stands between the dots (46)
abbrev pub parts : List ℕ → List (List ℕ)
parts text = slice_split (λ c. c == 46) text

-- why the parts do not begin with two arcs: there is one part alone, or the first is no arc, or else the second
abbrev pub begin_refusal : List (List ℕ) → Option ParseOidError
begin_refusal (first ∷ second ∷ _) = option_or (arc_refusal 2 FirstArcTooLarge first) (second_refusal (digits_value 10 first) second)
begin_refusal _ = Some TooFewArcs

-- why the first of these, from the left, that is no arc behind two others is none
abbrev pub further_refusal : List (List ℕ) → Option ParseOidError
further_refusal [] = None
further_refusal (text ∷ texts) = option_or (arc_refusal (2 ^ 64 - 1) ArcTooLarge text) (further_refusal texts)

-- why a text is refused: it has no dot, or its first part, from the left, that is no arc where it stands is none for this reason
abbrev pub refusal : List ℕ → Option ParseOidError
refusal text = option_or (begin_refusal (parts text)) (further_refusal (drop 2 (parts text)))

-- what an error says: the text is refused so, or memory was wanting, and the text begins with two arcs
abbrev pub IsReason : List ℕ → ParseOidError → Type 0
IsReason text e = (refusal text ≡ Some e) ⊎ ((e ≡ OutOfMemory) × (begin_refusal (parts text) ≡ None))
