-- A block is found whatever stands before it, and what stands behind it is read as if it stood alone.
use Rattle.std.proofs.Common.{◌≡◌, ℕ, List, [], ◌∷◌, ◌++◌, Bool, false, refl, ap, ◌∙◌, codes}
use Rattle.std.specs.Prelude.{Some, None, fold}
use Rattle.std.proofs.lemmas.List.Sums.{fold-append}
use Rattle.std.specs.Str.{bytes_eq}
use Rattle.std.specs.Str.Lines.{strip_carriage_return}
use Rattle.x509_report_lines.specs.Blocks.{Pem, Reading, behind_line, step, all_of, label_after, fresh, symbols_of}

-- a line that begins a block with this label, one that ends one, and one that does neither
abbrev pub Begins : List ℕ → List ℕ → Type 0
Begins label line = label_after (codes "-----BEGIN ") (strip_carriage_return line) ≡ Some label

abbrev pub Ends : List ℕ → List ℕ → Type 0
Ends label line =
    (label_after (codes "-----BEGIN ") (strip_carriage_return line) ≡ None)
    × (label_after (codes "-----END ") (strip_carriage_return line) ≡ Some label)

pub record IsBody (line : List ℕ) : Type 0 where
  pub begins : label_after (codes "-----BEGIN ") (strip_carriage_return line) ≡ None
  pub ends : label_after (codes "-----END ") (strip_carriage_return line) ≡ None

abbrev pub AreBody : List (List ℕ) → Type 0
AreBody [] = Unit {0}
AreBody (l ∷ ls) = IsBody l × AreBody ls

-- the base64 text of these lines behind that of others
abbrev pub symbols_in : List ℕ → List (List ℕ) → List ℕ
symbols_in before [] = before
symbols_in before (l ∷ ls) = symbols_in (before ++ symbols_of (strip_carriage_return l)) ls

-- where the line behind these begins
abbrev pub behind_lines : ℕ → List (List ℕ) → ℕ
behind_lines at [] = at
behind_lines at (l ∷ ls) = behind_lines (behind_line at l) ls

abbrev pub block : ℕ → List ℕ → List ℕ → Bool → Pem
block first label symbols whole = record { at = first; label = label; symbols = symbols; whole = whole }

abbrev pub holding : ℕ → List Pem → Pem → Reading
holding at found p = record { at = at; found = found; held = Some p }

abbrev pub found_only : ℕ → List Pem → Reading
found_only at found = record { at = at; found = found; held = None }

begun : (r : Reading) (label line : List ℕ) → Begins label line → step r line ≡ holding (behind_line r.at line) (all_of r) (fresh r.at label)
unfolding step
begun r label line h = rw h refl

added : (at first : ℕ) (found : List Pem) (label symbols line : List ℕ) → IsBody line → step (holding at found (block first label symbols false)) line ≡ holding (behind_line at line) found (block first label (symbols ++ symbols_of (strip_carriage_return line)) false)
unfolding step
added at first found label symbols line h = rw (h.begins, h.ends) refl

body : (at first : ℕ) (found : List Pem) (label symbols : List ℕ) (ls : List (List ℕ)) → AreBody ls → fold step (holding at found (block first label symbols false)) ls ≡ holding (behind_lines at ls) found (block first label (symbols_in symbols ls) false)
body at first found label symbols [] h = refl
body at first found label symbols (l ∷ ls) h = ap (λ r. fold step r ls) (added at first found label symbols l h.0) ∙ body (behind_line at l) first found label (symbols ++ symbols_of (strip_carriage_return l)) ls h.1

closed : (at first : ℕ) (found : List Pem) (label symbols line : List ℕ) → Ends label line → step (holding at found (block first label symbols false)) line ≡ found_only (behind_line at line) (found ++ block first label symbols (bytes_eq label label) ∷ [])
unfolding step
closed at first found label symbols line h = rw (h.0, h.1) refl

-- whatever was read before, the lines of a block add the block; nothing of it is left open
pub whole_block_found : (r : Reading) (label first last : List ℕ) (ls : List (List ℕ)) → Begins label first → AreBody ls → Ends label last
    → fold step r (first ∷ (ls ++ last ∷ []))
    ≡ found_only (behind_line (behind_lines (behind_line r.at first) ls) last) (all_of r ++ block r.at label (symbols_in [] ls) (bytes_eq label label) ∷ [])
whole_block_found r label first last ls b h e =
    fold-append step (step r first) ls (last ∷ [])
    ∙ ap (λ q. step (fold step q ls) last) (begun r label first b)
    ∙ ap (λ q. step q last) (body (behind_line r.at first) r.at (all_of r) label [] ls h)
    ∙ closed (behind_lines (behind_line r.at first) ls) r.at (all_of r) label (symbols_in [] ls) last e
