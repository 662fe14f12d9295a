use Rattle.std.proofs.Common.{sym}
use Rattle.x509_names.proofs.Units.{no_unit, no_text, lone_char, last_surrogate, pair_there, no_pair_there}
use Rattle.x509_names.proofs.value_text.first_char.Goals as goal

pub returns-in_err-unit-clause-none : goal.returns-in_err-unit-clause-none
returns-in_err-unit-clause-none c = rw c.from_residual.ensures (no_unit _ c.in_err-unit.ensures.none)

pub returns-in-Some-clause-some : goal.returns-in-Some-clause-some
returns-in-Some-clause-some c =
    let first = c.in_ok-unit.ensures in
    rw c.in-Some.ensures.value.1 (lone_char _ _ c.in_ok-unit.unit first.some first.shorter c.in-Some.ensures.cases)

pub returns-in_err-partner-clause-none : goal.returns-in_err-partner-clause-none
returns-in_err-partner-clause-none c =
    let first = c.in_ok-unit.ensures in
    rw c.from_residual-in_err-partner.ensures
    (no_text _ _ first.shorter (last_surrogate _ _ c.in_ok-unit.unit first.some first.unit c.in_default.ensures.cases c.in_err-partner.ensures.none))

pub returns-in_err-character-clause-none : goal.returns-in_err-character-clause-none
returns-in_err-character-clause-none c =
    let first = c.in_ok-unit.ensures in
    rw c.from_residual-in_err-character.ensures
    (no_text _ _ first.shorter (no_pair_there _ _ _ c.in_ok-unit.unit c.in_ok-partner.partner first.some c.in_ok-partner.ensures.some first.unit c.in_default.ensures.cases (sym c.in_err-character.ensures)))

pub returns-clause-some : goal.returns-clause-some
returns-clause-some c =
    let first = c.in_ok-unit.ensures in
    let second = c.in_ok-partner.ensures in
    pair_there _ _ _ c.in_ok-unit.unit c.in_ok-partner.partner c.in_ok-character.character first.some second.some first.shorter second.shorter (sym c.in_ok-character.ensures)
