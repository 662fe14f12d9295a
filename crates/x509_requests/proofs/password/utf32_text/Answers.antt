use Rattle.std.proofs.Common.{◌≡◌, ◌<◌, ◌≤◌, length, refl, inr, false, string_bytes, arith}
use Rattle.x509_requests.specs.PasswordTexts.{is_character}
use Rattle.x509_requests.proofs.FourOctets.{first_number, no_character, one_character, octets_left, none_left}
use Rattle.x509_requests.proofs.password.utf32_text.Goals as goal

pub returns-in_default-from_u32 : goal.returns-in_default-from_u32
returns-in_default-from_u32 c =
    let le : 4 ≤ length c.characters.rest.now = grind arith in
    let none : is_character (first_number c.characters.rest.now) ≡ false = grind arith in
    inr (refl, no_character (string_bytes c.characters.text) c.characters.rest.now (first_number c.characters.rest.now) _ le refl none c.characters.invariant)

pub characters-preserved : goal.characters-preserved
characters-preserved c =
    let le : 4 ≤ length c.characters.rest.now = grind arith in
    one_character (string_bytes c.characters.text) (string_bytes c.push.new.self) c.characters.rest.now c.in-Some.character _ le (grind arith) (grind arith) (grind arith) c.characters.invariant

pub returns-then-not-is_empty : goal.returns-then-not-is_empty
returns-then-not-is_empty c =
    let some : 0 < length c.characters.rest.now = grind arith in
    inr (refl, octets_left (string_bytes c.characters.text) c.characters.rest.now _ (grind arith) some c.characters.invariant)

pub returns : goal.returns
returns c = none_left (string_bytes c.characters.text) c.characters.rest.now _ (grind arith) c.characters.invariant
