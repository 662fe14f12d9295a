use Rattle.std.proofs.Common.{rules, ◌≡◌, ◌+◌, ◌++◌, ◌∷◌, ◌∙◌, [], Bool, true, false, List, take, refl, sym, ap, append-nil}
use Rattle.std.specs.List.{list_any}
use Rattle.std.specs.Option.{option_map}
use Rattle.std.specs.Prelude.{◌||◌, flat_map, string_bytes}
use Rattle.std.proofs.lemmas.Grind.{flat_map-append}
use Rattle.std.proofs.lemmas.List.{take_more}
use Rattle.x509_lists.specs.RevokedCertificate.{revoked_of}
use Rattle.x509_revoked_cli.specs.Answers.{answer_line, is_revoked}
use Rattle.x509_revoked_cli.specs.Search.{found_in}
use Rattle.x509_revoked_cli.specs.Serials.{number_of}
use Rattle.x509_revoked_cli.specs.declared.serials.Serial.{Serial}
use Rattle.x509_revoked_cli.proofs.report.report_serials.Goals as goal

or_false : (b : Bool) → (b || false) ≡ b
or_false true = refl
or_false false = refl

or_assoc : (a b c : Bool) → ((a || b) || c) ≡ (a || (b || c))
or_assoc true b c = refl
or_assoc false b c = refl

any_more : {X : Type 0} (p : X → Bool) (xs : List X) (x : X) → list_any p (xs ++ x ∷ []) ≡ (list_any p xs || p x)
any_more p [] x = or_false (p x)
any_more p (y ∷ ys) x = ap (λ b. p y || b) (any_more p ys x) ∙ sym (or_assoc (p y) (list_any p ys) (p x))

pub loop-serial-preserved : goal.loop-serial-preserved
loop-serial-preserved c =
    let serials = c.args.serials.now in
    let i = c.loop-serial.serial-index in
    let x : Serial = c.serial-item.result in
    let found = found_in c.args.search.now in
    let line = λ (s : Serial). answer_line s.word.now (found (number_of s)) in
    let revoked = λ (s : Serial). is_revoked (found (number_of s)) in
    let taken : take (i + 1) serials ≡ take i serials ++ x ∷ [] = take_more serials i x c.loop-serial-test.true ∙ ap (λ y. take i serials ++ y ∷ []) (sym c.serial-item.is) in
    let entry : option_map revoked_of c.in_ok-entry.entry ≡ found (number_of x) = c.in_ok-entry.ensures ∙ ap found c.number.ensures in
    let said : string_bytes c.in_ok-line.line ≡ line x = c.in_ok-line.ensures ∙ ap (answer_line x.word.now) entry in
    let pushed : string_bytes c.push_str.new.self ≡ string_bytes c.loop-serial.text ++ string_bytes c.in_ok-line.line = search rules in
    record {
      text =
          pushed ∙ ap (λ t. t ++ string_bytes c.in_ok-line.line) c.loop-serial.invariant.text ∙ ap (λ t. flat_map line (take i serials) ++ t) (said ∙ sym (append-nil (line x)))
          ∙ sym (flat_map-append line (take i serials) (x ∷ [])) ∙ ap (flat_map line) (sym taken);
      revoked =
          ap (λ b. c.loop-serial.is_any_revoked || b) (c.is_revoked-is_any_revoked.ensures ∙ ap is_revoked entry) ∙ ap (λ b. b || revoked x) c.loop-serial.invariant.revoked
          ∙ sym (any_more revoked (take i serials) x) ∙ ap (list_any revoked) (sym taken);
    }
