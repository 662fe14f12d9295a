use Rattle.std.proofs.Common.{◌≡◌, ℕ, ◌<◌, ◌≤◌, ◌+◌, ◌/◌, ◌%◌, List, [], ◌∷◌, ◌++◌, length, get_or, drop, slice_index, true, refl, sym, ap, ◌∙◌, append_assoc, append-nil}
use Rattle.std.proofs.lemmas.List.{at_drop_more, at_drop_all}
use Rattle.std.proofs.Output.{has_written_append, has_written_of_eq}
use Rattle.hex.specs.Hex.{encode_upper, encode_with, upper_digits}
use Rattle.x509_names.proofs.Written.{nothing_written}
use Rattle.x509_names.proofs.value_text.write_upper_hex.Goals as goal

abbrev pair : ℕ → List ℕ
pair b = slice_index upper_digits (b / 16) ∷ slice_index upper_digits (b % 16) ∷ []

next_pair : (octets : List ℕ) (i : ℕ) → i < length octets → encode_upper (drop i octets) ≡ pair (get_or octets i 0) ++ encode_upper (drop (i + 1) octets)
unfolding encode_with
next_pair octets i more = at_drop_more encode_upper octets i 0 more

no_pair : (octets : List ℕ) (i : ℕ) → length octets ≤ i → encode_upper (drop i octets) ≡ []
unfolding encode_with
no_pair octets i all = at_drop_all encode_upper octets i all

pub loop-octet-init : goal.loop-octet-init
loop-octet-init g c = λ plain. ([], nothing_written _ _ plain, refl)

pub loop-octet-preserved : goal.loop-octet-preserved
loop-octet-preserved g c = λ plain.
    let (done, wrote, all) = c.loop-octet.invariant plain in
    let octets = c.args.octets.now in
    let next = pair (get_or octets c.loop-octet.octet-index 0) in (
      done ++ next,
      has_written_append _ _ _ _ _ _ wrote (c.in_ok-write_pair.ensures wrote.plain (refl {a = true})),
      append_assoc done next _ ∙ ap (λ text. done ++ text) (sym (next_pair octets c.loop-octet.octet-index c.loop-octet-test.true)) ∙ all,
    )

pub returns : goal.returns
returns g c = λ plain ok.
    let (done, wrote, all) = c.loop-octet.invariant plain in
    has_written_of_eq _ _ _ _ _ (sym (append-nil done) ∙ ap (λ text. done ++ text) (sym (no_pair c.args.octets.now c.loop-octet.octet-index c.loop-octet-test.false)) ∙ all) wrote
