-- A pass over certificates that keeps none, and the first of those that are left.
use Rattle.std.proofs.Common.{◌≡◌, ℕ, ◌+◌, ◌-◌, ◌*◌, ◌<◌, ◌≤◌, Bool, ◌&&◌, List, [], ◌∷◌, ◌++◌, length, Err, refl, sym, ap, subst, ◌∙◌, inl, inr, arith}
use Rattle.std.specs.List.{sum_by}
use Rattle.std.proofs.lemmas.List.{length-append}
use Rattle.std.proofs.lemmas.List.Sums.{sum_by_push}
use Rattle.std.specs.Prelude.{true, unwrap_or}
use Rattle.x509_der.specs.declared.error.Err.{Err as Refusal}
use Rattle.x509_der.specs.Digits.{without_leading_zeros}
use Rattle.x509_der.specs.Laws.{IsBytes}
use Rattle.x509_der.specs.Looks.{behind}
use Rattle.x509_der.specs.Leaves.{sequence as sequence_contents}
use Rattle.x509_der.specs.Plan.{◌>>=◌, give, got, members, marks_of_members, soft, universal, run_at}
use Rattle.x509_der.specs.Primitives.{is_constructed}
use Rattle.x509_der.specs.Promises.{IsForeign}
use Rattle.x509_der.specs.Reading.{AddsAtLeast, strict}
use Rattle.x509_der.proofs.Cutting.{behind_elem}
use Rattle.x509_der.proofs.Results.{bytes_behind, cases_outcome, got_parts, then_ok}
use Rattle.x509_der.proofs.MarkLoop.{marks_go_on}
use Rattle.x509_der.proofs.RunLoop.{with_front, goes_on, no_more, none_behind, stops}
use Rattle.x509_der.proofs.Windows.{local_shorter}
use Rattle.x509_extensions.specs.ExtensionList.{extensions}
use Rattle.x509_fields.specs.declared.error.X509Error.{X509Error}
use Rattle.x509_fields.specs.Fields.{Field, lifted}
use Rattle.x509_fields.specs.Serial.{serial}
use Rattle.x509_fields.specs.Times.{time}
use Rattle.x509_lists.specs.EntriesIn.{entries_in, HoldsEntries}
use Rattle.x509_lists.specs.RevokedCertificate.{Revoked, revoked, revoked_heads, revoked_laws}

-- ---- the pass

-- what is known behind the certificates that were passed, which are front
pub record Passed (i rest : List ℕ) (count : ℕ) (plain : Bool) (old new : ℕ) : Type 0 where
  pub front : List Revoked
  pub bytes : IsBytes rest
  pub run : with_front front (members revoked rest) ≡ members revoked i
  pub counted : length front ≡ count
  pub marks : (plain && marks_of_members revoked rest) ≡ marks_of_members revoked i
  pub foreign : IsForeign strict (is_constructed 16) i → (rest ≡ i) × (new ≡ old)
  pub grows : old ≤ new
  pub tries : new + 8 * length rest ≤ old + 8 * length i
  pub within : count + length rest ≤ length i
  pub least : AddsAtLeast (sum_by revoked_heads front) old new

-- one more
pub pass_one : (i rest after : List ℕ) (count : ℕ) (plain marked : Bool) (old between new : ℕ) (member : Revoked) → Passed i rest count plain old between → revoked.read rest ≡ got member after
    → marked ≡ revoked.marks rest → between ≤ new → new + 8 + 8 * length after ≤ between + 8 * length rest → (IsForeign strict (is_constructed 16) rest → ⊥) → AddsAtLeast (revoked_heads member) between new
    → Passed i after (count + 1) (plain && marked) old new
pass_one i rest after count plain marked old between new member before read mark grown tries own least =
    let local = revoked_laws.laws.lawful.is_local in
    let s = local.sentence rest member after before.bytes read in
    let shorter = local_shorter revoked local rest member after before.bytes read in
    let sum = sum_by_push revoked_heads before.front member in
    record {
      front = before.front ++ member ∷ [];
      bytes = bytes_behind rest s.bytes after s.parts before.bytes;
      run = goes_on revoked local before.front rest member after (members revoked i) before.bytes read before.run;
      counted = omega (arith, length-append before.front (member ∷ []), before.counted);
      marks = marks_go_on revoked local plain marked rest member after (marks_of_members revoked i) before.bytes read mark before.marks;
      foreign = λ away. absurd (own (subst (IsForeign strict (is_constructed 16)) (sym (before.foreign away).0) away));
      grows = omega (arith, grown, before.grows);
      tries = omega (arith, tries, before.tries);
      within = omega (arith, before.within, shorter);
      least = λ under. omega (arith, sum, least under, before.least (omega (arith, under, grown)));
    }

-- no more
pub all_passed : (i rest : List ℕ) (count : ℕ) (plain : Bool) (old new : ℕ) (why : Refusal X509Error) (before : Passed i rest count plain old new) → revoked.read rest ≡ Err why → members revoked i ≡ (rest, before.front)
all_passed i rest count plain old new why before refused = stops revoked before.front rest why (members revoked i) refused before.run

-- ---- the first of those that are left

pub holds_none : HoldsEntries [] 0
unfolding members run_at
holds_none = record { are_bytes = λ i. few; filled = refl; counted = refl }
  where
    few : 0 < 256
    few = omega arith

pub none_held : (octets : List ℕ) → length octets ≡ 0 → entries_in octets ≡ []
none_held octets none = ap (λ (m : List ℕ × List Revoked). m.1) (none_behind revoked octets none)

pub record First (octets : List ℕ) (count : ℕ) : Type 0 where
  pub entry : Revoked
  pub read : revoked.read octets ≡ got entry (behind octets)
  pub all : entries_in octets ≡ entry ∷ entries_in (behind octets)
  pub some : 1 ≤ count
  pub others : HoldsEntries (behind octets) (count - 1)

read_first : (octets : List ℕ) (count : ℕ) (entry : Revoked) (next : List ℕ) → HoldsEntries octets count → revoked.read octets ≡ got entry next → First octets count
read_first octets count entry next holds read =
    let laws = revoked_laws.laws.lawful in
    let sentence = laws.is_local.sentence octets entry next holds.are_bytes read in
    let element = laws.one.element octets entry next holds.are_bytes read in
    let same : next ≡ behind octets = sym (behind_elem octets element.0 next element.1) in
    let one : with_front (entry ∷ []) (members revoked next) ≡ members revoked octets = goes_on revoked laws.is_local [] octets entry next (members revoked octets) holds.are_bytes read refl in
    let all : entries_in octets ≡ entry ∷ entries_in next = sym (ap (λ (m : List ℕ × List Revoked). m.1) one) in
    let more : length (entries_in octets) ≡ length (entries_in next) + 1 = omega (arith, ap length all) in
    record {
      entry = entry;
      read = read ∙ ap (λ (place : List ℕ). got entry place) same;
      all = all ∙ ap (λ (place : List ℕ). entry ∷ entries_in place) same;
      some = omega (arith, more, holds.counted);
      others = subst (λ (place : List ℕ). HoldsEntries place (count - 1)) same (record {
        are_bytes = bytes_behind octets sentence.bytes next sentence.parts holds.are_bytes;
        filled = ap (λ (m : List ℕ × List Revoked). m.0) one ∙ holds.filled;
        counted = omega (arith, more, holds.counted);
      });
    }

pub first_entry : (octets : List ℕ) (count : ℕ) → HoldsEntries octets count → 0 < length octets → First octets count
first_entry octets count holds some =
    elim (cases_outcome (revoked.read octets)) [
      | inl t ↦ read_first octets count t.0 t.1 holds t.2
      | inr t ↦
          let none : octets ≡ [] = sym (ap (λ (m : List ℕ × List Revoked). m.0) (no_more revoked octets t.0 t.1)) ∙ holds.filled in
          absurd (omega (arith, some, ap length none))
    ]

-- ---- its serial

-- the fields behind the serial
abbrev others : List ℕ → Field Revoked
others serial = do
  date ← time
  extensions ← soft (universal 16) (extensions true)
  give (record {
    raw_serial = serial;
    serial = without_leading_zeros serial;
    revocation_date = date;
    extensions = unwrap_or extensions [];
  })

pub record SerialFirst (octets : List ℕ) (entry : Revoked) : Type 0 where
  pub contents : List ℕ
  pub next : List ℕ
  pub between : List ℕ
  pub outer : (lifted sequence_contents).read octets ≡ got contents next
  pub inner : serial.read contents ≡ got entry.raw_serial between
  pub digits : entry.serial ≡ without_leading_zeros entry.raw_serial

pub serial_first : (octets : List ℕ) (entry : Revoked) (next : List ℕ) → revoked.read octets ≡ got entry next → SerialFirst octets entry
unfolding revoked
serial_first octets entry next read =
    let whole = then_ok ((lifted sequence_contents).read octets) _ entry next read in
    let fields = then_ok ((serial >>= others).read whole.0) _ entry next whole.3 in
    let first = then_ok (serial.read whole.0) _ fields.0 fields.1 fields.2 in
    let date = then_ok (time.read first.1) _ fields.0 fields.1 first.3 in
    let list = then_ok ((soft (universal 16) (extensions true)).read date.1) _ fields.0 fields.1 date.3 in
    let given = got_parts (Refusal X509Error) _ fields.0 list.1 fields.1 list.3 in
    let same : fields.0 ≡ entry = (got_parts (Refusal X509Error) fields.0 entry whole.1 next fields.3).0 in
    let is = given.0 ∙ same in
    record {
      contents = whole.0;
      next = whole.1;
      between = first.1;
      outer = whole.2;
      inner = first.2 ∙ ap (λ (s : List ℕ). got s first.1) (ap (λ (r : Revoked). r.raw_serial) is);
      digits = sym (ap (λ (r : Revoked). r.serial) is) ∙ ap without_leading_zeros (ap (λ (r : Revoked). r.raw_serial) is);
    }
