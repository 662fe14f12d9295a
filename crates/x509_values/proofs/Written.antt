-- What stands plainly is what RFC 6962 writes.
use Rattle.std.proofs.Common.{◌≡◌, ℕ, ◌^◌, ◌<◌, List, [], ◌∷◌, ◌++◌, length, refl, sym, ap, subst, ◌∙◌, arith, append_assoc, w16, w64}
use Rattle.std.specs.List.{AllByRecursion, flat_map}
use Rattle.std.specs.Int.{to_be_bytes}
use Rattle.std.specs.Int.Digits.{number_from_digits, AllBelowBase}
use Rattle.std.proofs.lemmas.Int.Digits.{number_lt}
use Rattle.std.proofs.lemmas.List.{append-nil}
use Rattle.std.proofs.lemmas.Nat.{be_bytes_2, be_bytes_8, from_be_bytes-to_be_bytes_2, from_be_bytes-to_be_bytes_8}
use Rattle.x509_der.specs.declared.error.BerError.TheVariants as ber
use Rattle.x509_der.specs.Laws.{IsBytes}
use Rattle.x509_der.specs.Leaves.{octets}
use Rattle.x509_der.specs.Plan.{Nothing, ArePlain, at_least_one, run1}
use Rattle.x509_der.specs.Promises.{empty_run}
use Rattle.x509_der.proofs.Agreement.{bytes_inside}
use Rattle.x509_der.proofs.Marking.{octets_marked}
use Rattle.x509_der.proofs.Windows.{local_shorter}
use Rattle.x509_der.proofs.Identifiers.{IsBytes-tail}
use Rattle.x509_der.proofs.Results.{bytes_behind, bytes_before}
use Rattle.x509_values.specs.Octets.{fixed, number_of, sized}
use Rattle.x509_values.specs.Timestamp.{SignedValue, TimestampValue, digitally_signed, timestamp_fields, timestamp, timestamp_laws}
use Rattle.x509_values.specs.TimestampList.{sct_list, timestamps}
use Rattle.x509_values.specs.Presentation.{opaque_octets, signed_octets, fields_octets, timestamp_octets, list_octets, CanBeWritten, PlainIsWritten, ListCanBeWritten, PlainListIsWritten}
use Rattle.x509_values.proofs.BigEndian.{be_2, be_8}

-- ---- numbers

all_below : (octets : List ℕ) → IsBytes octets → AllBelowBase 256 octets
all_below [] k = tt
all_below (o ∷ octets) k = (k 0, all_below octets (IsBytes-tail o octets k))

-- what a number of n octets is made of
pub record NumberParts (n : ℕ) (place : List ℕ) (number : ℕ) (next : List ℕ) : Type 0 where
  pub octets : List ℕ
  pub size : length octets ≡ n
  pub value : number_from_digits 256 octets ≡ number
  pub parts : place ≡ octets ++ next

number_parts : (n : ℕ) (place : List ℕ) (number : ℕ) (next : List ℕ) → (number_of n).Plain place number next → NumberParts n place number next
unfolding number_of fixed
number_parts n place number next h = record { octets = h.0; size = h.2.0; value = h.3.0; parts = h.2.1 ∙ ap (λ m. h.0 ++ m) h.3.1 }

number_stands : (n : ℕ) (octets next : List ℕ) (number : ℕ) → length octets ≡ n → number_from_digits 256 octets ≡ number → (number_of n).Plain (octets ++ next) number next
unfolding number_of fixed
number_stands n octets next number size value = (octets, next, (size, refl), (value, refl))

number_small : (n : ℕ) (place : List ℕ) (number : ℕ) (next : List ℕ) → IsBytes place → (p : NumberParts n place number next) → number < 256 ^ n
number_small n place number next k p =
    let lt = number_lt 256 p.octets (all_below p.octets (bytes_before place p.octets next p.parts k)) in
    rw (← p.value, ← p.size) lt

one_octet : (octets : List ℕ) → length octets ≡ 1 → octets ≡ number_from_digits 256 octets ∷ []
one_octet [] e = absurd (omega arith)
one_octet (a ∷ []) e = let same : a ≡ number_from_digits 256 (a ∷ []) = omega arith in ap (λ (b : ℕ). b ∷ []) same
one_octet (a ∷ b ∷ more) e = absurd (omega arith)

u8_to : (place : List ℕ) (number : ℕ) (next : List ℕ) → IsBytes place → (number_of 1).Plain place number next → (number < 2 ^ 8) × (place ≡ number ∷ next)
u8_to place number next k h =
    let p = number_parts 1 place number next h in
    let small = number_small 1 place number next k p in
    (omega (arith, small), p.parts ∙ ap (λ m. m ++ next) (one_octet p.octets p.size ∙ ap (λ (b : ℕ). b ∷ []) p.value))

u8_back : (number : ℕ) (next : List ℕ) → (number_of 1).Plain (number ∷ next) number next
u8_back number next = number_stands 1 (number ∷ []) next number refl (omega arith)

u16_to : (place : List ℕ) (number : ℕ) (next : List ℕ) → IsBytes place → (number_of 2).Plain place number next → (number < 2 ^ 16) × (place ≡ to_be_bytes w16 number ++ next)
u16_to place number next k h =
    let p = number_parts 2 place number next h in
    let small = number_small 2 place number next k p in
    let spelled = be_bytes_2 p.octets number p.size (bytes_before place p.octets next p.parts k) (sym p.value ∙ sym (be_2 p.octets p.size)) in
    (omega (arith, small), p.parts ∙ ap (λ m. m ++ next) (sym spelled))

u16_back : (number : ℕ) (next : List ℕ) → number < 2 ^ 16 → (number_of 2).Plain (to_be_bytes w16 number ++ next) number next
u16_back number next fits =
    number_stands 2 (to_be_bytes w16 number) next number refl (sym (be_2 (to_be_bytes w16 number) refl) ∙ from_be_bytes-to_be_bytes_2 number fits)

u64_to : (place : List ℕ) (number : ℕ) (next : List ℕ) → IsBytes place → (number_of 8).Plain place number next → (number < 2 ^ 64) × (place ≡ to_be_bytes w64 number ++ next)
u64_to place number next k h =
    let p = number_parts 8 place number next h in
    let small = number_small 8 place number next k p in
    let spelled = be_bytes_8 p.octets number p.size (bytes_before place p.octets next p.parts k) (sym p.value ∙ sym (be_8 p.octets p.size)) in
    (omega (arith, small), p.parts ∙ ap (λ m. m ++ next) (sym spelled))

u64_back : (number : ℕ) (next : List ℕ) → number < 2 ^ 64 → (number_of 8).Plain (to_be_bytes w64 number ++ next) number next
u64_back number next fits =
    number_stands 8 (to_be_bytes w64 number) next number refl (sym (be_8 (to_be_bytes w64 number) refl) ∙ from_be_bytes-to_be_bytes_8 number fits)

-- ---- strings of octets

fixed_to : (n : ℕ) (place front next : List ℕ) → (fixed n).Plain place front next → (length front ≡ n) × (place ≡ front ++ next)
unfolding fixed
fixed_to n place front next h = h

fixed_back : (n : ℕ) (front next : List ℕ) → length front ≡ n → (fixed n).Plain (front ++ next) front next
unfolding fixed
fixed_back n front next size = (size, refl)

joined : (place front middle next rest : List ℕ) → place ≡ front ++ rest → rest ≡ middle ++ next → place ≡ (front ++ middle) ++ next
joined place front middle next rest e f = e ∙ ap (λ m. front ++ m) f ∙ sym (append_assoc front middle next)

opaque_to : (place contents next : List ℕ) → IsBytes place → sized.Plain place contents next → (length contents < 2 ^ 16) × (place ≡ opaque_octets contents ++ next)
unfolding sized
opaque_to place contents next k h =
    let n = u16_to place h.0 h.1 k h.2 in
    let c = fixed_to h.0 h.1 contents next h.3 in
    let size : h.0 ≡ length contents = sym c.0 in
    (rw (← size) n.0, joined place (to_be_bytes w16 (length contents)) contents next h.1 (n.1 ∙ ap (λ m. to_be_bytes w16 m ++ h.1) size) c.1)

opaque_back : (contents next : List ℕ) → length contents < 2 ^ 16 → sized.Plain (opaque_octets contents ++ next) contents next
unfolding sized
opaque_back contents next fits = (
  length contents,
  contents ++ next,
  subst (λ m. (number_of 2).Plain m (length contents) (contents ++ next)) (sym (append_assoc (to_be_bytes w16 (length contents)) contents next)) (u16_back (length contents) (contents ++ next) fits),
  fixed_back (length contents) contents next refl,
)

-- ---- structures

pub record SignedFits (s : SignedValue) : Type 0 where
  pub hash_alg_id : s.hash_alg_id < 2 ^ 8
  pub sign_alg_id : s.sign_alg_id < 2 ^ 8
  pub signature : length s.bytes < 2 ^ 16

signed_to : (place : List ℕ) (s : SignedValue) (next : List ℕ) → IsBytes place → digitally_signed.Plain place s next → SignedFits s × (place ≡ signed_octets s ++ next)
unfolding digitally_signed
signed_to place s next k h =
    let hash = u8_to place h.0 h.1 k h.2 in
    let k1 : IsBytes h.1 = bytes_behind place (h.0 ∷ []) h.1 hash.1 k in
    let sign = u8_to h.1 h.3.0 h.3.1 k1 h.3.2 in
    let k2 : IsBytes h.3.1 = bytes_behind h.1 (h.3.0 ∷ []) h.3.1 sign.1 k1 in
    let bytes = opaque_to h.3.1 h.3.3.0 h.3.3.1 k2 h.3.3.2 in
    let spelled : place ≡ h.0 ∷ h.3.0 ∷ (opaque_octets h.3.3.0 ++ next) =
    hash.1 ∙ ap (λ m. h.0 ∷ m) (sign.1 ∙ ap (λ m. h.3.0 ∷ m) (bytes.1 ∙ ap (λ m. opaque_octets h.3.3.0 ++ m) h.3.3.3.1)) in
    subst (λ (s : SignedValue). SignedFits s × (place ≡ signed_octets s ++ next)) h.3.3.3.0 (record { hash_alg_id = hash.0; sign_alg_id = sign.0; signature = bytes.0 }, spelled)

signed_back : (s : SignedValue) (next : List ℕ) → SignedFits s → digitally_signed.Plain (signed_octets s ++ next) s next
unfolding digitally_signed
signed_back s next fits = (
  s.hash_alg_id,
  s.sign_alg_id ∷ (opaque_octets s.bytes ++ next),
  u8_back s.hash_alg_id (s.sign_alg_id ∷ (opaque_octets s.bytes ++ next)),
  (s.sign_alg_id, opaque_octets s.bytes ++ next, u8_back s.sign_alg_id (opaque_octets s.bytes ++ next), (s.bytes, next, opaque_back s.bytes next fits.signature, (refl, refl))),
)

pub record FieldsFit (t : TimestampValue) : Type 0 where
  pub version : t.version < 2 ^ 8
  pub key_id : length t.key_id ≡ 32
  pub timestamp : t.timestamp < 2 ^ 64
  pub extensions : length t.extensions < 2 ^ 16
  pub signature : SignedFits t.signature

fields_to : (place : List ℕ) (t : TimestampValue) (next : List ℕ) → IsBytes place → timestamp_fields.Plain place t next → FieldsFit t × (place ≡ fields_octets t ++ next)
unfolding timestamp_fields
fields_to place t next k h =
    let h2 = h.3 in
    let h3 = h2.3 in
    let h4 = h3.3 in
    let h5 = h4.3 in
    let version = u8_to place h.0 h.1 k h.2 in
    let k1 : IsBytes h.1 = bytes_behind place (h.0 ∷ []) h.1 version.1 k in
    let key = fixed_to 32 h.1 h2.0 h2.1 h2.2 in
    let k2 : IsBytes h2.1 = bytes_behind h.1 h2.0 h2.1 key.1 k1 in
    let time = u64_to h2.1 h3.0 h3.1 k2 h3.2 in
    let k3 : IsBytes h3.1 = bytes_behind h2.1 (to_be_bytes w64 h3.0) h3.1 time.1 k2 in
    let more = opaque_to h3.1 h4.0 h4.1 k3 h4.2 in
    let k4 : IsBytes h4.1 = bytes_behind h3.1 (opaque_octets h4.0) h4.1 more.1 k3 in
    let signed = signed_to h4.1 h5.0 h5.1 k4 h5.2 in
    let last : h4.1 ≡ signed_octets h5.0 ++ next = signed.1 ∙ ap (λ m. signed_octets h5.0 ++ m) h5.3.1 in
    let fourth = joined h3.1 (opaque_octets h4.0) (signed_octets h5.0) next h4.1 more.1 last in
    let third = joined h2.1 (to_be_bytes w64 h3.0) (opaque_octets h4.0 ++ signed_octets h5.0) next h3.1 time.1 fourth in
    let second = joined h.1 h2.0 (to_be_bytes w64 h3.0 ++ (opaque_octets h4.0 ++ signed_octets h5.0)) next h2.1 key.1 third in
    subst (λ (t : TimestampValue). FieldsFit t × (place ≡ fields_octets t ++ next)) h5.3.0
    (record { version = version.0; key_id = key.0; timestamp = time.0; extensions = more.0; signature = signed.0 }, version.1 ∙ ap (λ m. h.0 ∷ m) second)

fields_back : (t : TimestampValue) (next : List ℕ) → FieldsFit t → timestamp_fields.Plain (fields_octets t ++ next) t next
unfolding timestamp_fields
fields_back t next fits =
    let fifth : List ℕ = signed_octets t.signature in
    let fourth : List ℕ = opaque_octets t.extensions ++ fifth in
    let third : List ℕ = to_be_bytes w64 t.timestamp ++ fourth in
    let second : List ℕ = t.key_id ++ third in (
      t.version,
      second ++ next,
      u8_back t.version (second ++ next),
      (
        t.key_id,
        third ++ next,
        subst (λ m. (fixed 32).Plain m t.key_id (third ++ next)) (sym (append_assoc t.key_id third next)) (fixed_back 32 t.key_id (third ++ next) fits.key_id),
        (
          t.timestamp,
          fourth ++ next,
          subst (λ m. (number_of 8).Plain m t.timestamp (fourth ++ next)) (sym (append_assoc (to_be_bytes w64 t.timestamp) fourth next)) (u64_back t.timestamp (fourth ++ next) fits.timestamp),
          (
            t.extensions,
            fifth ++ next,
            subst (λ m. sized.Plain m t.extensions (fifth ++ next)) (sym (append_assoc (opaque_octets t.extensions) fifth next)) (opaque_back t.extensions (fifth ++ next) fits.extensions),
            (t.signature, next, signed_back t.signature next fits.signature, (refl, refl)),
          ),
        ),
      ),
    )

timestamp_to : (place : List ℕ) (t : TimestampValue) (next : List ℕ) → IsBytes place → timestamp.Plain place t next → CanBeWritten t × (place ≡ timestamp_octets t ++ next)
unfolding timestamp
timestamp_to place t next k h =
    let outer = opaque_to place h.0 next k h.1 in
    let inner : IsBytes h.0 = bytes_before (h.0 ++ next) h.0 next refl (bytes_behind place (to_be_bytes w16 (length h.0)) (h.0 ++ next) (outer.1 ∙ append_assoc (to_be_bytes w16 (length h.0)) h.0 next) k) in
    let fields = fields_to h.0 t [] inner h.2 in
    let same : h.0 ≡ fields_octets t = fields.1 ∙ append-nil (fields_octets t) in
    let fit = fields.0 in (
      record {
        version = fit.version;
        key_id = fit.key_id;
        timestamp = fit.timestamp;
        extensions = fit.extensions;
        hash_alg_id = fit.signature.hash_alg_id;
        sign_alg_id = fit.signature.sign_alg_id;
        signature = fit.signature.signature;
        whole = subst (λ m. length m < 2 ^ 16) same outer.0;
      },
      outer.1 ∙ ap (λ m. opaque_octets m ++ next) same,
    )

timestamp_back : (t : TimestampValue) (next : List ℕ) → CanBeWritten t → timestamp.Plain (timestamp_octets t ++ next) t next
unfolding timestamp
timestamp_back t next can =
    let fits : FieldsFit t = record { version = can.version; key_id = can.key_id; timestamp = can.timestamp; extensions = can.extensions; signature = record { hash_alg_id = can.hash_alg_id; sign_alg_id = can.sign_alg_id; signature = can.signature } } in
    (fields_octets t, opaque_back (fields_octets t) next can.whole, subst (λ m. timestamp_fields.Plain m t []) (append-nil (fields_octets t)) (fields_back t [] fits))

pub plain_is_written : PlainIsWritten
plain_is_written place t next k = (timestamp_to place t next k, λ h. subst (λ m. timestamp.Plain m t next) (sym h.1) (timestamp_back t next h.0))

-- ---- lists

entries_to : (place : List ℕ) (ts : List TimestampValue) (next : List ℕ) → IsBytes place → ArePlain timestamp place ts next → AllByRecursion CanBeWritten ts × (place ≡ flat_map timestamp_octets ts ++ next)
entries_to place [] next k h = (tt, h)
entries_to place (t ∷ ts) next k h =
    let first = timestamp_to place t h.0 k h.1 in
    let others = entries_to h.0 ts next (bytes_behind place (timestamp_octets t) h.0 first.1 k) h.2 in
    ((first.0, others.0), joined place (timestamp_octets t) (flat_map timestamp_octets ts) next h.0 first.1 others.1)

entries_back : (ts : List TimestampValue) (next : List ℕ) → AllByRecursion CanBeWritten ts → ArePlain timestamp (flat_map timestamp_octets ts ++ next) ts next
entries_back [] next all = refl
entries_back (t ∷ ts) next all = (
  flat_map timestamp_octets ts ++ next,
  subst (λ m. timestamp.Plain m t (flat_map timestamp_octets ts ++ next)) (sym (append_assoc (timestamp_octets t) (flat_map timestamp_octets ts) next)) (timestamp_back t (flat_map timestamp_octets ts ++ next) all.0),
  entries_back ts next all.1,
)

no_entry_in_nothing : Nothing timestamp []
no_entry_in_nothing t next h =
    let none : IsBytes [] = λ k. lt in
    let shorter = local_shorter timestamp timestamp_laws.is_local [] t next none (timestamp_laws.agrees.complete [] t next none h) in
    omega (arith, shorter)
  where
    lt : 0 < 256
    lt = omega arith

some_to : (contents : List ℕ) (ts : List TimestampValue) → IsBytes contents → (run1 (empty_run ber.NomError) timestamp).Plain contents ts [] → (0 < length ts) × AllByRecursion CanBeWritten ts × (contents ≡ flat_map timestamp_octets ts)
some_to contents ts k h = go h.0 h.1 h.2.0 h.3
  where
    go : (found : List TimestampValue) (between : List ℕ) → ArePlain timestamp contents found between → (at_least_one (empty_run ber.NomError) found).Plain between ts [] → (0 < length ts) × AllByRecursion CanBeWritten ts × (contents ≡ flat_map timestamp_octets ts)
    go [] between are last = absurd last
    go (t ∷ more) between are last =
        let all = entries_to contents (t ∷ more) between k are in
        let spelled : contents ≡ flat_map timestamp_octets (t ∷ more) = all.1 ∙ ap (λ m. flat_map timestamp_octets (t ∷ more) ++ m) last.1 ∙ append-nil (flat_map timestamp_octets (t ∷ more)) in
        let some : 0 < length (t ∷ more) = omega arith in
        subst (λ (xs : List TimestampValue). (0 < length xs) × AllByRecursion CanBeWritten xs × (contents ≡ flat_map timestamp_octets xs)) last.0 (some, all.0, spelled)

some_back : (ts : List TimestampValue) → 0 < length ts → AllByRecursion CanBeWritten ts → (run1 (empty_run ber.NomError) timestamp).Plain (flat_map timestamp_octets ts) ts []
some_back [] some all = absurd (omega arith)
some_back (t ∷ ts) some all = (
  t ∷ ts,
  [],
  (subst (λ m. ArePlain timestamp m (t ∷ ts) []) (append-nil (flat_map timestamp_octets (t ∷ ts))) (entries_back (t ∷ ts) [] all), no_entry_in_nothing),
  (refl, refl),
)

list_to : (place : List ℕ) (ts : List TimestampValue) → IsBytes place → sct_list.Plain place ts [] → ListCanBeWritten ts × (place ≡ list_octets ts)
unfolding sct_list
list_to place ts k h =
    let outer = opaque_to place h.0 [] k h.1 in
    let inner : IsBytes h.0 = bytes_before (h.0 ++ []) h.0 [] refl (bytes_behind place (to_be_bytes w16 (length h.0)) (h.0 ++ []) (outer.1 ∙ append_assoc (to_be_bytes w16 (length h.0)) h.0 []) k) in
    let entries = some_to h.0 ts inner h.2 in (
      record { some = entries.0; each = entries.1; whole = subst (λ m. length m < 2 ^ 16) entries.2 outer.0 },
      outer.1 ∙ append-nil (opaque_octets h.0) ∙ ap opaque_octets entries.2,
    )

list_back : (ts : List TimestampValue) → ListCanBeWritten ts → sct_list.Plain (list_octets ts) ts []
unfolding sct_list
list_back ts can = (
  flat_map timestamp_octets ts,
  subst (λ m. sized.Plain m (flat_map timestamp_octets ts) []) (append-nil (list_octets ts)) (opaque_back (flat_map timestamp_octets ts) [] can.whole),
  some_back ts can.some can.each,
)

pub plain_list_is_written : PlainListIsWritten
unfolding timestamps
plain_list_is_written place ts next k = (
  λ h.
      let outer = octets_marked.laws.is_element.lawful.agrees.complete place h.0 next k (octets_marked.marked.marks.is place h.0 next k h.1) in
      let list = list_to h.0 ts (bytes_inside octets octets_marked.laws.encloses place h.0 next k outer) h.2 in
      (list.0, subst (λ m. octets.Plain place m next) list.1 h.1),
  λ h. (list_octets ts, h.1, list_back ts h.0),
)
