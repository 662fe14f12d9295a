-- The reading of times from left to right finds exactly what the octets spell.
use Rattle.std.proofs.Common.{◌≡◌, ◌≤◌, ◌<◌, ◌⊎◌, inl, inr, ℕ, suc, ◌+◌, ◌*◌, ◌/◌, ◌%◌, ◌-◌, List, [], ◌∷◌, ◌++◌, length, drop, Bool, true, false, cond, ◌&&◌, ltb, eqb, ℤ, pos, negsuc, neg_ℤ, refl, ap, sym, ◌∙◌, Option, Some, None, arith}
use Rattle.std.specs.Prelude.{◌↔◌, IfSome, option_map, codes, option_and_then, nat_lt, slice_index}
use Rattle.std.specs.Char.{is_ascii_digit}
use Rattle.std.specs.Str.{bytes_eq}
use Rattle.std.proofs.lemmas.Bool.Decides.{nat_tests}
use Rattle.std.proofs.lemmas.Option.{option_and_then_some, cond_some, same_Some}
use Rattle.std.proofs.lemmas.Slice.Eq.{bytes_eq-Decides}
use Rattle.std.specs.Prelude.{unsigned_abs}
use Rattle.std.specs.Int.{is_negative}
use Rattle.jiff_core.proofs.SignedLemmas.{signed_arith}
use Rattle.jiff_core.specs.Calendar.{days_in_month}
use Rattle.x509_times.specs.Moments.{Moment, IsOffset, is_real}
use Rattle.x509_times.proofs.RealDates.{is_real-tests, mapped_of}
use Rattle.x509_times.specs.Octets.{pair, optional_pair, zone, if_real, year_of_pair, utc_moment, generalized_moment, signed_minutes}
use Rattle.x509_times.specs.OffsetDateTimes.{moment_of}
use Rattle.x509_times.specs.declared.offset_date_time.OffsetDateTime.{OffsetDateTime}
use Rattle.x509_times.specs.Spelling.{two_digits, SpellsUtc, SpellsGeneralized, SpellsZone, SpellsSecond, SpellsDifferential, IsYearOfCentury, zone_octets, utc_octets, generalized_octets, IsWhole, IsUtcYear, IsGeneralizedYear}

-- ---- digits

digit : (c : ℕ) → is_ascii_digit c ≡ true → (48 ≤ c) × (c ≤ 57)
digit c h = (grind (arith, nat_tests), grind (arith, nat_tests))

digit_of : (d : ℕ) → d < 10 → is_ascii_digit (48 + d) ≡ true
digit_of d h = grind (arith, nat_tests)

both_true : (a b : Bool) → (a && b) ≡ true → (a ≡ true) × (b ≡ true)
both_true true b h = (refl, h)
both_true false b h = absurd (let no : ⊥ = cc in no)

tens : (t o : ℕ) → o < 10 → (t * 10 + o) / 10 ≡ t
tens t o h = omega arith

ones : (t o : ℕ) → o < 10 → (t * 10 + o) % 10 ≡ o
ones t o h = omega arith

not_short : (n : ℕ) → ltb (suc (suc n)) 2 ≡ false
not_short n = grind (arith, nat_tests)

pair_of : (n : ℕ) (rest : List ℕ) → n < 100 → pair (two_digits n ++ rest) ≡ Some (n, rest)
unfolding pair
pair_of n rest h =
    let high : n / 10 < 10 = omega arith in
    let low : n % 10 < 10 = omega arith in
    let whole : (48 + n / 10 - 48) * 10 + (48 + n % 10 - 48) ≡ n = omega arith in
    rw (not_short (length rest), digit_of (n / 10) high, digit_of (n % 10) low, whole) refl

digits : (a b : ℕ) → (is_ascii_digit a && is_ascii_digit b) ≡ true → (((a - 48) * 10 + (b - 48)) < 100) × (48 + ((a - 48) * 10 + (b - 48)) / 10 ≡ a) × (48 + ((a - 48) * 10 + (b - 48)) % 10 ≡ b)
digits a b h =
    let both = both_true (is_ascii_digit a) (is_ascii_digit b) h in
    let high = digit a both.0 in
    let low = digit b both.1 in
    let t = tens (a - 48) (b - 48) (omega arith) in
    let o = ones (a - 48) (b - 48) (omega arith) in
    (omega arith, omega arith, omega arith)

two : (a b : ℕ) (rest : List ℕ) (x : ℕ × List ℕ) → cond (is_ascii_digit a && is_ascii_digit b) (Some ((a - 48) * 10 + (b - 48), rest)) None ≡ Some x
    → (x.0 < 100) × (a ∷ b ∷ rest ≡ two_digits x.0 ++ x.1)
two a b rest x e =
    let is = cond_some (is_ascii_digit a && is_ascii_digit b) _ x e in
    let d = digits a b is.0 in
    rw (← is.1) (d.0, rw (d.1, d.2) refl)

pair_gives : (octets : List ℕ) (x : ℕ × List ℕ) → pair octets ≡ Some x → (x.0 < 100) × (octets ≡ two_digits x.0 ++ x.1)
unfolding pair
pair_gives [] x e = absurd (let no : ⊥ = cc in no)
pair_gives (a ∷ []) x e = absurd (let no : ⊥ = cc in no)
pair_gives (a ∷ b ∷ rest) x e = two a b rest x (rw not_short at e)

-- ---- seconds that may be left out

second_gives : (octets : List ℕ) (x : ℕ × List ℕ) → optional_pair octets ≡ Some x → (ss : List ℕ) × (octets ≡ ss ++ x.1) × SpellsSecond ss x.0
unfolding optional_pair
second_gives octets x e = by_test (nat_lt 0 (length octets) && is_ascii_digit (slice_index octets 0)) e
  where
    by_test : (b : Bool) → cond b (pair octets) (Some (0, octets)) ≡ Some x → (ss : List ℕ) × (octets ≡ ss ++ x.1) × SpellsSecond ss x.0
    by_test true h = let is = pair_gives octets x h in (two_digits x.0, is.1, inl refl)
    by_test false h = let is = same_Some (0, octets) x h in rw (← is) ([], refl, inr (refl, refl))

-- ---- zones

sign_gives : (sign n : ℕ) (offset : ℤ) → signed_minutes sign n ≡ Some offset → ((sign ≡ 43) × (offset ≡ pos n)) ⊎ ((sign ≡ 45) × (offset ≡ neg_ℤ (pos n)))
sign_gives sign n offset e = grind (arith, nat_tests)

when : {A : Type 0} (b : Bool) (o : Option A) (y : A) → cond b o None ≡ Some y → (b ≡ true) × (o ≡ Some y)
when true o y h = (refl, h)
when false o y h = absurd (let no : ⊥ = cc in no)

none_left : (octets : List ℕ) → eqb (length octets) 0 ≡ true → octets ≡ []
none_left [] h = refl
none_left (a ∷ octets) h = absurd (let no : ⊥ = grind (arith, nat_tests) in no)

below : (a b : ℕ) → ltb a b ≡ true → a < b
below a b h = grind (arith, nat_tests)

is_below : (a b : ℕ) → a < b → ltb a b ≡ true
is_below a b h = grind (arith, nat_tests)

differential : (octets : List ℕ) (offset : ℤ)
    → option_and_then (λ (hours : ℕ × List ℕ). option_and_then (λ (minutes : ℕ × List ℕ). cond (eqb (length minutes.1) 0 && ltb hours.0 24 && ltb minutes.0 60) (signed_minutes (slice_index octets 0) (hours.0 * 60 + minutes.0)) None) (pair hours.1)) (pair (drop 1 octets)) ≡ Some offset
    → SpellsDifferential octets offset
unfolding pair
differential [] offset e = absurd (let no : ⊥ = cc in no)
differential (sign ∷ rest) offset e =
    option_and_then_some _ (pair rest) offset e (λ hours h eh. option_and_then_some _ (pair hours.1) offset eh (λ minutes m em. mapped hours minutes (pair_gives rest hours h) (pair_gives hours.1 minutes m) (when _ _ offset em)))
  where
    mapped : (hours minutes : ℕ × List ℕ) → (hours.0 < 100) × (rest ≡ two_digits hours.0 ++ hours.1) → (minutes.0 < 100) × (hours.1 ≡ two_digits minutes.0 ++ minutes.1)
        → ((eqb (length minutes.1) 0 && ltb hours.0 24 && ltb minutes.0 60) ≡ true) × (signed_minutes sign (hours.0 * 60 + minutes.0) ≡ Some offset) → SpellsDifferential (sign ∷ rest) offset
    mapped hours minutes h m is =
        let low = both_true _ (ltb minutes.0 60) is.0 in
        let high = both_true (eqb (length minutes.1) 0) (ltb hours.0 24) low.0 in
        let end = none_left minutes.1 high.0 in
        record {
          hours = hours.0;
          minutes = minutes.0;
          hours_in = below hours.0 24 high.1;
          minutes_in = below minutes.0 60 low.1;
          spelled = elim (sign_gives sign (hours.0 * 60 + minutes.0) offset is.1) [
            | inl p ↦ inl (rw (p.0, h.1, m.1, end) refl, p.1)
            | inr p ↦ inr (rw (p.0, h.1, m.1, end) refl, p.1)
          ];
        }

either : (b : Bool) → (b ≡ true) ⊎ (b ≡ false)
either true = inl refl
either false = inr refl

zone_gives : (octets : List ℕ) (offset : ℤ) → zone octets ≡ Some offset → SpellsZone octets offset
unfolding zone
zone_gives octets offset e = elim (either (bytes_eq octets (codes "Z"))) [
  | inl z ↦ inl ((bytes_eq-Decides octets (codes "Z")).0 z, sym (same_Some (pos 0) offset (rw z at e)))
  | inr z ↦ inr (differential octets offset (rw z at e))
]

zone_of : (octets : List ℕ) (offset : ℤ) → SpellsZone octets offset → zone octets ≡ Some offset
unfolding zone
zone_of octets offset (inl z) = rw (z.0, z.1) refl
zone_of octets offset (inr d) =
    let h : d.hours < 100 = let i = d.hours_in in omega arith in
    let m : d.minutes < 100 = let i = d.minutes_in in omega arith in
    let early = is_below d.hours 24 d.hours_in in
    let short = is_below d.minutes 60 d.minutes_in in
    elim d.spelled [
      | inl p ↦ rw (p.0, p.1, pair_of d.hours (two_digits d.minutes) h, pair_of d.minutes [] m, early, short) refl
      | inr p ↦ rw (p.0, p.1, pair_of d.hours (two_digits d.minutes) h, pair_of d.minutes [] m, early, short) refl
    ]

positive : (n : ℕ) → ltb 0 (suc n) ≡ true
positive n = grind (arith, nat_tests)

no_second : (rest : List ℕ) (offset : ℤ) → SpellsZone rest offset → optional_pair rest ≡ Some (0, rest)
unfolding optional_pair
no_second rest offset (inl z) = rw z.0 refl
no_second rest offset (inr d) = elim d.spelled [
  | inl p ↦ rw p.0 refl
  | inr p ↦ rw p.0 refl
]

a_second : (rest : List ℕ) (second : ℕ) → second < 100 → optional_pair (two_digits second ++ rest) ≡ Some (second, rest)
unfolding optional_pair
a_second rest second h =
    let high : second / 10 < 10 = omega arith in
    rw (positive (suc (length rest)), digit_of (second / 10) high) (pair_of second rest h)

second_of : (ss rest : List ℕ) (second : ℕ) (offset : ℤ) → SpellsSecond ss second → second < 100 → SpellsZone rest offset → optional_pair (ss ++ rest) ≡ Some (second, rest)
second_of ss rest second offset (inl s) h z = rw s (a_second rest second h)
second_of ss rest second offset (inr s) h z = rw (s.0, s.1) (no_second rest offset z)

-- ---- moments

by_century : (yy : ℕ) (b : Bool) → ltb yy 50 ≡ b → yy < 100 → IsYearOfCentury yy (pos (cond b (2000 + yy) (1900 + yy)))
by_century yy true e h = inl (grind (arith, nat_tests), refl)
by_century yy false e h = inr (grind (arith, nat_tests), h, refl)

century_of : (yy : ℕ) (year : ℤ) → IsYearOfCentury yy year → pos (year_of_pair yy) ≡ year
century_of yy year (inl c) = rw (is_below yy 50 c.0, c.1) refl
century_of yy year (inr c) = let not : ltb yy 50 ≡ false = let from = c.0 in grind (arith, nat_tests) in rw (not, c.2) refl

small_pair : (yy : ℕ) (year : ℤ) → IsYearOfCentury yy year → yy < 100
small_pair yy year (inl c) = let h = c.0 in omega arith
small_pair yy year (inr c) = c.1

if_real_gives : (mapped m : Moment) → if_real mapped ≡ Some m → (is_real mapped ≡ true) × (mapped ≡ m)
if_real_gives mapped m e = cond_some (is_real mapped) mapped m e

month_at_most : (year : ℤ) (month : ℕ) → days_in_month year month ≤ 31
month_at_most year month = grind arith

real_parts : (m : Moment) → is_real m ≡ true → (m.month < 100) × (m.day < 100) × (m.hour < 100) × (m.minute < 100) × (m.second < 100)
real_parts m real =
    let t = is_real-tests m real in
    let most = month_at_most m.year m.month in
    (omega (arith, t.1), omega (arith, t.3, most), omega (arith, t.4), omega (arith, t.5), omega (arith, t.6))

real_some : (mapped m : Moment) → mapped ≡ m → is_real m ≡ true → if_real mapped ≡ Some m
real_some mapped m same real = rw (same, real) refl

one_after_another : (octets a b c d e ss zone : List ℕ) (yy month day hour minute : ℕ)
    → octets ≡ two_digits yy ++ a → a ≡ two_digits month ++ b → b ≡ two_digits day ++ c → c ≡ two_digits hour ++ d → d ≡ two_digits minute ++ e → e ≡ ss ++ zone
    → octets ≡ two_digits yy ++ two_digits month ++ two_digits day ++ two_digits hour ++ two_digits minute ++ ss ++ zone
one_after_another octets a b c d e ss zone yy month day hour minute p q r s t u = rw (p, q, r, s, t, u) refl

pub utc_reads : (octets : List ℕ) (m : Moment) → utc_moment octets ≡ Some m → SpellsUtc octets m
unfolding utc_moment
utc_reads octets m e =
    option_and_then_some {P = SpellsUtc octets m} _ (pair octets) m e (λ year a e. option_and_then_some {P = SpellsUtc octets m} _ (pair year.1) m e (λ month b e.
    option_and_then_some {P = SpellsUtc octets m} _ (pair month.1) m e (λ day c e. option_and_then_some {P = SpellsUtc octets m} _ (pair day.1) m e (λ hour d e.
    option_and_then_some {P = SpellsUtc octets m} _ (pair hour.1) m e (λ minute f e. option_and_then_some {P = SpellsUtc octets m} _ (optional_pair minute.1) m e (λ second g e.
    option_and_then_some {P = SpellsUtc octets m} _ (zone second.1) m e (λ offset z e.
    let year_is = pair_gives octets year a in
    let month_is = pair_gives year.1 month b in
    let day_is = pair_gives month.1 day c in
    let hour_is = pair_gives day.1 hour d in
    let minute_is = pair_gives hour.1 minute f in
    let second_is = second_gives minute.1 second g in
    let mapped : Moment = record { year = pos (year_of_pair year.0); month = month.0; day = day.0; hour = hour.0; minute = minute.0; second = second.0; nanosecond = 0; offset = offset } in
    let is = if_real_gives mapped m e in
    rw (← is.1) (record {
      yy = year.0;
      ss = second_is.0;
      zone = second.1;
      spelled = one_after_another octets year.1 month.1 day.1 hour.1 minute.1 second_is.0 second.1 year.0 month.0 day.0 hour.0 minute.0 year_is.1 month_is.1 day_is.1 hour_is.1 minute_is.1 second_is.1;
      year = by_century year.0 (ltb year.0 50) refl year_is.0;
      second = second_is.2;
      offset = zone_gives second.1 offset z;
      real = is.0;
      whole = refl;
    }))))))))

pub utc_completes : (octets : List ℕ) (m : Moment) → SpellsUtc octets m → utc_moment octets ≡ Some m
unfolding utc_moment
utc_completes octets m s =
    let in_range = real_parts m s.real in
    let year = small_pair s.yy m.year s.year in
    let month = in_range.0 in
    let day = in_range.1 in
    let hour = in_range.2 in
    let minute = in_range.3 in
    rw (s.spelled, pair_of s.yy _ year, pair_of m.month _ month, pair_of m.day _ day, pair_of m.hour _ hour, pair_of m.minute _ minute, second_of s.ss s.zone m.second m.offset s.second in_range.4 s.offset, zone_of s.zone m.offset s.offset)
    (real_some _ m (mapped_of m _ _ _ _ _ _ _ _ (century_of s.yy m.year s.year) refl refl refl refl refl (sym s.whole) refl) s.real)

hundreds : (c y : ℕ) → y < 100 → ((c * 100 + y) / 100 ≡ c) × ((c * 100 + y) % 100 ≡ y)
hundreds c y h = (omega arith, omega arith)

pub generalized_reads : (octets : List ℕ) (m : Moment) → generalized_moment octets ≡ Some m → SpellsGeneralized octets m
unfolding generalized_moment
generalized_reads octets m e =
    option_and_then_some {P = SpellsGeneralized octets m} _ (pair octets) m e (λ century k e. option_and_then_some {P = SpellsGeneralized octets m} _ (pair century.1) m e (λ year a e.
    option_and_then_some {P = SpellsGeneralized octets m} _ (pair year.1) m e (λ month b e. option_and_then_some {P = SpellsGeneralized octets m} _ (pair month.1) m e (λ day c e.
    option_and_then_some {P = SpellsGeneralized octets m} _ (pair day.1) m e (λ hour d e. option_and_then_some {P = SpellsGeneralized octets m} _ (pair hour.1) m e (λ minute f e.
    option_and_then_some {P = SpellsGeneralized octets m} _ (pair minute.1) m e (λ second g e. option_and_then_some {P = SpellsGeneralized octets m} _ (zone second.1) m e (λ offset z e.
    let century_is = pair_gives octets century k in
    let year_is = pair_gives century.1 year a in
    let month_is = pair_gives year.1 month b in
    let day_is = pair_gives month.1 day c in
    let hour_is = pair_gives day.1 hour d in
    let minute_is = pair_gives hour.1 minute f in
    let second_is = pair_gives minute.1 second g in
    let split = hundreds century.0 year.0 year_is.0 in
    let mapped : Moment = record { year = pos (century.0 * 100 + year.0); month = month.0; day = day.0; hour = hour.0; minute = minute.0; second = second.0; nanosecond = 0; offset = offset } in
    let is = if_real_gives mapped m e in
    rw (← is.1) (record {
      yyyy = century.0 * 100 + year.0;
      zone = second.1;
      spelled = rw (split.0, split.1, century_is.1, year_is.1, month_is.1, day_is.1, hour_is.1, minute_is.1, second_is.1) refl;
      year = (let hi = century_is.0 in let lo = year_is.0 in omega arith, refl);
      offset = zone_gives second.1 offset z;
      real = is.0;
      whole = refl;
    })))))))))

pub generalized_completes : (octets : List ℕ) (m : Moment) → SpellsGeneralized octets m → generalized_moment octets ≡ Some m
unfolding generalized_moment
generalized_completes octets m s =
    let in_range = real_parts m s.real in
    let low = s.year.0 in
    let high_pair : s.yyyy / 100 < 100 = omega arith in
    let low_pair : s.yyyy % 100 < 100 = omega arith in
    let whole_year : s.yyyy / 100 * 100 + s.yyyy % 100 ≡ s.yyyy = omega arith in
    rw (s.spelled, pair_of (s.yyyy / 100) _ high_pair, pair_of (s.yyyy % 100) _ low_pair, pair_of m.month _ in_range.0, pair_of m.day _ in_range.1, pair_of m.hour _ in_range.2, pair_of m.minute _ in_range.3, pair_of m.second _ in_range.4, zone_of s.zone m.offset s.offset)
    (real_some _ m (mapped_of m _ _ _ _ _ _ _ _ (ap pos whole_year ∙ sym s.year.1) refl refl refl refl refl (sym s.whole) refl) s.real)

pub utc_spelled : (octets : List ℕ) (m : Moment) → (utc_moment octets ≡ Some m) ↔ SpellsUtc octets m
utc_spelled octets m = (utc_reads octets m, utc_completes octets m)

pub generalized_spelled : (octets : List ℕ) (m : Moment) → (generalized_moment octets ≡ Some m) ↔ SpellsGeneralized octets m
generalized_spelled octets m = (generalized_reads octets m, generalized_completes octets m)

pub one_utc : (octets : List ℕ) (m n : Moment) → SpellsUtc octets m → SpellsUtc octets n → m ≡ n
one_utc octets m n s t = same_Some m n (sym (utc_completes octets m s) ∙ utc_completes octets n t)

pub one_generalized : (octets : List ℕ) (m n : Moment) → SpellsGeneralized octets m → SpellsGeneralized octets n → m ≡ n
one_generalized octets m n s t = same_Some m n (sym (generalized_completes octets m s) ∙ generalized_completes octets n t)

-- ---- the usual spelling

by_sign : (z : ℤ) → ((is_negative z ≡ false) × (z ≡ pos (unsigned_abs z))) ⊎ ((is_negative z ≡ true) × (z ≡ neg_ℤ (pos (unsigned_abs z))))
by_sign (pos n) = inl (grind (arith, nat_tests), refl)
by_sign (negsuc n) = inr (refl, refl)

less_than_a_day : (offset : ℤ) → IsOffset offset → unsigned_abs offset ≤ 1439
less_than_a_day (pos n) h = omega (arith, signed_arith)
less_than_a_day (negsuc n) h = omega (arith, signed_arith)

zero_offset : (offset : ℤ) → eqb (unsigned_abs offset) 0 ≡ true → offset ≡ pos 0
zero_offset (pos n) h = let zero : n ≡ 0 = grind (arith, nat_tests) in rw zero refl
zero_offset (negsuc n) h = absurd (let no : ⊥ = grind (arith, nat_tests) in no)

joined_minutes : (n : ℕ) → n / 60 * 60 + n % 60 ≡ n
joined_minutes n = omega arith

usual_zone : (offset : ℤ) → IsOffset offset → SpellsZone (zone_octets offset) offset
usual_zone offset within = elim (either (eqb (unsigned_abs offset) 0)) [
  | inl none ↦ rw none (inl (refl, zero_offset offset none))
  | inr some ↦ rw some (inr (
      let at_most = less_than_a_day offset within in
      let joined = joined_minutes (unsigned_abs offset) in
      let hours : unsigned_abs offset / 60 < 24 = omega arith in
      let minutes : unsigned_abs offset % 60 < 60 = omega arith in
      record {
        hours = unsigned_abs offset / 60;
        minutes = unsigned_abs offset % 60;
        hours_in = hours;
        minutes_in = minutes;
        spelled = elim (by_sign offset) [
          | inl ahead ↦ inl (rw ahead.0 refl, rw joined ahead.1)
          | inr behind ↦ inr (rw behind.0 refl, rw joined behind.1)
        ];
      }
      ))
]

from_utc : (n : ℕ) → 1950 ≤ n → n ≤ 2049 → IsYearOfCentury (n % 100) (pos n)
from_utc n low high = elim (either (ltb n 2000)) [
  | inl before ↦ let h = below n 2000 before in let same : 1900 + n % 100 ≡ n = omega arith in inr (omega arith, omega arith, ap pos (sym same))
  | inr after ↦ let h : 2000 ≤ n = grind (arith, nat_tests) in let same : 2000 + n % 100 ≡ n = omega arith in inl (omega arith, ap pos (sym same))
]

usual_year : (year : ℤ) → IsUtcYear year → IsYearOfCentury (unsigned_abs year % 100) year
usual_year (pos n) h = from_utc n (omega (arith, signed_arith)) (omega (arith, signed_arith))
usual_year (negsuc n) h = absurd (let no : ⊥ = omega (arith, signed_arith) in no)

four_digits : (year : ℤ) → IsGeneralizedYear year → (unsigned_abs year < 10000) × (year ≡ pos (unsigned_abs year))
four_digits (pos n) h = (omega (arith, signed_arith), refl)
four_digits (negsuc n) h = absurd (let no : ⊥ = omega (arith, signed_arith) in no)

pub usual_utc : (m : Moment) → IsWhole m → IsUtcYear m.year → SpellsUtc (utc_octets m) m
usual_utc m whole years = record {
  yy = unsigned_abs m.year % 100;
  ss = two_digits m.second;
  zone = zone_octets m.offset;
  spelled = refl;
  year = usual_year m.year years;
  second = inl refl;
  offset = usual_zone m.offset whole.offset;
  real = whole.real;
  whole = whole.whole;
}

pub usual_generalized : (m : Moment) → IsWhole m → IsGeneralizedYear m.year → SpellsGeneralized (generalized_octets m) m
usual_generalized m whole years = record {
  yyyy = unsigned_abs m.year;
  zone = zone_octets m.offset;
  spelled = refl;
  year = four_digits m.year years;
  offset = usual_zone m.offset whole.offset;
  real = whole.real;
  whole = whole.whole;
}

pub ruleset spelling = (one_utc, one_generalized, usual_utc, usual_generalized)

-- ---- what a reader that goes by the reading says

pub utc_spells : (result : Option OffsetDateTime) (octets : List ℕ) → option_map moment_of result ≡ utc_moment octets → IfSome result (λ t. SpellsUtc octets (moment_of t))
utc_spells None octets e = tt
utc_spells (Some t) octets e = utc_reads octets (moment_of t) (sym e)

pub utc_found : (result : Option OffsetDateTime) (octets : List ℕ) → option_map moment_of result ≡ utc_moment octets → (m : Moment) → SpellsUtc octets m → option_map moment_of result ≡ Some m
utc_found result octets e m s = e ∙ utc_completes octets m s

pub generalized_spells : (result : Option OffsetDateTime) (octets : List ℕ) → option_map moment_of result ≡ generalized_moment octets → IfSome result (λ t. SpellsGeneralized octets (moment_of t))
generalized_spells None octets e = tt
generalized_spells (Some t) octets e = generalized_reads octets (moment_of t) (sym e)

pub generalized_found : (result : Option OffsetDateTime) (octets : List ℕ) → option_map moment_of result ≡ generalized_moment octets → (m : Moment) → SpellsGeneralized octets m → option_map moment_of result ≡ Some m
generalized_found result octets e m s = e ∙ generalized_completes octets m s
