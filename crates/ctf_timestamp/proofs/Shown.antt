-- What jiff's civil times show.
use Rattle.std.proofs.Common.{◌≡◌, ℕ, zero, suc, ◌+◌, ◌-◌, ◌/◌, ◌%◌, ◌<◌, ◌≤◌, ℤ, pos, ◌-ℤ◌, ◌+ℤ◌, unsigned_abs, nat_le, true, false, [], ◌∷◌, ◌++◌, ◌⊎◌, inl, inr, refl, sym, ap, ◌∙◌, arith}
use Rattle.std.specs.Int.{int_div_euclid, int_rem_euclid}
use Rattle.std.proofs.lemmas.Bool.Decides.{nat_tests, leb_tells}
use Rattle.std.proofs.lemmas.Int.{ints}
use Rattle.jiff_core.specs.Calendar.{days_from_civil, days_of_months}
use Rattle.jiff_core.specs.Date.{epoch_day, ordinal}
use Rattle.jiff_core.specs.DateTime.{civil_nanos}
use Rattle.jiff_core.specs.Time.{time_seconds}
use Rattle.jiff_core.specs.declared.civil.date.Date.{Date}
use Rattle.jiff_core.specs.declared.civil.time.Time.{Time}
use Rattle.jiff_core.specs.declared.civil.datetime.DateTime.{DateTime}
use Rattle.jiff_core.proofs.CalendarLemmas.{days_of_months_mono, day_of_year_before}
use Rattle.jiff_core.proofs.DateLemmas.{civil, epoch_day-ordinal}
use Rattle.jiff_core.proofs.DateTimeLemmas.{civil_nanos-parts, time_nanos_bound}
use Rattle.jiff_core.proofs.SignedLemmas.{signed_arith}
use Rattle.jiff_tz.proofs.YearLemmas.{year_of_day-date}
use Rattle.ctf_timestamp.specs.declared.style.ClockStyle.{ClockStyle}
use Rattle.ctf_timestamp.specs.declared.style.ClockStyle.TheVariants as Clock
use Rattle.ctf_timestamp.specs.Stamps.{head_at, fraction}
use Rattle.ctf_timestamp.specs.Digits.{last_digits}
use Rattle.ctf_timestamp.specs.Civil.{second_of, within_second, months_before, day_in_year, day_text, date_text, time_of_day, time_at, date_at, shown_time, shown_date}

-- the second of a day, and the day
seconds_within : (dt : DateTime) (n : ℤ) → civil_nanos dt ≡ n → unsigned_abs (int_rem_euclid (second_of n) (pos 86400)) ≡ time_seconds dt.time
seconds_within dt n e = omega (arith, signed_arith, e, civil_nanos-parts dt, time_nanos_bound dt.time)

day_of : (dt : DateTime) (n : ℤ) → civil_nanos dt ≡ n → int_div_euclid (second_of n) (pos 86400) ≡ epoch_day dt.date
day_of dt n e = omega (arith, signed_arith, e, civil_nanos-parts dt, time_nanos_bound dt.time)

time_parts : (t : Time) → time_of_day (time_seconds t) ≡ shown_time t
time_parts t =
    let h : time_seconds t / 3600 ≡ t.hour = omega arith in
    let m : time_seconds t / 60 % 60 ≡ t.minute = omega arith in
    let s : time_seconds t % 60 ≡ t.second = omega arith in
    rw (h, m, s)

pub time_shown : (dt : DateTime) (n : ℤ) → civil_nanos dt ≡ n → shown_time dt.time ≡ time_at (second_of n)
unfolding time_at
time_shown dt n e = sym (ap time_of_day (seconds_within dt n e) ∙ time_parts dt.time)

-- the months before a day of a year
months_step : (y : ℤ) (n m k : ℕ) → nat_le (days_of_months y (suc n)) k ≡ false → months_before y n k ≡ m → months_before y (suc n) k ≡ m
unfolding months_before
months_step y n m k f e = rw (f, e)

months_hit : (y : ℤ) (n k : ℕ) → nat_le (days_of_months y (suc n)) k ≡ true → months_before y (suc n) k ≡ suc n
unfolding months_before
months_hit y n k f = rw f

months_none : (y : ℤ) (k : ℕ) → months_before y zero k ≡ zero
unfolding months_before
months_none y k = refl

split_le : (m n : ℕ) → m ≤ suc n → (m ≡ suc n) ⊎ (m ≤ n)
split_le m n h = elim (leb_tells m n) [
  | inl small ↦ inr small.1
  | inr big ↦ let over = big.1 in inl (omega arith)
]

months_are : (y : ℤ) (n m k : ℕ) → m ≤ n → days_of_months y m ≤ k → k < days_of_months y (suc m) → months_before y n k ≡ m
months_are y zero m k h a b = let e : m ≡ 0 = omega arith in months_none y k ∙ sym e
months_are y (suc n) m k h a b = elim (split_le m n h) [
  | inl e ↦ months_hit y n k (grind (arith, nat_tests, e)) ∙ sym e
  | inr l ↦
      let later = days_of_months_mono y (suc m) (suc n) (omega arith) in
      months_step y n m k (grind (arith, nat_tests, later)) (months_are y n m k l a b)
]

-- the parts of a date
parts_by : (a : ℕ) (y : ℤ) (m d k months : ℕ) → 1 ≤ m → 1 ≤ d → k + 1 ≡ days_of_months y (m - 1) + d → months ≡ m - 1 → date_text a (months + 1) (k - days_of_months y months + 1) ≡ date_text a m d
parts_by a y m d k months g h e f =
    let n : months + 1 ≡ m = omega arith in
    let day : k - days_of_months y (m - 1) + 1 ≡ d = omega arith in
    let same = ap (days_of_months y) f in
    rw (n, same, day)

in_year : (d : Date) (k : ℕ) → k + 1 ≡ ordinal d → day_in_year d.year k ≡ shown_date d
in_year d k e =
    let date = civil d in
    let month_in = date.1 in
    let day_in = date.2 in
    let m = d.month in
    let upper = day_of_year_before d.year d.month d.day d.month (omega arith) (omega arith) (omega arith) in
    let whole : ordinal d ≡ days_of_months d.year (d.month - 1) + d.day = refl in
    let back : suc (d.month - 1) ≡ d.month = omega arith in
    let top = ap (days_of_months d.year) back in
    let months = months_are d.year 11 (d.month - 1) k (omega arith) (omega arith) (omega arith) in
    parts_by (unsigned_abs d.year) d.year d.month d.day k _ (omega arith) (omega arith) (omega arith) months

ordinal_back : (e f : ℤ) (o : ℕ) → e +ℤ pos 1 ≡ f +ℤ pos o → 1 ≤ o → unsigned_abs (e -ℤ f) + 1 ≡ o
ordinal_back e f o h g = omega (arith, ints)

pub date_parts : (d : Date) → day_text (epoch_day d) ≡ shown_date d
unfolding day_text
date_parts d =
    let date = civil d in
    let day_in = date.2 in
    let e = ordinal_back (epoch_day d) (days_from_civil d.year 1 1) (ordinal d) (epoch_day-ordinal d) (omega arith) in
    ap (λ y. day_in_year y (unsigned_abs (epoch_day d -ℤ days_from_civil y 1 1))) (year_of_day-date d) ∙ in_year d _ e

pub date_shown : (dt : DateTime) (n : ℤ) → civil_nanos dt ≡ n → (shown_date dt.date ++ 32 ∷ []) ++ shown_time dt.time ≡ date_at (second_of n)
unfolding date_at
date_shown dt n e =
    let day = ap day_text (day_of dt n e) ∙ date_parts dt.date in
    rw (← day, ← time_shown dt n e)

pub date_same : (a b c x y z : ℕ) → a ≡ x → b ≡ y → c ≡ z → date_text a b c ≡ date_text x y z
date_same a b c x y z e f g = cc

-- the head of a civil time in a style with a date, and in one without
pub head_dated : (clock : ClockStyle) (dt : DateTime) (n : ℤ) → clock ≡ Clock.Date → civil_nanos dt ≡ n → (shown_date dt.date ++ 32 ∷ []) ++ shown_time dt.time ≡ head_at clock (second_of n)
head_dated clock dt n c e = date_shown dt n e ∙ ap (λ k. head_at k (second_of n)) (sym c)

pub head_undated : (clock : ClockStyle) (dt : DateTime) (n : ℤ) → (clock ≡ Clock.Time) ⊎ ((clock ≡ Clock.Seconds) ⊎ (clock ≡ Clock.Cycles)) → civil_nanos dt ≡ n → shown_time dt.time ≡ head_at clock (second_of n)
head_undated clock dt n (inl c) e = time_shown dt n e ∙ ap (λ k. head_at k (second_of n)) (sym c)
head_undated clock dt n (inr (inl c)) e = time_shown dt n e ∙ ap (λ k. head_at k (second_of n)) (sym c)
head_undated clock dt n (inr (inr c)) e = time_shown dt n e ∙ ap (λ k. head_at k (second_of n)) (sym c)

-- and the nanoseconds
nanos_within : (dt : DateTime) (n : ℤ) → civil_nanos dt ≡ n → within_second n ≡ dt.time.subsec_nanosecond
nanos_within dt n e = omega (arith, signed_arith, e, civil_nanos-parts dt, time_nanos_bound dt.time)

pub nanos_shown : (dt : DateTime) (n : ℤ) → civil_nanos dt ≡ n → fraction n ≡ 46 ∷ last_digits 9 dt.time.subsec_nanosecond
unfolding fraction
nanos_shown dt n e = ap (λ m. 46 ∷ last_digits 9 m) (nanos_within dt n e)
