-- Stamps from a kept second, and from one that is made.
use Rattle.std.proofs.Common.{◌≡◌, ℕ, ℤ, ◌<◌, List, ◌∷◌, ◌++◌, Option, Some, None, IfSome, ◌≤◌, length, take, refl, sym, ap, subst, ◌∙◌, length-append, arith}
use Rattle.std.proofs.lemmas.List.{length-take, take_all, take-take}
use Rattle.ctf_clock.specs.declared.moment.Moment.{Moment}
use Rattle.ctf_timestamp.specs.Civil.{second_of, within_second, time_at, clock_text}
use Rattle.ctf_timestamp.specs.Digits.{last_digits}
use Rattle.ctf_timestamp.specs.Putting.{IsPut}
use Rattle.ctf_timestamp.specs.Stamps.{head_at, fraction, stamp, stamp_by, IsHeadOf}
use Rattle.ctf_timestamp.specs.Zones.{civil_at}
use Rattle.ctf_timestamp.specs.declared.style.ClockStyle.TheVariants as Clock
use Rattle.ctf_timestamp.specs.declared.style.Style.{Style}
use Rattle.ctf_timestamp.proofs.Groups.{digits_long}
use Rattle.ctf_timestamp.proofs.Steady.{same_nanos}

pub made_stamp : (own style : Style) (time : ℤ) (text : List ℕ) (nanos : ℕ) → own ≡ style → text ≡ head_at own.clock (second_of (civil_at own.zone time)) → nanos ≡ within_second time
    → text ++ 46 ∷ last_digits 9 nanos ≡ head_at style.clock (second_of (civil_at style.zone time)) ++ fraction (civil_at style.zone time)
unfolding fraction
made_stamp own style time text nanos o e h =
    ap (λ x. x ++ 46 ∷ last_digits 9 nanos) (e ∙ ap (λ (s : Style). head_at s.clock (second_of (civil_at s.zone time))) o)
    ∙ ap (λ n. head_at style.clock (second_of (civil_at style.zone time)) ++ 46 ∷ last_digits 9 n) (h ∙ sym (same_nanos style.zone time))

pub kept_stamp : (own style : Style) (time second : ℤ) (text : List ℕ) (nanos : ℕ) → own ≡ style → IsHeadOf own second text → second_of time ≡ second → nanos ≡ within_second time → nanos < 999999999
    → text ++ 46 ∷ last_digits 9 nanos ≡ head_at style.clock (second_of (civil_at style.zone time)) ++ fraction (civil_at style.zone time)
kept_stamp own style time second text nanos o k s h l =
    let early : within_second time < 999999999 = omega arith in
    made_stamp own style time text nanos o (k.shows time s early) h

-- what is put at the start of a slice is its beginning
pub put_first : {a b s : List ℕ} {n : ℕ} → IsPut a b 0 n s → take n b ≡ s
put_first p = p.stands

pub same_head : (style : Style) (s t : ℤ) (xs ys : List ℕ) → IsHeadOf style s xs → s ≡ t → xs ≡ ys → IsHeadOf style t ys
same_head style s t xs ys h e f = subst (IsHeadOf style t) f (subst (λ (z : ℤ). IsHeadOf style z xs) e h)

-- the head that is kept with the start of its second
pub head_from : (style : Style) (start : Option ℤ) (s : ℤ) (text : List ℕ) → start ≡ Some s → IfSome start (λ s. (within_second s ≡ 0) × IsHeadOf style (second_of s) text) → IsHeadOf style (second_of s) text
head_from style start s text is kept = (subst (λ o. IfSome o (λ s. (within_second s ≡ 0) × IsHeadOf style (second_of s) text)) is kept).1

pub keeps_head : (style : Style) (start : Option ℤ) (time : ℤ) (nanos : ℕ) (xs ys : List ℕ) → IfSome start (λ s. second_of s ≡ second_of time) → IfSome start (λ s. within_second s ≡ 0) → IfSome start (λ _. nanos < 999999999) → nanos ≡ within_second time
    → (within_second time < 999999999 → IsHeadOf style (second_of time) xs) → xs ≡ ys → IfSome start (λ s. (within_second s ≡ 0) × IsHeadOf style (second_of s) ys)
keeps_head style None time nanos xs ys second zero early is head same = tt
keeps_head style (Some s) time nanos xs ys second zero early is head same =
    let before : within_second time < 999999999 = omega arith in
    (zero, same_head style _ _ xs ys (head before) (sym second) same)

-- a head without a date has eight bytes
clock_long : (h m s : ℕ) → length (clock_text h m s) ≡ 8
unfolding clock_text
clock_long h m s = search (digits_long, length-append, arith)

time_long : (second : ℤ) → length (time_at second) ≡ 8
unfolding time_at
time_long second = clock_long _ _ _

short_head : (own : Style) (time second : ℤ) (n : ℕ) (text : List ℕ) → own.clock ≡ Clock.Time → IsHeadOf own second (take n text) → second_of time ≡ second → within_second time < 999999999
    → IsHeadOf own second (take 8 text)
short_head own time second n text clock k s early =
    let shown : take n text ≡ time_at (second_of (civil_at own.zone time)) = k.shows time s early ∙ ap (λ c. head_at c (second_of (civil_at own.zone time))) clock in
    let eight : length (take n text) ≡ 8 = ap (λ (xs : List ℕ). length xs) shown ∙ time_long (second_of (civil_at own.zone time)) in
    let within : 8 ≤ n = omega (arith, eight, length-take n text) in
    same_head own second second _ _ k refl (sym (take_all 8 (take n text) (omega (arith, eight))) ∙ take-take 8 n text within)

stamp_short : (style : Style) (moment : Moment) → style.clock ≡ Clock.Time
    → head_at style.clock (second_of (civil_at style.zone moment.time)) ++ fraction (civil_at style.zone moment.time) ≡ stamp style moment
stamp_short style moment e =
    ap (λ c. head_at c (second_of (civil_at style.zone moment.time)) ++ fraction (civil_at style.zone moment.time)) e
    ∙ ap (λ c. stamp_by c style.zone moment) (sym e)

pub kept_short : (own style : Style) (moment : Moment) (second : ℤ) (n : ℕ) (text : List ℕ) (nanos : ℕ) → own ≡ style → own.clock ≡ Clock.Time → IsHeadOf own second (take n text)
    → second_of moment.time ≡ second → nanos ≡ within_second moment.time → nanos < 999999999 → take 8 text ++ 46 ∷ last_digits 9 nanos ≡ stamp style moment
kept_short own style moment second n text nanos o clock k s h l =
    let early : within_second moment.time < 999999999 = omega arith in
    let head = short_head own moment.time second n text clock k s early in
    kept_stamp own style moment.time second (take 8 text) nanos o head s h l ∙ stamp_short style moment (ap (λ (x : Style). x.clock) (sym o) ∙ clock)
