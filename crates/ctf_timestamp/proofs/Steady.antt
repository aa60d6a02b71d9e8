-- The offset of a rule is the same at each instant of a second, but for its last nanosecond.
use Rattle.std.proofs.Common.{◌≡◌, ◌<◌, ℤ, pos, ◌+ℤ◌, ◌-ℤ◌, ◌*ℤ◌, ◌≤ℤ◌, ◌<ℤ◌, int_le, int_lt, Bool, true, false, if◌then◌else◌, Option, Some, None, ◌⊎◌, inl, inr, refl, sym, ap, ◌∙◌, arith}
use Rattle.std.proofs.lemmas.Int.{ints}
use Rattle.std.specs.Int.{int_div_euclid}
use Rattle.jiff_core.specs.Calendar.{days_in_year}
use Rattle.jiff_core.specs.Timestamp.{nanos_of_seconds}
use Rattle.jiff_core.specs.declared.Offset.{Offset}
use Rattle.jiff_core.proofs.SignedLemmas.{signed_arith}
use Rattle.jiff_tz.specs.PosixRule as Rule
use Rattle.jiff_tz.specs.Year.{year_of_nanos, year_of_day}
use Rattle.jiff_tz.specs.Zone.{offset_at}
use Rattle.jiff_tz.specs.declared.posix.DayTime.{DayTime}
use Rattle.jiff_tz.specs.declared.posix.Dst.{Dst}
use Rattle.jiff_tz.specs.declared.timezone.TimeZone.{TimeZone}
use Rattle.jiff_tz.specs.declared.timezone.TimeZone.TheVariants as Kind
use Rattle.jiff_tz.proofs.TzifLemmas.{le_yes, le_no}
use Rattle.ctf_timestamp.specs.Civil.{second_of, within_second}
use Rattle.ctf_timestamp.specs.Zones.{civil_at, IsUtcOrRule}
use Rattle.ctf_timestamp.specs.Stamps.{head_at, IsHeadOf}
use Rattle.ctf_timestamp.specs.declared.style.Style.{Style}

-- two instants of one second, before its last nanosecond
record SameSecond (a b : ℤ) : Type 0 where
  same : second_of a ≡ second_of b
  first : within_second a < 999999999
  second : within_second b < 999999999

-- the start of a second, or the nanosecond before it
record IsEdge (w : ℤ) : Type 0 where
  start : ℤ
  low : nanos_of_seconds start ≤ℤ (w +ℤ pos 1)
  high : w ≤ℤ nanos_of_seconds start

by_test : (b : Bool) → (b ≡ true) ⊎ (b ≡ false)
by_test true = inl refl
by_test false = inr refl

starts : (a : ℤ) → nanos_of_seconds (second_of a) ≤ℤ a
starts a = omega (arith, signed_arith)

ends : (a : ℤ) → within_second a < 999999999 → (a +ℤ pos 1) <ℤ (nanos_of_seconds (second_of a) +ℤ pos 1000000000)
ends a h = omega (arith, signed_arith)

lt_yes : (a b : ℤ) → a <ℤ b → int_lt a b ≡ true
lt_yes a b h = grind (arith, ints)

lt_no : (a b : ℤ) → b ≤ℤ a → int_lt a b ≡ false
lt_no a b h = grind (arith, ints)

after : (w a k q : ℤ) → w ≤ℤ nanos_of_seconds k → nanos_of_seconds q ≤ℤ a → int_le k q ≡ true → w ≤ℤ a
after w a k q h l t = omega (arith, signed_arith)

before : (w a k q : ℤ) → nanos_of_seconds k ≤ℤ (w +ℤ pos 1) → (a +ℤ pos 1) <ℤ (nanos_of_seconds q +ℤ pos 1000000000) → int_le k q ≡ false → a <ℤ w
before w a k q h l t = omega (arith, signed_arith)

side : (w a b : ℤ) → IsEdge w → SameSecond a b → ((w ≤ℤ a) × (w ≤ℤ b)) ⊎ ((a <ℤ w) × (b <ℤ w))
side w a b e s = elim (by_test (int_le e.start (second_of a))) [
  | inl t ↦ inl (after w a e.start _ e.high (starts a) t, after w b e.start _ e.high (starts b) (ap (int_le e.start) (sym s.same) ∙ t))
  | inr t ↦ inr (before w a e.start _ e.low (ends a s.first) t, before w b e.start _ e.low (ends b s.second) (ap (int_le e.start) (sym s.same) ∙ t))
]

le_same : (w a b : ℤ) → IsEdge w → SameSecond a b → int_le w a ≡ int_le w b
le_same w a b e s = elim (side w a b e s) [
  | inl h ↦ le_yes w a h.0 ∙ sym (le_yes w b h.1)
  | inr h ↦ le_no w a h.0 ∙ sym (le_no w b h.1)
]

lt_same : (w a b : ℤ) → IsEdge w → SameSecond a b → int_lt a w ≡ int_lt b w
lt_same w a b e s = elim (side w a b e s) [
  | inl h ↦ lt_no a w h.0 ∙ sym (lt_no b w h.1)
  | inr h ↦ lt_yes a w h.0 ∙ sym (lt_yes b w h.1)
]

year_same : (a b : ℤ) → SameSecond a b → year_of_nanos a ≡ year_of_nanos b
year_same a b s =
    let day : int_div_euclid a (pos 86_400_000_000_000) ≡ int_div_euclid b (pos 86_400_000_000_000) = omega (arith, signed_arith, s.same) in
    ap year_of_day day

day_edge : (day more : ℤ) → IsEdge (day *ℤ Rule.nanos_per_day +ℤ nanos_of_seconds more)
day_edge day more = record { start = day *ℤ pos 86400 +ℤ more; low = omega (arith, signed_arith); high = omega (arith, signed_arith) }

first_edge : (y : ℤ) → IsEdge (Rule.first_nanosecond y)
first_edge y = record { start = Rule.first_day y *ℤ pos 86400; low = omega (arith, signed_arith); high = omega (arith, signed_arith) }

end_edge : (day : ℤ) → IsEdge (day *ℤ Rule.nanos_per_day -ℤ pos 1)
end_edge day = record { start = day *ℤ pos 86400; low = omega (arith, signed_arith); high = omega (arith, signed_arith) }

last_edge : (y : ℤ) → IsEdge (Rule.last_nanosecond y)
last_edge y = end_edge (Rule.first_day y +ℤ pos (days_in_year y))

if_edge : (b : Bool) (v w : ℤ) → IsEdge v → IsEdge w → IsEdge (if b then v else w)
if_edge true v w h g = h
if_edge false v w h g = g

clamp_edge : (low high n : ℤ) → IsEdge low → IsEdge high → IsEdge n → IsEdge (Rule.clamp_to low high n)
clamp_edge low high n h g e = if_edge _ _ _ h (if_edge _ _ _ g e)

some_edge : (o : Option ℤ) (none : ℤ) (some : ℤ → ℤ) → IsEdge none → ((x : ℤ) → IsEdge (some x)) → IsEdge (Rule.match_some o none some)
some_edge None none some h g = h
some_edge (Some x) none some h g = g x

rule_edge : (y : ℤ) (d : DayTime) (seconds : ℤ) → IsEdge (Rule.rule_nanos y d seconds)
unfolding Rule.rule_nanos
rule_edge y d seconds = some_edge (Rule.rule_day y d.date) _ _ (last_edge y) (λ day. clamp_edge (Rule.first_nanosecond y) (Rule.last_nanosecond y) (day *ℤ Rule.nanos_per_day +ℤ nanos_of_seconds (d.time -ℤ seconds)) (first_edge y) (last_edge y) (day_edge day (d.time -ℤ seconds)))

-- both ends of a window are edges
record Edges (w : ℤ × ℤ) : Type 0 where
  from : IsEdge w.0
  to : IsEdge w.1

if_edges : (b : Bool) (v w : ℤ × ℤ) → Edges v → Edges w → Edges (if b then v else w)
if_edges true v w h g = h
if_edges false v w h g = g

window_edges : (d : Dst) (y : ℤ) (std : Offset) → Edges (Rule.utc_window d y std)
unfolding Rule.utc_window
window_edges d y std =
    let start = rule_edge y d.rule.start std.seconds in
    if_edges _ _ _ (record { from = start; to = last_edge y }) (record { from = start; to = rule_edge y d.rule.end d.offset.seconds })

window_same : (w : ℤ × ℤ) (a b : ℤ) → Edges w → SameSecond a b → Rule.in_window w a ≡ Rule.in_window w b
window_same w a b e s =
    rw (le_same w.0 a b e.from s, lt_same w.1 a b e.to s, le_same w.1 a b e.to s, lt_same w.0 a b e.from s)

dst_same : (std : Offset) (o : Option Dst) (a b : ℤ) → SameSecond a b → Rule.dst_at_by std o a ≡ Rule.dst_at_by std o b
dst_same std None a b s = refl
dst_same std (Some d) a b s =
    let year : Rule.in_window (Rule.utc_window d (year_of_nanos a) std) a ≡ Rule.in_window (Rule.utc_window d (year_of_nanos b) std) a
    = ap (λ y. Rule.in_window (Rule.utc_window d y std) a) (year_same a b s) in
    ap (λ t. if t then Some d else None) (year ∙ window_same _ a b (window_edges d (year_of_nanos b) std) s)

offset_same : (zone : TimeZone) (a b : ℤ) → IsUtcOrRule zone → SameSecond a b → offset_at zone a ≡ offset_at zone b
unfolding offset_at
offset_same Kind.UTC a b z s = refl
offset_same Kind.Unknown a b z s = absurd z
offset_same (Kind.Fixed offset) a b z s = absurd z
offset_same (Kind.Posix rule) a b z s = ap (λ d. (Rule.match_some d rule.std_offset (λ d. d.offset)).seconds) (dst_same rule.std_offset rule.dst a b s)
offset_same (Kind.Tzif table) a b z s = absurd z

shifted : (a n : ℤ) → second_of (a +ℤ nanos_of_seconds n) ≡ second_of a +ℤ n
shifted a n = omega (arith, signed_arith)

shifted_nanos : (a n : ℤ) → within_second (a +ℤ nanos_of_seconds n) ≡ within_second a
shifted_nanos a n = omega (arith, signed_arith)

-- a zone shows instants of one second in one second
pub same_second : (zone : TimeZone) (a b : ℤ) → IsUtcOrRule zone → second_of a ≡ second_of b → within_second a < 999999999 → within_second b < 999999999 → second_of (civil_at zone a) ≡ second_of (civil_at zone b)
same_second zone a b z e f g =
    let offset = offset_same zone a b z (record { same = e; first = f; second = g }) in
    shifted a _ ∙ (ap (λ m. second_of a +ℤ m) offset ∙ ap (λ m. m +ℤ offset_at zone b) e) ∙ sym (shifted b _)

-- and the nanoseconds within it are the instant's own
pub same_nanos : (zone : TimeZone) (a : ℤ) → within_second (civil_at zone a) ≡ within_second a
same_nanos zone a = shifted_nanos a (offset_at zone a)

pub steady_head : (style : Style) (time : ℤ) → IsUtcOrRule style.zone → within_second time < 999999999 → IsHeadOf style (second_of time) (head_at style.clock (second_of (civil_at style.zone time)))
steady_head style time z h = record {
  shows = λ other e f. ap (head_at style.clock) (same_second style.zone time other z (sym e) h f);
}
