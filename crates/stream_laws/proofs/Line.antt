-- Clocks that are at the times of their values.
use Rattle.std.proofs.Common.{◌≡◌, ℕ, zero, suc, ℤ, pos, negsuc, ◌/◌, ◌^◌, ◌≤◌, ◌≤ℤ◌, ◌+ℤ◌, ◌*ℤ◌, Bool, true, false, List, [], ◌∷◌, Option, Some, None, option_and_then, Ok, nat_lt, if◌then◌else◌, refl, sym, ap, subst, ◌∙◌, arith}
use Rattle.std.specs.Int.{int_div_euclid}
use Rattle.std.specs.Option.{is_some}
use Rattle.std.proofs.Math.Nat.{div-mul-le_self, div-zero}
use Rattle.std.proofs.lemmas.Nat.{le-div}
use Rattle.std.proofs.lemmas.Int.{ints}
use Rattle.ctf_clock.specs.declared.moment.Moment.{Moment}
use Rattle.ctf_clock.specs.Counting.{least_from}
use Rattle.ctf_clock.specs.Clock.{Line, nanoseconds, fits, with_time, moment_at, advanced, advanced_by}
use Rattle.ctf_packet.specs.Scopes.{◌>>=◌}
use Rattle.ctf_packet.specs.Packets.{or_fault, clock_before, clock_after}
use Rattle.ctf_packet.specs.declared.reached.Reached.{Reached}
use Rattle.ctf_packet.specs.declared.fault.StreamFault.TheVariants as faults
use Rattle.stream_laws.specs.Times.{time_at, NotBefore}
use Rattle.stream_laws.proofs.Later.{not_less, not_before_itself, not_before_none}

-- Quotients do not fall. A divisor of 0 gives 0 or -1, which do not either.
pub quotient_rises : (a b n : ℕ) → a ≤ b → a / n ≤ b / n
quotient_rises a b zero h = let x = div-zero a in let y = div-zero b in omega arith
quotient_rises a b (suc n) h = le-div (a / suc n) b (suc n) (omega arith) (let l = div-mul-le_self a (suc n) in omega arith)

pub floor_rises : (x y : ℤ) (n : ℕ) → x ≤ℤ y → int_div_euclid x (pos n) ≤ℤ int_div_euclid y (pos n)
floor_rises (pos a) (pos b) n h = let l = quotient_rises a b n (omega (arith, ints)) in omega (arith, ints)
floor_rises (pos a) (negsuc b) n h = absurd (omega (arith, ints))
floor_rises (negsuc a) (pos b) n h = omega (arith, ints)
floor_rises (negsuc a) (negsuc b) n h = let l = quotient_rises b a n (omega (arith, ints)) in omega (arith, ints)

-- the time of a larger value is not smaller
pub time_rises : (line : Line) (a b : ℕ) → a ≤ b → nanoseconds line a ≤ℤ nanoseconds line b
time_rises line a b h =
    let l = floor_rises ((line.offset +ℤ pos a) *ℤ pos 1000000000) ((line.offset +ℤ pos b) *ℤ pos 1000000000) line.frequency (omega (arith, ints)) in
    omega (arith, ints)

-- a clock is there where its line is, and has the time of its value
abbrev pub OnLine : Option Line → Option Moment → Type 0
OnLine None clock = clock ≡ None
OnLine (Some line) None = ⊥
OnLine (Some line) (Some moment) = moment.time ≡ nanoseconds line moment.cycles

-- it has a time where its line is there
pub timed : (line : Option Line) (clock : Option Moment) → OnLine line clock → is_some (time_at clock) ≡ is_some line
timed None clock h = ap (λ c. is_some (time_at c)) h
timed (Some line) None h = absurd h
timed (Some line) (Some moment) h = refl

judged : (b c : Bool) (v : ℕ) (t : ℤ) (m : Moment) → (if b then with_time v (if c then Some t else None) else None) ≡ Some m → (m.cycles ≡ v) × (m.time ≡ t)
judged true true v t m h =
    let g : record { cycles = v; time = t } ≡ m = cc in
    (sym (ap (λ (x : Moment). x.cycles) g), sym (ap (λ (x : Moment). x.time) g))
judged true false v t m h = cc
judged false c v t m h = cc

-- the moment at a value has that value and its time
pub at_value : (line : Line) (v : ℕ) (m : Moment) → moment_at line v ≡ Some m → (m.cycles ≡ v) × (m.time ≡ nanoseconds line v)
at_value line v m h = judged (nat_lt v (2 ^ 64)) (fits (nanoseconds line v)) v (nanoseconds line v) m h

-- a moment on the line of a clock, whose value is not below another's
abbrev pub Follows : Line → Moment → Moment → Type 0
Follows line from to = (from.cycles ≤ to.cycles) × (to.time ≡ nanoseconds line to.cycles)

pub advance_follows : (line : Line) (from to : Moment) (n x : ℕ) → advanced line from n x ≡ Some to → Follows line from to
advance_follows line from to n x h =
    let g = at_value line (least_from n from.cycles x) to h in
    let e = g.0 in
    (omega arith, g.1 ∙ ap (nanoseconds line) (sym e))

-- one integer, and then the others
through : (line : Line) (ms : List (ℕ × ℕ)) (from to : Moment) (o : Option Moment)
    → ((next : Moment) → o ≡ Some next → Follows line from next)
    → ((next : Moment) → next.time ≡ nanoseconds line next.cycles → advanced_by line next ms ≡ Some to → Follows line next to)
    → option_and_then (λ next. advanced_by line next ms) o ≡ Some to → Follows line from to
through line ms from to None first others h = cc
through line ms from to (Some next) first others h =
    let a = first next refl in
    let b = others next a.1 h in
    let c = a.0 in
    let d = b.0 in
    (omega arith, b.1)

pub advances_follow : (line : Line) (ms : List (ℕ × ℕ)) (from to : Moment) → from.time ≡ nanoseconds line from.cycles → advanced_by line from ms ≡ Some to → Follows line from to
advances_follow line [] from to on h =
    let g : from ≡ to = cc in
    let e : from.cycles ≡ to.cycles = ap (λ (x : Moment). x.cycles) g in
    (omega arith, sym (ap (λ (x : Moment). x.time) g) ∙ (on ∙ ap (nanoseconds line) e))
advances_follow line (m ∷ ms) from to on h =
    through line ms from to (advanced line from m.0 m.1) (λ next e. advance_follows line from next m.0 m.1 e) (λ next on g. advances_follow line ms next to on g) h

-- a clock on its line, not before another
abbrev pub Reaches : Option Line → Option Moment → Option Moment → Type 0
Reaches line from to = OnLine line to × NotBefore (time_at from) (time_at to)

pub reaches : (line : Line) (from to : Moment) → from.time ≡ nanoseconds line from.cycles → Follows line from to → Reaches (Some line) (Some from) (Some to)
reaches line from to on h =
    let l = time_rises line from.cycles to.cycles h.0 in
    let e = h.1 in
    (h.1, not_less to.time from.time (omega (arith, ints)))

-- the clock after a scope is no earlier than before it
pub after_reaches : (line : Option Line) (clock next : Option Moment) (ms : List (ℕ × ℕ)) → OnLine line clock → clock_after line clock ms ≡ Ok next → Reaches line clock next
after_reaches None clock next ms on h =
    let e : next ≡ None = cc in
    (e, subst (λ c. NotBefore (time_at c) (time_at next)) (sym on) (not_before_none (time_at next)))
after_reaches (Some line) None next ms on h = absurd on
after_reaches (Some line) (Some m) next ms on h = one (advanced_by line m ms) refl h
  where
    one : (o : Option Moment) → advanced_by line m ms ≡ o → (or_fault faults.ClockRefused o >>= (λ n. Ok (Some n))) ≡ Ok next → Reaches (Some line) (Some m) next
    one None e g = cc
    one (Some n) e g =
        let s : Some n ≡ next = cc in
        subst (Reaches (Some line) (Some m)) s (reaches line m n on (advances_follow line ms m n on e))

-- the clock that a stream has reached
abbrev pub clock_in : Option Reached → Option Moment
clock_in reached = option_and_then (λ (r : Reached). r.clock) reached

-- it is on a line, where the stream has come somewhere
abbrev pub Stands : Option Line → Option Reached → Type 0
Stands line None = Unit {0}
Stands line (Some r) = OnLine line r.clock

-- the clock before a packet is the one that was reached, or the first
pub before_reaches : (line : Option Line) (reached : Option Reached) (next : Option Moment) → Stands line reached → clock_before line reached ≡ Ok next → Reaches line (clock_in reached) next
before_reaches None None next on h = let e : next ≡ None = cc in (e, not_before_none (time_at next))
before_reaches None (Some r) next on h =
    let e : next ≡ None = cc in
    (e, subst (λ c. NotBefore (time_at c) (time_at next)) (sym on) (not_before_none (time_at next)))
before_reaches (Some line) None next on h = one (moment_at line 0) refl h
  where
    one : (o : Option Moment) → moment_at line 0 ≡ o → (or_fault faults.ClockRefused o >>= (λ n. Ok (Some n))) ≡ Ok next → Reaches (Some line) None next
    one None e g = cc
    one (Some n) e g =
        let s : Some n ≡ next = cc in
        let v = at_value line 0 n e in
        subst (Reaches (Some line) None) s (v.1 ∙ ap (nanoseconds line) (sym v.0), not_before_none (Some n.time))
before_reaches (Some line) (Some r) next on h =
    let s : r.clock ≡ next = cc in
    subst (Reaches (Some line) r.clock) s (on, not_before_itself (time_at r.clock))
