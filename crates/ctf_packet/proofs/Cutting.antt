-- Packets go on, whatever bounds their number.
use Rattle.std.proofs.Common.{◌≡◌, ℕ, zero, suc, ◌+◌, ◌-◌, ◌*◌, ◌/◌, ◌%◌, ◌<◌, ◌≤◌, Bool, true, false, List, [], ◌∷◌, length, take, drop, Option, Some, Result, Ok, Err, nat_lt, if◌then◌else◌, refl, sym, ap, ◌∙◌, codes, arith, length-drop}
use Rattle.ctf_bits.specs.declared.source.Ending.{Ending}
use Rattle.ctf_clock.specs.declared.moment.Moment.{Moment}
use Rattle.ctf_packet.specs.Classes.{StreamForm, TraceForm}
use Rattle.ctf_packet.specs.Scopes.{Values, no_values, scope_at, cut_short, fault_in_front}
use Rattle.ctf_packet.specs.Roles.{role, number_in}
use Rattle.ctf_packet.specs.Packets.{Opened, unless, front, stream_checked, sizes_of, are_possible, is_there, sizes_checked, clock_before, clock_after, moves, placed, open_at, reached_after}
use Rattle.ctf_packet.specs.Items.{Run, stops, from_packet, longest_stream, opened, from_cut, from_bytes}
use Rattle.ctf_packet.specs.declared.fault.StreamFault.{StreamFault}
use Rattle.ctf_packet.specs.declared.fault.StreamFault.TheVariants as faults
use Rattle.ctf_packet.specs.declared.reached.Reached.{Reached}
use Rattle.ctf_packet.specs.declared.sizes.Sizes.{Sizes}
use Rattle.ctf_packet.proofs.Going.{first}
use Rattle.ctf_packet.proofs.Measures.{possible}

passed : (f : StreamFault) (b : Bool) (x : Bool) → unless f b ≡ Ok x → b ≡ true
passed f true x h = refl
passed f false x h = cc

some_size : (p c : Option ℕ) (ending : Ending) (rest end : ℕ) (s : Sizes) → sizes_checked p c ending rest end ≡ Ok s → 1 ≤ s.packet / 8
unfolding sizes_checked
some_size p c ending rest end s e =
    let a = first (unless faults.ImpossibleSizes (are_possible (sizes_of p c rest) end)) _ s e in
    let b = first (unless (cut_short ending) (is_there p c ending (sizes_of p c rest) rest)) _ s a.2 in
    let g : ◌≡◌ {A = Sizes} (sizes_of p c rest) s = cc (b.2) in
    let h = possible (sizes_of p c rest) end (passed faults.ImpossibleSizes (are_possible (sizes_of p c rest) end) a.0 a.1) in
    let i : (sizes_of p c rest).packet ≡ s.packet = ap (λ (z : Sizes). z.packet) g in
    let some : 0 < s.packet = omega (arith, h.0) in
    let whole : s.packet % 8 ≡ 0 = ap (λ n. n % 8) (sym i) ∙ h.1 in
    omega arith

placed_ends : {C : Type 0} (stream : StreamForm C) (reached : Option Reached) (start : ℕ) (values : Values) (place : ℕ) (sizes : Sizes) (p : Opened C) → placed stream reached start values place sizes ≡ Ok p → (p.start ≡ start) × (p.end ≡ start + sizes.packet / 8)
unfolding placed
placed_ends {C} stream reached start values place sizes p e =
    let a = first (clock_before stream.line reached) _ p e in
    let b = first (clock_after stream.line a.0 (moves stream.packet_context values.packet_context)) _ p a.2 in
    let starts : Result (Opened C) StreamFault → ℕ = λ r. elim r as (λ _. ℕ) [ Ok x ↦ x.start | Err f ↦ start ] in
    let ends : Result (Opened C) StreamFault → ℕ = λ r. elim r as (λ _. ℕ) [ Ok x ↦ x.end | Err f ↦ start ] in
    (sym (ap starts b.2), sym (ap ends b.2))

-- a packet takes a byte at least
pub some_bytes : {C : Type 0} (trace : TraceForm C) (ending : Ending) (reached : Option Reached) (start : ℕ) (left : List ℕ) (p : Opened C) → open_at trace ending reached start left ≡ Ok p → 1 ≤ p.end - p.start
unfolding open_at
some_bytes {C} trace ending reached start left p e =
    let a = first (scope_at (fault_in_front ending) trace.packet_header (front left no_values) 0 0) _ p e in
    let b = first (stream_checked trace reached (a.0).value) _ p a.2 in
    let known = record no_values { packet_header = (a.0).value } in
    let d = first (scope_at (fault_in_front ending) (b.0).packet_context (front left known) (a.0).end (a.0).spent) _ p b.2 in
    let size = λ (name : List ℕ). number_in (role name (b.0).packet_context (d.0).value) in
    let s = first (sizes_checked (size (codes "packet_size")) (size (codes "content_size")) ending (8 * length left) (d.0).end) _ p d.2 in
    let n = some_size (size (codes "packet_size")) (size (codes "content_size")) ending (8 * length left) (d.0).end s.0 s.1 in
    let h = placed_ends (b.0) reached start (record known { packet_context = (d.0).value }) (d.0).end s.0 p s.2 in
    omega (arith, h.0, h.1)

module _ {C : Type 0} (trace : TraceForm C) (ending : Ending) where
  abbrev next : ℕ → List ℕ → Opened C → Option Moment → Run C
  next n left packet clock = from_cut n trace ending (Some (reached_after packet clock)) packet.end (drop (packet.end - packet.start) left)

  same : (m n at : ℕ) (left : List ℕ) (reached : Option Reached) (ih : (r : Option Reached) (a : ℕ) (l : List ℕ) → length l ≤ m → length l ≤ n → from_cut m trace ending r a l ≡ from_cut n trace ending r a l)
      → length left ≤ suc m → length left ≤ suc n → (r : Result (Opened C) StreamFault) → open_at trace ending reached at left ≡ r → opened at left (next m left) r ≡ opened at left (next n left) r
  same m n at left reached ih h g (Err f) e = refl
  same m n at left reached ih h g (Ok p) e =
      let some = some_bytes trace ending reached at left p e in
      let shorter : length (drop (p.end - p.start) left) ≤ m = simp length-drop (omega arith) in
      let shorter-2 : length (drop (p.end - p.start) left) ≤ n = simp length-drop (omega arith) in
      λ i. from_packet p (take (p.end - p.start) left) (λ clock. ih (Some (reached_after p clock)) p.end (drop (p.end - p.start) left) shorter shorter-2 i)

  -- any bound that is large enough will do
  pub enough : (m n : ℕ) (reached : Option Reached) (at : ℕ) (left : List ℕ) → length left ≤ m → length left ≤ n → from_cut m trace ending reached at left ≡ from_cut n trace ending reached at left
  enough zero zero reached at [] h g = refl
  enough zero (suc n) reached at [] h g = refl
  enough (suc m) zero reached at [] h g = refl
  enough (suc m) (suc n) reached at [] h g = refl
  enough zero n reached at (b ∷ bs) h g = absurd (omega arith)
  enough (suc m) zero reached at (b ∷ bs) h g = absurd (omega arith)
  enough (suc m) (suc n) reached at (b ∷ bs) h g =
      ap (λ x. if nat_lt longest_stream at then stops (Some faults.StreamTooLong) at else x)
      (same m n at (b ∷ bs) reached (λ r a l x y. enough m n r a l x y) h g (open_at trace ending reached at (b ∷ bs)) refl)

  abbrev pub after : List ℕ → Opened C → Option Moment → Run C
  after left packet clock = from_bytes trace ending (Some (reached_after packet clock)) packet.end (drop (packet.end - packet.start) left)

  step : (m at : ℕ) (left : List ℕ) (reached : Option Reached) → length left ≤ suc m → (r : Result (Opened C) StreamFault) → open_at trace ending reached at left ≡ r → opened at left (next m left) r ≡ opened at left (after left) r
  step m at left reached h (Err f) e = refl
  step m at left reached h (Ok p) e =
      let some = some_bytes trace ending reached at left p e in
      let shorter : length (drop (p.end - p.start) left) ≤ m = simp length-drop (omega arith) in
      let all : length (drop (p.end - p.start) left) ≤ length (drop (p.end - p.start) left) = omega arith in
      λ i. from_packet p (take (p.end - p.start) left) (λ clock. enough m (length (drop (p.end - p.start) left)) (Some (reached_after p clock)) p.end (drop (p.end - p.start) left) shorter all i)

  pub goes_on : (reached : Option Reached) (at b : ℕ) (bs : List ℕ)
      → from_bytes trace ending reached at (b ∷ bs) ≡ (if nat_lt longest_stream at then stops (Some faults.StreamTooLong) at else opened at (b ∷ bs) (after (b ∷ bs)) (open_at trace ending reached at (b ∷ bs)))
  goes_on reached at b bs =
      let all : length (b ∷ bs) ≤ suc (length bs) = omega arith in
      ap (λ x. if nat_lt longest_stream at then stops (Some faults.StreamTooLong) at else x) (step (length bs) at (b ∷ bs) reached all (open_at trace ending reached at (b ∷ bs)) refl)
