-- The times of a stream's items never fall.
use Rattle.std.proofs.Common.{◌≡◌, ℕ, zero, suc, ◌-◌, Bool, true, false, List, [], ◌∷◌, ◌++◌, length, take, drop, Option, Some, None, Result, Ok, Err, nat_lt, if◌then◌else◌, refl}
use Rattle.ctf_bits.specs.declared.source.Ending.{Ending}
use Rattle.ctf_clock.specs.declared.moment.Moment.{Moment}
use Rattle.ctf_packet.specs.Classes.{TraceForm}
use Rattle.ctf_packet.specs.Packets.{Opened, open_at, reached_after}
use Rattle.ctf_packet.specs.Records.{Recorded, record_at}
use Rattle.ctf_packet.specs.Items.{Item, Run, stops, lost_before, discarded_before, recorded, from_record, from_packet, longest_stream, opened, from_cut, run_of}
use Rattle.ctf_packet.specs.declared.reached.Reached.{Reached}
use Rattle.ctf_packet.specs.declared.fault.StreamFault.{StreamFault}
use Rattle.ctf_packet.specs.declared.fault.StreamFault.TheVariants as faults
use Rattle.stream_laws.specs.Times.{time_at, Rises}
use Rattle.stream_laws.proofs.Later.{not_before_itself, rises_under}
use Rattle.stream_laws.proofs.Line.{OnLine, clock_in}
use Rattle.stream_laws.proofs.Reaching.{IsReached, IsOpened, open_reaches, reaches_after, record_reaches}

module _ {C : Type 0} where
  -- what follows from each clock on a packet's line rises from its time
  abbrev Goes : Opened C → (Option Moment → Run C) → Type 0
  Goes packet follows = (clock : Option Moment) → OnLine packet.stream.line clock → Rises (time_at clock) (follows clock).items

  recorded_rises : (packet : Opened C) (bytes : List ℕ) (goes : Option Moment → ℕ → Run C) (clock : Option Moment) (place : ℕ) → OnLine packet.stream.line clock
      → ((next : Option Moment) (end : ℕ) → OnLine packet.stream.line next → Rises (time_at next) (goes next end).items)
      → (r : Result (Recorded C) StreamFault) → record_at packet bytes clock place ≡ r → Rises (time_at clock) (recorded packet goes r).items
  recorded_rises packet bytes goes clock place on g (Err f) e = tt
  recorded_rises packet bytes goes clock place on g (Ok r) e =
      let h = record_reaches packet bytes clock place r on e in
      (h.1, g r.clock r.end h.0)

  pub records_rise : (n : ℕ) (packet : Opened C) (bytes : List ℕ) (follows : Option Moment → Run C) (clock : Option Moment) (place : ℕ) → Goes packet follows → OnLine packet.stream.line clock
      → Rises (time_at clock) (from_record n packet bytes clock place follows).items
  records_rise zero packet bytes follows clock place g on = g clock on
  records_rise (suc n) packet bytes follows clock place g on =
      one (nat_lt place packet.content) (recorded_rises packet bytes (λ next end. from_record n packet bytes next end follows) clock place on (λ next end h. records_rise n packet bytes follows next end g h) (record_at packet bytes clock place) refl)
    where
      one : (b : Bool) → Rises (time_at clock) (recorded packet (λ next end. from_record n packet bytes next end follows) (record_at packet bytes clock place)).items
          → Rises (time_at clock) (if b then recorded packet (λ next end. from_record n packet bytes next end follows) (record_at packet bytes clock place) else follows clock).items
      one true h = h
      one false h = g clock on

  -- gaps have the clock of their packet
  gaps_rise : (packet : Opened C) (lost dropped : Option ℕ) (items : List (Item C)) → Rises (time_at packet.clock) items → Rises (time_at packet.clock) ((lost_before packet lost ++ discarded_before packet dropped) ++ items)
  gaps_rise packet None None items h = h
  gaps_rise packet (Some a) None items h = (not_before_itself (time_at packet.clock), h)
  gaps_rise packet None (Some b) items h = (not_before_itself (time_at packet.clock), h)
  gaps_rise packet (Some a) (Some b) items h = (not_before_itself (time_at packet.clock), (not_before_itself (time_at packet.clock), h))

  packet_rises : (packet : Opened C) (bytes : List ℕ) (follows : Option Moment → Run C) → Goes packet follows → OnLine packet.stream.line packet.clock → Rises (time_at packet.clock) (from_packet packet bytes follows).items
  packet_rises packet bytes follows g on =
      gaps_rise packet packet.lost packet.dropped _ (records_rise (packet.content - packet.first) packet bytes follows packet.clock packet.first g on)

  opened_rises : (trace : TraceForm C) (ending : Ending) (reached : Option Reached) (at : ℕ) (left : List ℕ) (follows : Opened C → Option Moment → Run C) → IsReached trace reached
      → ((packet : Opened C) → IsOpened trace reached packet → Goes packet (follows packet))
      → (r : Result (Opened C) StreamFault) → open_at trace ending reached at left ≡ r → Rises (time_at (clock_in reached)) (opened at left follows r).items
  opened_rises trace ending reached at left follows h g (Err f) e = tt
  opened_rises trace ending reached at left follows h g (Ok p) e =
      let o = open_reaches trace ending reached at left p h e in
      rises_under (time_at (clock_in reached)) (time_at p.clock) _ o.2.1 (packet_rises p (take (p.end - p.start) left) (follows p) (g p o) o.2.0)

  -- the items from a packet boundary on rise from the time that was reached
  pub cut_rises : (n : ℕ) (trace : TraceForm C) (ending : Ending) (reached : Option Reached) (at : ℕ) (left : List ℕ) → IsReached trace reached → Rises (time_at (clock_in reached)) (from_cut n trace ending reached at left).items
  cut_rises zero trace ending reached at left h = tt
  cut_rises (suc n) trace ending reached at [] h = tt
  cut_rises (suc n) trace ending reached at (byte ∷ bytes) h =
      one (nat_lt longest_stream at) (opened_rises trace ending reached at (byte ∷ bytes) next h (λ p o clock on. cut_rises n trace ending (Some (reached_after p clock)) p.end (drop (p.end - p.start) (byte ∷ bytes)) (reaches_after trace reached p clock o on)) (open_at trace ending reached at (byte ∷ bytes)) refl)
    where
      next : Opened C → Option Moment → Run C
      next p clock = from_cut n trace ending (Some (reached_after p clock)) p.end (drop (p.end - p.start) (byte ∷ bytes))

      one : (b : Bool) → Rises (time_at (clock_in reached)) (opened at (byte ∷ bytes) next (open_at trace ending reached at (byte ∷ bytes))).items
          → Rises (time_at (clock_in reached)) (if b then stops (Some faults.StreamTooLong) at else opened at (byte ∷ bytes) next (open_at trace ending reached at (byte ∷ bytes))).items
      one true g = tt
      one false g = g

  pub run_rises : (trace : TraceForm C) (ending : Ending) (bytes : List ℕ) → Rises None (run_of trace ending bytes).items
  unfolding run_of
  run_rises trace ending bytes = cut_rises (length bytes) trace ending None 0 bytes tt
