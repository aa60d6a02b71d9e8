-- Of a stream's items either each has a time or none has.
use Rattle.std.proofs.Common.{◌≡◌, ℕ, zero, suc, ◌-◌, Bool, true, false, List, [], ◌∷◌, ◌++◌, length, take, drop, Option, Some, None, Result, Ok, Err, nat_lt, if◌then◌else◌, refl, sym, ap, subst, ◌∙◌}
use Rattle.std.specs.Option.{is_some}
use Rattle.ctf_bits.specs.declared.source.Ending.{Ending}
use Rattle.ctf_class.specs.Items.{first_of_id}
use Rattle.ctf_clock.specs.declared.moment.Moment.{Moment}
use Rattle.ctf_packet.specs.Classes.{StreamForm, TraceForm}
use Rattle.ctf_packet.specs.Packets.{Opened, open_at, reached_after}
use Rattle.ctf_packet.specs.Records.{Recorded, record_at}
use Rattle.ctf_packet.specs.Items.{Item, Run, stops, lost_before, discarded_before, recorded, from_record, from_packet, longest_stream, opened, from_cut, run_of}
use Rattle.ctf_packet.specs.declared.reached.Reached.{Reached}
use Rattle.ctf_packet.specs.declared.fault.StreamFault.{StreamFault}
use Rattle.ctf_packet.specs.declared.fault.StreamFault.TheVariants as faults
use Rattle.stream_laws.specs.Times.{AreTimed}
use Rattle.stream_laws.proofs.Line.{OnLine, timed}
use Rattle.stream_laws.proofs.Reaching.{IsReached, IsOpened, open_reaches, reaches_after, record_reaches}

module _ {C : Type 0} where
  -- whether the stream class of a packet has a clock
  abbrev pub has_clock : Opened C → Bool
  has_clock packet = is_some packet.stream.line

  abbrev Goes : Opened C → (Option Moment → Run C) → Type 0
  Goes packet follows = (clock : Option Moment) → OnLine packet.stream.line clock → AreTimed (has_clock packet) (follows clock).items

  recorded_timed : (packet : Opened C) (bytes : List ℕ) (goes : Option Moment → ℕ → Run C) (clock : Option Moment) (place : ℕ) → OnLine packet.stream.line clock
      → ((next : Option Moment) (end : ℕ) → OnLine packet.stream.line next → AreTimed (has_clock packet) (goes next end).items)
      → (r : Result (Recorded C) StreamFault) → record_at packet bytes clock place ≡ r → AreTimed (has_clock packet) (recorded packet goes r).items
  recorded_timed packet bytes goes clock place on g (Err f) e = tt
  recorded_timed packet bytes goes clock place on g (Ok r) e =
      let h = record_reaches packet bytes clock place r on e in
      (timed packet.stream.line r.clock h.0, g r.clock r.end h.0)

  pub records_timed : (n : ℕ) (packet : Opened C) (bytes : List ℕ) (follows : Option Moment → Run C) (clock : Option Moment) (place : ℕ) → Goes packet follows → OnLine packet.stream.line clock
      → AreTimed (has_clock packet) (from_record n packet bytes clock place follows).items
  records_timed zero packet bytes follows clock place g on = g clock on
  records_timed (suc n) packet bytes follows clock place g on =
      one (nat_lt place packet.content) (recorded_timed packet bytes (λ next end. from_record n packet bytes next end follows) clock place on (λ next end h. records_timed n packet bytes follows next end g h) (record_at packet bytes clock place) refl)
    where
      one : (b : Bool) → AreTimed (has_clock packet) (recorded packet (λ next end. from_record n packet bytes next end follows) (record_at packet bytes clock place)).items
          → AreTimed (has_clock packet) (if b then recorded packet (λ next end. from_record n packet bytes next end follows) (record_at packet bytes clock place) else follows clock).items
      one true h = h
      one false h = g clock on

  gaps_timed : (packet : Opened C) (lost dropped : Option ℕ) (items : List (Item C)) → OnLine packet.stream.line packet.clock → AreTimed (has_clock packet) items
      → AreTimed (has_clock packet) ((lost_before packet lost ++ discarded_before packet dropped) ++ items)
  gaps_timed packet None None items on h = h
  gaps_timed packet (Some a) None items on h = (timed packet.stream.line packet.clock on, h)
  gaps_timed packet None (Some b) items on h = (timed packet.stream.line packet.clock on, h)
  gaps_timed packet (Some a) (Some b) items on h = (timed packet.stream.line packet.clock on, (timed packet.stream.line packet.clock on, h))

  packet_timed : (packet : Opened C) (bytes : List ℕ) (follows : Option Moment → Run C) → Goes packet follows → OnLine packet.stream.line packet.clock → AreTimed (has_clock packet) (from_packet packet bytes follows).items
  packet_timed packet bytes follows g on =
      gaps_timed packet packet.lost packet.dropped _ on (records_timed (packet.content - packet.first) packet bytes follows packet.clock packet.first g on)

  -- a stream that has come somewhere has its clock, or has none, from then on
  abbrev pub IsOne : TraceForm C → Bool → Option Reached → Type 0
  IsOne trace b None = ⊥
  IsOne trace b (Some r) = (s : StreamForm C) × (first_of_id (λ (stream : StreamForm C). stream.id) r.stream trace.streams ≡ Some s) × (is_some s.line ≡ b)

  stays : (trace : TraceForm C) (b : Bool) (reached : Option Reached) (p : Opened C) → IsOne trace b reached → IsOpened trace reached p → has_clock p ≡ b
  stays trace b None p h o = absurd h
  stays trace b (Some r) p h o =
      let g : Some h.0 ≡ Some p.stream = sym h.1 ∙ (ap (λ i. first_of_id (λ (stream : StreamForm C). stream.id) i trace.streams) (sym o.1) ∙ o.0) in
      let i : h.0 ≡ p.stream = cc in
      ap (λ (s : StreamForm C). is_some s.line) (sym i) ∙ h.2

  module _ (trace : TraceForm C) (ending : Ending) where
    -- where each packet that can come has its clock, or has none
    opened_timed : (b : Bool) (reached : Option Reached) (at : ℕ) (left : List ℕ) (follows : Opened C → Option Moment → Run C) → IsReached trace reached
        → ((packet : Opened C) → IsOpened trace reached packet → Goes packet (follows packet)) → IsOne trace b reached
        → (r : Result (Opened C) StreamFault) → open_at trace ending reached at left ≡ r → AreTimed b (opened at left follows r).items
    opened_timed b reached at left follows h g one (Err f) e = tt
    opened_timed b reached at left follows h g one (Ok p) e =
        let o = open_reaches trace ending reached at left p h e in
        subst (λ c. AreTimed c (from_packet p (take (p.end - p.start) left) (follows p)).items) (stays trace b reached p one o) (packet_timed p (take (p.end - p.start) left) (follows p) (g p o) o.2.0)

    next : ℕ → List ℕ → Opened C → Option Moment → Run C
    next n left p clock = from_cut n trace ending (Some (reached_after p clock)) p.end (drop (p.end - p.start) left)

    tested : (b c : Bool) (at : ℕ) (run : Run C) → AreTimed b run.items → AreTimed b (if c then stops (Some faults.StreamTooLong) at else run).items
    tested b true at run h = tt
    tested b false at run h = h

    pub cut_timed : (n : ℕ) (b : Bool) (reached : Option Reached) (at : ℕ) (left : List ℕ) → IsReached trace reached → IsOne trace b reached → AreTimed b (from_cut n trace ending reached at left).items
    cut_timed zero b reached at left h one = tt
    cut_timed (suc n) b reached at [] h one = tt
    cut_timed (suc n) b reached at (byte ∷ bytes) h one =
        tested b (nat_lt longest_stream at) at _
        (opened_timed b reached at (byte ∷ bytes) (λ p clock. from_cut n trace ending (Some (reached_after p clock)) p.end (drop (p.end - p.start) (byte ∷ bytes))) h
        (λ p o clock on. cut_timed n (has_clock p) (Some (reached_after p clock)) p.end (drop (p.end - p.start) (byte ∷ bytes)) (reaches_after trace reached p clock o on) (p.stream, o.0, refl)) one
        (open_at trace ending reached at (byte ∷ bytes)) refl)

    -- the first packet says whether there is a clock
    first_timed : (at : ℕ) (left : List ℕ) (follows : Opened C → Option Moment → Run C)
        → ((packet : Opened C) → IsOpened trace None packet → Goes packet (follows packet))
        → (r : Result (Opened C) StreamFault) → open_at trace ending None at left ≡ r → (b : Bool) × AreTimed b (opened at left follows r).items
    first_timed at left follows g (Err f) e = (true, tt)
    first_timed at left follows g (Ok p) e =
        let o = open_reaches trace ending None at left p tt e in
        (has_clock p, packet_timed p (take (p.end - p.start) left) (follows p) (g p o) o.2.0)

    pub all_timed : (n at : ℕ) (left : List ℕ) → (b : Bool) × AreTimed b (from_cut n trace ending None at left).items
    all_timed zero at left = (true, tt)
    all_timed (suc n) at [] = (true, tt)
    all_timed (suc n) at (byte ∷ bytes) =
        let h = first_timed at (byte ∷ bytes) (λ p clock. from_cut n trace ending (Some (reached_after p clock)) p.end (drop (p.end - p.start) (byte ∷ bytes)))
        (λ p o clock on. cut_timed n (has_clock p) (Some (reached_after p clock)) p.end (drop (p.end - p.start) (byte ∷ bytes)) (reaches_after trace None p clock o on) (p.stream, o.0, refl))
        (open_at trace ending None at (byte ∷ bytes)) refl in
        (h.0, tested h.0 (nat_lt longest_stream at) at _ h.1)

    pub run_timed : (bytes : List ℕ) → (b : Bool) × AreTimed b (run_of trace ending bytes).items
    unfolding run_of
    run_timed bytes = all_timed (length bytes) 0 bytes
