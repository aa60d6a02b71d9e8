-- The clocks of packets and of event records are not before those before them.
use Rattle.std.proofs.Common.{◌≡◌, ◌==◌, ℕ, ◌*◌, Bool, true, false, not, List, length, Option, Some, None, Result, Ok, Err, codes, sym, ap, subst, ◌∙◌}
use Rattle.std.specs.List.{last_or}
use Rattle.ctf_bits.specs.declared.source.Ending.{Ending}
use Rattle.ctf_class.specs.Items.{first_of_id}
use Rattle.ctf_class.specs.declared.route.Scope.TheVariants.{PacketHeader, PacketContext, EventHeader}
use Rattle.ctf_clock.specs.declared.moment.Moment.{Moment}
use Rattle.ctf_packet.specs.Classes.{StreamForm, TraceForm}
use Rattle.ctf_packet.specs.Scopes.{◌>>=◌, Values, no_values, put, input_of, scope_at, fault_in_front, fault_in_record}
use Rattle.ctf_packet.specs.Roles.{role, number_in}
use Rattle.ctf_packet.specs.Packets.{Opened, unless, or_fault, front, stream_checked, sizes_checked, clock_before, clock_after, moves, placed, open_at, reached_after}
use Rattle.ctf_packet.specs.Records.{Headed, headed, bodied, Recorded, record_at, event_named, ids_in}
use Rattle.ctf_packet.specs.declared.reached.Reached.{Reached}
use Rattle.ctf_packet.specs.declared.sizes.Sizes.{Sizes}
use Rattle.ctf_packet.specs.declared.fault.StreamFault.{StreamFault}
use Rattle.ctf_packet.specs.declared.fault.StreamFault.TheVariants as faults
use Rattle.ctf_packet.proofs.Going.{first}
use Rattle.ctf_packet.proofs.Opening as opening
use Rattle.stream_laws.specs.Times.{time_at}
use Rattle.stream_laws.proofs.Later.{not_before_through}
use Rattle.stream_laws.proofs.Line.{OnLine, Reaches, Stands, clock_in, after_reaches, before_reaches}
use Rattle.stream_laws.proofs.Named.{IsNamed, IsSame, checked}

module _ {C : Type 0} where
  -- a stream that has come somewhere: the stream class that it has, and a clock on its line
  abbrev pub IsReached : TraceForm C → Option Reached → Type 0
  IsReached trace None = Unit {0}
  IsReached trace (Some r) = (s : StreamForm C) × (first_of_id (λ (stream : StreamForm C). stream.id) r.stream trace.streams ≡ Some s) × OnLine s.line r.clock

  stands : (trace : TraceForm C) (reached : Option Reached) (s : StreamForm C) → IsReached trace reached → IsNamed trace.streams s → IsSame reached s → Stands s.line reached
  stands trace None s h n e = tt
  stands trace (Some r) s h n e =
      let g : Some h.0 ≡ Some s = sym h.1 ∙ (ap (λ i. first_of_id (λ (stream : StreamForm C). stream.id) i trace.streams) (sym e) ∙ n) in
      let i : h.0 ≡ s = cc in
      subst (λ (x : StreamForm C). OnLine x.line r.clock) i h.2

  -- a packet, and its clock after its context
  abbrev pub IsPlaced : StreamForm C → Option Reached → Opened C → Type 0
  IsPlaced stream reached p = (p.stream ≡ stream) × Reaches p.stream.line (clock_in reached) p.clock

  pub placed_reaches : (stream : StreamForm C) (reached : Option Reached) (start : ℕ) (values : Values) (place : ℕ) (sizes : Sizes) (p : Opened C) → Stands stream.line reached → placed stream reached start values place sizes ≡ Ok p → IsPlaced stream reached p
  unfolding placed
  placed_reaches stream reached start values place sizes p h e =
      let a = first (clock_before stream.line reached) _ p e in
      let b = first (clock_after stream.line a.0 (moves stream.packet_context values.packet_context)) _ p a.2 in
      let f = before_reaches stream.line reached a.0 h a.1 in
      let g = after_reaches stream.line a.0 b.0 (moves stream.packet_context values.packet_context) f.0 b.1 in
      let stream_of : Result (Opened C) StreamFault → StreamForm C = λ r. elim r as (λ _. StreamForm C) [ Ok x ↦ x.stream | Err _ ↦ stream ] in
      let clock_of : Result (Opened C) StreamFault → Option Moment = λ r. elim r as (λ _. Option Moment) [ Ok x ↦ x.clock | Err _ ↦ None ] in
      let s : stream ≡ p.stream = ap stream_of b.2 in
      let c : b.0 ≡ p.clock = ap clock_of b.2 in
      let all : Reaches stream.line (clock_in reached) b.0 = (g.0, not_before_through (time_at (clock_in reached)) (time_at a.0) (time_at b.0) f.1 g.1) in
      (sym s, subst (λ (x : StreamForm C). Reaches x.line (clock_in reached) p.clock) s (subst (Reaches stream.line (clock_in reached)) c all))

  -- an opened packet has a stream class of the trace, and a clock on its line that is not before the one reached
  abbrev pub IsOpened : TraceForm C → Option Reached → Opened C → Type 0
  IsOpened trace reached p = IsNamed trace.streams p.stream × IsSame reached p.stream × Reaches p.stream.line (clock_in reached) p.clock

  pub open_reaches : (trace : TraceForm C) (ending : Ending) (reached : Option Reached) (start : ℕ) (left : List ℕ) (p : Opened C) → IsReached trace reached → open_at trace ending reached start left ≡ Ok p → IsOpened trace reached p
  open_reaches trace ending reached start left p h e =
      let a = first (scope_at (fault_in_front ending) trace.packet_header (front left no_values) 0 0) (opening.after_header trace ending reached start left) p (sym (opening.opens trace ending reached start left) ∙ e) in
      let b = first (stream_checked trace reached (a.0).value) (opening.after_stream trace ending reached start left a.0) p a.2 in
      let known = put PacketHeader (a.0).value no_values in
      let d = first (scope_at (fault_in_front ending) (b.0).packet_context (front left known) (a.0).end (a.0).spent) (opening.after_context trace ending reached start left b.0 known) p b.2 in
      let values = put PacketContext (d.0).value known in
      let size = λ (name : List ℕ). number_in (role name (b.0).packet_context (d.0).value) in
      let s = first (sizes_checked (size (codes "packet_size")) (size (codes "content_size")) ending (8 * length left) (d.0).end) (placed b.0 reached start values (d.0).end) p d.2 in
      let c = checked trace reached (a.0).value b.0 b.1 in
      let g = placed_reaches b.0 reached start values (d.0).end s.0 p (stands trace reached b.0 h c.0 c.1) s.2 in
      (subst (IsNamed trace.streams) (sym g.0) c.0, subst (IsSame reached) (sym g.0) c.1, g.1)

  -- what is reached after such a packet, where its clock came to a moment on its line
  pub reaches_after : (trace : TraceForm C) (reached : Option Reached) (p : Opened C) (clock : Option Moment) → IsOpened trace reached p → OnLine p.stream.line clock → IsReached trace (Some (reached_after p clock))
  reaches_after trace reached p clock h on = (p.stream, h.0, on)

  head_reaches : (stream : StreamForm C) (bytes : List ℕ) (content : ℕ) (values : Values) (clock : Option Moment) (place : ℕ) (h : Headed C) → OnLine stream.line clock → headed stream bytes content values clock place ≡ Ok h → Reaches stream.line clock h.clock
  unfolding headed
  head_reaches stream bytes content values clock place h on e =
      let a = first (scope_at fault_in_record stream.event_header (input_of bytes content values) place 0) _ h e in
      let b = first (clock_after stream.line clock (moves stream.event_header (a.0).value)) _ h a.2 in
      let d = first (or_fault faults.UnknownEvent (event_named stream.events (last_or None (ids_in stream.event_header (a.0).value)))) _ h b.2 in
      let g : ◌≡◌ {A = Headed C} (record { event = d.0; clock = b.0; header = a.0 }) h = cc (d.2) in
      let i : b.0 ≡ h.clock = ap (λ (z : Headed C). z.clock) g in
      subst (Reaches stream.line clock) i (after_reaches stream.line clock b.0 (moves stream.event_header (a.0).value) on b.1)

  kept : (b : Bool) (x r : Recorded C) → (unless faults.EmptyEvent b >>= (λ _. Ok x)) ≡ Ok r → x.clock ≡ r.clock
  kept true x r h = let g : x ≡ r = cc in ap (λ (z : Recorded C). z.clock) g
  kept false x r h = cc

  -- the clock of an event record is not before the one that came so far
  pub record_reaches : (packet : Opened C) (bytes : List ℕ) (clock : Option Moment) (place : ℕ) (r : Recorded C) → OnLine packet.stream.line clock → record_at packet bytes clock place ≡ Ok r → Reaches packet.stream.line clock r.clock
  unfolding record_at
  record_reaches packet bytes clock place r on e =
      let a = first (headed packet.stream bytes packet.content packet.values clock place) _ r e in
      let head = a.0 in
      let v = put EventHeader head.header.value packet.values in
      let b = first (bodied packet.stream.event_context head.event.context head.event.fields bytes packet.content v head.header.end head.header.spent) _ r a.2 in
      let i = kept (not ((b.0).end == place)) (record { event = head.event; clock = head.clock; values = (b.0).values; end = (b.0).end }) r b.2 in
      subst (Reaches packet.stream.line clock) i (head_reaches packet.stream bytes packet.content packet.values clock place head on a.1)
