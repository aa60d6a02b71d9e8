-- An event record, step by step.
use Rattle.std.proofs.Common.{◌≡◌, ℕ, List, Option, Some, None, Result, Ok, Err, ◌⊎◌, sym, ap, ◌∙◌, subst}
use Rattle.std.specs.List.{last_or}
use Rattle.ctf_class.specs.declared.route.Scope.TheVariants.{EventHeader}
use Rattle.ctf_class.specs.Streams.{StreamClass}
use Rattle.ctf_clock.specs.declared.moment.Moment.{Moment}
use Rattle.ctf_decode.specs.Known.{Known}
use Rattle.ctf_packet.specs.Classes.{Classes, StreamForm, EventForm}
use Rattle.ctf_packet.specs.Scopes.{◌>>=◌, Values, input_of, Stood, scope_at, fault_in_record}
use Rattle.ctf_packet.specs.Packets.{or_fault, moves, clock_after}
use Rattle.ctf_packet.specs.Records.{Headed, headed, event_named, ids_in}
use Rattle.ctf_packet.specs.Views.{values_of, PutsScope, PutsHead}
use Rattle.ctf_packet.specs.declared.record.Head.{Head}
use Rattle.ctf_packet.specs.declared.fault.StreamFault.{StreamFault}
use Rattle.ctf_packet.specs.declared.fault.StreamFault.TheVariants as faults

module _ {C : Type 0} (stream : StreamForm C) (bytes : List ℕ) (content : ℕ) (clock : Option Moment) (place : ℕ) where
  abbrev after_clock : Stood → Option Moment → Result (Headed C) StreamFault
  after_clock header next =
      or_fault faults.UnknownEvent (event_named stream.events (last_or None (ids_in stream.event_header header.value))) >>= (λ event. Ok (record { event = event; clock = next; header = header }))

  abbrev after_header : Stood → Result (Headed C) StreamFault
  after_header header = clock_after stream.line clock (moves stream.event_header header.value) >>= after_clock header

  -- the header, as the code puts it where no value was begun
  abbrev pub Header : Known → Result ℕ StreamFault → Known → Type 0
  Header known end after = PutsScope EventHeader (values_of known) (scope_at fault_in_record stream.event_header (input_of bytes content (values_of known)) place known.spent) end after

  opens : (known : Known) → known.spent ≡ 0
      → headed stream bytes content (values_of known) clock place ≡ (scope_at fault_in_record stream.event_header (input_of bytes content (values_of known)) place known.spent >>= after_header)
  unfolding headed
  opens known z = λ i. scope_at fault_in_record stream.event_header (input_of bytes content (values_of known)) place (sym z i) >>= after_header

  value_is : (known after : Known) (end : ℕ) (h : Header known (Ok end) after) → (h.0).value ≡ (values_of after).event_header
  value_is known after end h = sym (ap (λ (v : Values). v.event_header) h.4)

  to_clock : (known after : Known) (end : ℕ) (z : known.spent ≡ 0) (h : Header known (Ok end) after) (r : Result (Option Moment) StreamFault) → clock_after stream.line clock (moves stream.event_header (values_of after).event_header) ≡ r
      → headed stream bytes content (values_of known) clock place ≡ (r >>= after_clock h.0)
  to_clock known after end z h r e =
      opens known z
      ∙ (ap (λ x. x >>= after_header) h.1
      ∙ ap (λ x. x >>= after_clock h.0) (ap (λ v. clock_after stream.line clock (moves stream.event_header v)) (value_is known after end h) ∙ e))

  pub no_clock : (known after : Known) (end : ℕ) (z : known.spent ≡ 0) (h : Header known (Ok end) after) (f : StreamFault) → clock_after stream.line clock (moves stream.event_header (values_of after).event_header) ≡ Err f
      → headed stream bytes content (values_of known) clock place ≡ Err f
  no_clock known after end z h f e = to_clock known after end z h (Err f) e

  to_event : (known after : Known) (end : ℕ) (z : known.spent ≡ 0) (h : Header known (Ok end) after) (next : Option Moment) (o : Option (EventForm C)) → clock_after stream.line clock (moves stream.event_header (values_of after).event_header) ≡ Ok next
      → event_named stream.events (last_or None (ids_in stream.event_header (values_of after).event_header)) ≡ o
      → headed stream bytes content (values_of known) clock place ≡ (or_fault faults.UnknownEvent o >>= (λ event. Ok (record { event = event; clock = next; header = h.0 })))
  to_event known after end z h next o e g =
      to_clock known after end z h (Ok next) e
      ∙ ap (λ x. or_fault faults.UnknownEvent x >>= (λ event. Ok (record { event = event; clock = next; header = h.0 })))
      (ap (λ v. event_named stream.events (last_or None (ids_in stream.event_header v))) (value_is known after end h) ∙ g)

  pub no_event : (known after : Known) (end : ℕ) (z : known.spent ≡ 0) (h : Header known (Ok end) after) (next : Option Moment) → clock_after stream.line clock (moves stream.event_header (values_of after).event_header) ≡ Ok next
      → event_named stream.events (last_or None (ids_in stream.event_header (values_of after).event_header)) ≡ None
      → headed stream bytes content (values_of known) clock place ≡ Err faults.UnknownEvent
  no_event known after end z h next e g = to_event known after end z h next None e g

  pub one_event : (known after : Known) (end : ℕ) (z : known.spent ≡ 0) (h : Header known (Ok end) after) (next : Option Moment) (event : EventForm C) → clock_after stream.line clock (moves stream.event_header (values_of after).event_header) ≡ Ok next
      → event_named stream.events (last_or None (ids_in stream.event_header (values_of after).event_header)) ≡ Some event
      → headed stream bytes content (values_of known) clock place ≡ Ok (record { event = event; clock = next; header = h.0 })
  one_event known after end z h next event e g = to_event known after end z h next (Some event) e g

pub head_refused : (s : StreamClass) (x : Result Head StreamFault) (f : StreamFault) (before : Values) (r : Result (Headed Classes) StreamFault) (after : Known) → x ≡ Err f → (r ≡ Err f) ⊎ (f ≡ faults.NoMemory) → PutsHead s before r x after
head_refused s x f before r after e h = subst (λ (y : Result Head StreamFault). PutsHead s before r y after) (sym e) h
