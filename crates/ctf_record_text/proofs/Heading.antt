-- The header of an event record, from what was decoded of it.
use Rattle.std.proofs.Common.{◌≡◌, ℕ, List, [], Option, Some, None, Result, Ok, option_map, pos, refl, ap, ◌∙◌}
use Rattle.std.specs.List.{last_or}
use Rattle.ctf_class.specs.declared.class.Class.{Class}
use Rattle.ctf_class.specs.Streams.{StreamClass}
use Rattle.ctf_clock.specs.Clock.{Line, advanced_by}
use Rattle.ctf_clock.specs.declared.moment.Moment.{Moment}
use Rattle.ctf_clock.specs.declared.moment.Shift.{Shift}
use Rattle.ctf_decode.specs.Fields.{ids}
use Rattle.ctf_decode.specs.Forms.{Form}
use Rattle.ctf_decode.specs.Values.{Val}
use Rattle.ctf_decode.specs.Views.{form}
use Rattle.ctf_decode.specs.Walk.{walk}
use Rattle.ctf_record_text.specs.Headers.{Tells, TellsHead}
use Rattle.ctf_record_text.specs.declared.planned_header.HeaderRead.{HeaderRead}
use Rattle.ctf_record_text.specs.declared.header.ToldHead.{ToldHead}
use Rattle.ctf_packet.specs.Classes.{Classes, StreamForm, EventForm, stream_form, event_form}
use Rattle.ctf_packet.specs.Moved.{moved}
use Rattle.ctf_packet.specs.Packets.{or_fault, moves, clock_after}
use Rattle.ctf_packet.specs.Records.{Headed, headed, event_named, ids_in}
use Rattle.ctf_packet.specs.Scopes.{◌>>=◌, Values, Stood, stood, scope_at, input_of, value_in, fault_in_record}
use Rattle.ctf_packet.specs.declared.fault.StreamFault.{StreamFault}
use Rattle.ctf_packet.specs.declared.fault.StreamFault.TheVariants as faults

module _ (stream : StreamForm Classes) (bytes : List ℕ) (content : ℕ) (values : Values) (place : ℕ) where
  abbrev after_clock : Option Form → Stood → Option Moment → Result (Headed Classes) StreamFault
  after_clock class header next = or_fault faults.UnknownEvent (event_named stream.events (last_or None (ids_in class header.value))) >>= (λ event. Ok (record { event = event; clock = next; header = header }))

  abbrev after_header : Option Form → Option Line → Moment → Stood → Result (Headed Classes) StreamFault
  after_header class line clock header = clock_after line (Some clock) (moves class header.value) >>= after_clock class header

  opens : (clock : Moment) → headed stream bytes content values (Some clock) place ≡ (scope_at fault_in_record stream.event_header (input_of bytes content values) place 0 >>= after_header stream.event_header stream.line clock)
  unfolding headed
  opens clock = refl

  headed_is : (k : Form) (line : Line) (clock next : Moment) (v : Val) (end spent : ℕ) (event : EventForm Classes) → stream.event_header ≡ Some k → stream.line ≡ Some line → walk k (input_of bytes content values) [] place 0 ≡ Ok (v, end, spent)
      → advanced_by line clock (moved k v) ≡ Some next → event_named stream.events (last_or None (ids k v)) ≡ Some event
      → headed stream bytes content values (Some clock) place ≡ Ok (record { event = event; clock = Some next; header = record { value = Some v; end = end; spent = spent } })
  headed_is k line clock next v end spent event has_class has_line stands moves_on named =
      let s : Stood = record { value = Some v; end = end; spent = spent } in
      opens clock ∙ (λ i. scope_at fault_in_record (has_class i) (input_of bytes content values) place 0 >>= after_header (has_class i) (has_line i) clock)
      ∙ ap (λ r. stood fault_in_record r >>= after_header (Some k) (Some line) clock) stands
      ∙ ap (λ o. (or_fault faults.ClockRefused o >>= (λ n. Ok (Some n))) >>= after_clock (Some k) s) moves_on
      ∙ ap (λ o. or_fault faults.UnknownEvent o >>= (λ event. Ok (record { event = event; clock = Some next; header = s }))) named

  -- the same without a clock
  untimed_opens : (clock : Option Moment) → headed stream bytes content values clock place ≡ (scope_at fault_in_record stream.event_header (input_of bytes content values) place 0 >>= (λ header. clock_after stream.line clock (moves stream.event_header header.value) >>= after_clock stream.event_header header))
  unfolding headed
  untimed_opens clock = refl

  untimed_is : (k : Form) (clock : Option Moment) (v : Val) (end spent : ℕ) (event : EventForm Classes) → stream.event_header ≡ Some k → stream.line ≡ None → walk k (input_of bytes content values) [] place 0 ≡ Ok (v, end, spent) → event_named stream.events (last_or None (ids k v)) ≡ Some event
      → headed stream bytes content values clock place ≡ Ok (record { event = event; clock = None; header = record { value = Some v; end = end; spent = spent } })
  untimed_is k clock v end spent event has_class no_line stands named =
      let s : Stood = record { value = Some v; end = end; spent = spent } in
      untimed_opens clock ∙ (λ i. scope_at fault_in_record (has_class i) (input_of bytes content values) place 0 >>= (λ header. clock_after (no_line i) clock (moves (has_class i) header.value) >>= after_clock (has_class i) header))
      ∙ ap (λ r. stood fault_in_record r >>= (λ header. Ok None >>= after_clock (Some k) header)) stands
      ∙ ap (λ o. or_fault faults.UnknownEvent o >>= (λ event. Ok (record { event = event; clock = None; header = s }))) named

pub tells_head : (class : StreamClass) (shift : Shift) (k : Class) (line : Line) (clock : Moment) (bytes : List ℕ) (content place : ℕ) (to : HeaderRead) (told : ToldHead)
    → class.event_header ≡ Some k → (stream_form shift class).line ≡ Some line → Tells (Some line) (form k) bytes content clock place to
    → event_named (stream_form shift class).events (option_map pos to.id) ≡ Some (event_form class told.head.event.now) → told.head.clock ≡ Some to.clock → told.head.end ≡ to.place → told.spent ≡ to.values
    → TellsHead class (stream_form shift class) bytes content (Some clock) place told
tells_head class shift k line clock bytes content place to told has_class has_line tells named clock_is end_is spent_is values =
    let t = tells (value_in values) [] in
    let id = ap (event_named (stream_form shift class).events) t.3 ∙ named in
    let header : Stood = record { value = Some t.0; end = to.place; spent = to.values } in (
      record { event = event_form class told.head.event.now; clock = Some to.clock; header = header },
      headed_is (stream_form shift class) bytes content values place (form k) line clock to.clock t.0 to.place to.values (event_form class told.head.event.now) (ap (option_map form) has_class) has_line t.1 t.2 id,
      refl,
      clock_is,
      end_is,
      spent_is,
    )

pub tells_untimed : (class : StreamClass) (shift : Shift) (k : Class) (clock : Option Moment) (start : Moment) (bytes : List ℕ) (content place : ℕ) (to : HeaderRead) (told : ToldHead)
    → class.event_header ≡ Some k → (stream_form shift class).line ≡ None → Tells None (form k) bytes content start place to
    → event_named (stream_form shift class).events (option_map pos to.id) ≡ Some (event_form class told.head.event.now) → told.head.clock ≡ None → told.head.end ≡ to.place → told.spent ≡ to.values
    → TellsHead class (stream_form shift class) bytes content clock place told
tells_untimed class shift k clock start bytes content place to told has_class no_line tells named clock_is end_is spent_is values =
    let t = tells (value_in values) [] in
    let id = ap (event_named (stream_form shift class).events) t.3 ∙ named in
    let header : Stood = record { value = Some t.0; end = to.place; spent = to.values } in (
      record { event = event_form class told.head.event.now; clock = None; header = header },
      untimed_is (stream_form shift class) bytes content values place (form k) clock t.0 to.place to.values (event_form class told.head.event.now) (ap (option_map form) has_class) no_line t.1 id,
      refl,
      clock_is,
      end_is,
      spent_is,
    )
