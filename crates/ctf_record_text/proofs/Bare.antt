-- Event records without a header.
use Rattle.std.proofs.Common.{◌≡◌, ℕ, List, [], Option, Some, None, Result, Ok, refl, ap, ◌∙◌}
use Rattle.std.specs.List.{last_or}
use Rattle.std.specs.Option.{option_and}
use Rattle.ctf_class.specs.Streams.{StreamClass}
use Rattle.ctf_clock.specs.Clock.{Line}
use Rattle.ctf_clock.specs.declared.moment.Moment.{Moment}
use Rattle.ctf_clock.specs.declared.moment.Shift.{Shift}
use Rattle.ctf_decode.specs.Forms.{Form}
use Rattle.ctf_decode.specs.Views.{form}
use Rattle.ctf_record_text.specs.Headers.{TellsHead}
use Rattle.ctf_record_text.specs.declared.header.ToldHead.{ToldHead}
use Rattle.ctf_packet.specs.Classes.{Classes, StreamForm, EventForm, stream_form, event_form}
use Rattle.ctf_packet.specs.Packets.{or_fault, moves, clock_after}
use Rattle.ctf_packet.specs.Records.{Headed, headed, event_named, ids_in}
use Rattle.ctf_packet.specs.Scopes.{◌>>=◌, Values, Stood, scope_at, input_of, fault_in_record}
use Rattle.ctf_packet.specs.declared.fault.StreamFault.{StreamFault}
use Rattle.ctf_packet.specs.declared.fault.StreamFault.TheVariants as faults
use Rattle.std.specs.Prelude.{option_map}

-- without integers that set it the clock stays
stays : (line : Option Line) (clock : Option Moment) → clock_after line clock [] ≡ Ok (option_and line clock)
stays (Some line) (Some clock) = refl
stays (Some line) None = refl
stays None clock = refl

module _ (stream : StreamForm Classes) (bytes : List ℕ) (content : ℕ) (values : Values) (place : ℕ) (clock : Option Moment) where
  abbrev named : Option Form → Stood → Option Moment → Result (Headed Classes) StreamFault
  named class header next = or_fault faults.UnknownEvent (event_named stream.events (last_or None (ids_in class header.value))) >>= (λ event. Ok (record { event = event; clock = next; header = header }))

  opens : headed stream bytes content values clock place ≡ (scope_at fault_in_record stream.event_header (input_of bytes content values) place 0 >>= (λ header. clock_after stream.line clock (moves stream.event_header header.value) >>= named stream.event_header header))
  unfolding headed
  opens = refl

  headed_bare : (event : EventForm Classes) → stream.event_header ≡ None → event_named stream.events None ≡ Some event
      → headed stream bytes content values clock place ≡ Ok (record { event = event; clock = option_and stream.line clock; header = record { value = None; end = place; spent = 0 } })
  headed_bare event no_class is =
      let s : Stood = record { value = None; end = place; spent = 0 } in
      opens ∙ (λ i. scope_at fault_in_record (no_class i) (input_of bytes content values) place 0 >>= (λ header. clock_after stream.line clock (moves (no_class i) header.value) >>= named (no_class i) header))
      ∙ ap (λ r. r >>= named None s) (stays stream.line clock)
      ∙ ap (λ o. or_fault faults.UnknownEvent o >>= (λ event. Ok (record { event = event; clock = option_and stream.line clock; header = s }))) is

pub tells_bare : (class : StreamClass) (shift : Shift) (bytes : List ℕ) (content place : ℕ) (clock : Option Moment) (told : ToldHead)
    → class.event_header ≡ None → event_named (stream_form shift class).events None ≡ Some (event_form class told.head.event.now) → told.head.clock ≡ option_and (stream_form shift class).line clock → told.head.end ≡ place → told.spent ≡ 0
    → TellsHead class (stream_form shift class) bytes content clock place told
tells_bare class shift bytes content place clock told no_class named clock_is end_is spent_is values = (
  record { event = event_form class told.head.event.now; clock = option_and (stream_form shift class).line clock; header = record { value = None; end = place; spent = 0 } },
  headed_bare (stream_form shift class) bytes content values place clock (event_form class told.head.event.now) (ap (option_map form) no_class) named,
  refl,
  clock_is,
  end_is,
  spent_is,
)
