-- What the classes of a trace say, as data that can be computed with.
use Rattle.std.specs.Prelude.{ℕ, List, map, Option, option_map}
use Rattle.ctf_class.specs.declared.trace.EventClass.{EventClass}
use Rattle.ctf_class.specs.Streams.{StreamClass}
use Rattle.ctf_class.specs.declared.trace.TraceClass.{TraceClass}
use Rattle.ctf_clock.specs.declared.moment.Shift.{Shift}
use Rattle.ctf_clock.specs.Clock.{Line, line_of}
use Rattle.ctf_decode.specs.Forms.{Form}
use Rattle.ctf_decode.specs.Views.{form}

-- An event class (CTF 1.8.3, sections 6 and 7.4): its number and the classes of its scopes. `class` is what an item
-- names it by.
pub record EventForm (C : Type 0) : Type 0 where
  pub class : C
  pub id : ℕ
  pub context : Option Form
  pub fields : Form

-- a stream class (CTF 1.8.3, sections 3 and 7.4)
pub record StreamForm (C : Type 0) : Type 0 where
  pub id : ℕ
  pub packet_context : Option Form
  pub event_header : Option Form
  pub event_context : Option Form
  -- the times of its clock
  pub line : Option Line
  pub events : List (EventForm C)

-- a trace class (CTF 1.8.3, sections 2 and 7.4)
pub record TraceForm (C : Type 0) : Type 0 where
  pub uuid : Option (List ℕ)
  pub packet_header : Option Form
  pub streams : List (StreamForm C)

-- an event class in its stream class
pub record Classes : Type 0 where
  pub stream : StreamClass
  pub event : EventClass

abbrev pub event_form : StreamClass → EventClass → EventForm Classes
event_form stream event =
    record {
      class = record { stream = stream; event = event };
      id = event.id;
      context = option_map form event.context;
      fields = form event.fields;
    }

abbrev pub stream_form : Shift → StreamClass → StreamForm Classes
stream_form shift stream =
    record {
      id = stream.id;
      packet_context = option_map form stream.packet_context;
      event_header = option_map form stream.event_header;
      event_context = option_map form stream.event_context;
      line = option_map (λ clock. line_of clock shift) stream.clock;
      events = map (event_form stream) stream.events;
    }

-- the classes of the code, with each time shifted
abbrev pub trace_form : Shift → TraceClass → TraceForm Classes
trace_form shift trace =
    record {
      uuid = trace.uuid;
      packet_header = option_map form trace.packet_header;
      streams = map (stream_form shift) trace.streams;
    }
