-- Classes in which each integer has 1 to 64 bits.
use Rattle.std.specs.Prelude.{Option, Some, None}
use Rattle.std.specs.List.{All}
use Rattle.ctf_decode.specs.Forms.{Form}
use Rattle.ctf_packet.specs.Classes.{EventForm, StreamForm, TraceForm}
use Rattle.ctf_packet.specs.Held.{HasWidths}

-- a scope, which may have no class
abbrev pub IsSized : Option Form → Type 0
IsSized None = Unit {0}
IsSized (Some k) = HasWidths k

pub record EventSized {C : Type 0} (e : EventForm C) : Type 0 where
  pub context : IsSized e.context
  pub fields : HasWidths e.fields

pub record StreamSized {C : Type 0} (s : StreamForm C) : Type 0 where
  pub packet_context : IsSized s.packet_context
  pub event_header : IsSized s.event_header
  pub event_context : IsSized s.event_context
  pub events : All EventSized s.events

pub record TraceSized {C : Type 0} (t : TraceForm C) : Type 0 where
  pub packet_header : IsSized t.packet_header
  pub streams : All StreamSized t.streams
