-- What is looked for in the scopes that the reader of a stream hands in.
use Rattle.std.specs.Prelude.{◌≡◌, ℕ, List, Option, Some, Ok}
use Rattle.ctf_bits.specs.declared.source.Ending.{Ending}
use Rattle.ctf_class.specs.declared.route.Scope.TheVariants.{EventHeader, StreamEventContext, EventContext}
use Rattle.ctf_clock.specs.declared.moment.Moment.{Moment}
use Rattle.ctf_decode.specs.Forms.{Form}
use Rattle.ctf_packet.specs.Classes.{StreamForm, TraceForm}
use Rattle.ctf_packet.specs.Scopes.{Values, no_values, input_of, put, Stood, scope_at, fault_in_front, fault_in_record}
use Rattle.ctf_packet.specs.Packets.{Opened, front, stream_checked, open_at}
use Rattle.ctf_packet.specs.Records.{Headed, headed}
use Rattle.ctf_packet.specs.declared.reached.Reached.{Reached}
use Rattle.class_laws.specs.Finding.{FindsIn}

-- In the scopes of an event record after its header, each decoded with the values of those before it.
pub record FindsInBody (shared_class own_class fields_class : Option Form) (bytes : List ℕ)
    (content : ℕ) (values : Values) : Type 0 where
  pub stream_event_context : FindsIn shared_class (input_of bytes content values)
  pub event_context : (place spent : ℕ) (shared : Stood)
      → scope_at fault_in_record shared_class (input_of bytes content values) place spent
      ≡ Ok shared
      → FindsIn own_class (input_of bytes content (put StreamEventContext shared.value values))
  pub event_fields : (place spent next more : ℕ) (shared own : Stood)
      → scope_at fault_in_record shared_class (input_of bytes content values) place spent
      ≡ Ok shared
      → let with_shared = put StreamEventContext shared.value values in
      scope_at fault_in_record own_class (input_of bytes content with_shared) next more ≡ Ok own
      → FindsIn fields_class (input_of bytes content (put EventContext own.value with_shared))

-- In each scope of each packet and event record of a trace, decoded with the values that the reader hands in.
pub record FindsInTrace {C : Type 0} (trace : TraceForm C) : Type 0 where
  pub packet_header : (left : List ℕ) → FindsIn trace.packet_header (front left no_values)
  pub packet_context : (ending : Ending) (reached : Option Reached) (left : List ℕ) (header : Stood)
      (stream : StreamForm C)
      → scope_at (fault_in_front ending) trace.packet_header (front left no_values) 0 0 ≡ Ok header
      → stream_checked trace reached header.value ≡ Ok stream
      → FindsIn stream.packet_context
      (front left (record no_values { packet_header = header.value }))
  pub event_header : (ending : Ending) (reached : Option Reached) (start : ℕ) (left bytes : List ℕ)
      (packet : Opened C)
      → open_at trace ending reached start left ≡ Ok packet
      → FindsIn packet.stream.event_header (input_of bytes packet.content packet.values)
  pub event_body : (ending : Ending) (reached : Option Reached) (start : ℕ) (left bytes : List ℕ)
      (packet : Opened C) (clock : Option Moment) (place : ℕ) (head : Headed C)
      → open_at trace ending reached start left ≡ Ok packet
      → headed packet.stream bytes packet.content packet.values clock place ≡ Ok head
      → FindsInBody packet.stream.event_context head.event.context (Some head.event.fields) bytes
      packet.content (put EventHeader head.header.value packet.values)
