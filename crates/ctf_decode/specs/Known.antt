-- The values of the scopes that were decoded, and how many values were begun for them.
use Rattle.std.specs.Prelude.{ℕ, Option, Some, None}
use Rattle.ctf_class.specs.declared.route.Scope.{Scope}
use Rattle.ctf_class.specs.declared.route.Scope.TheVariants.{PacketHeader, PacketContext, EventHeader, StreamEventContext, EventContext, EventFields}
use Rattle.ctf_decode.specs.declared.value.Value.{Value}

pub record Known : Type 0 where
  pub packet_header : Option Value
  pub packet_context : Option Value
  pub event_header : Option Value
  pub stream_event_context : Option Value
  pub event_context : Option Value
  pub event_fields : Option Value
  pub spent : ℕ

abbrev pub nothing_known : Known
nothing_known =
    record {
      packet_header = None;
      packet_context = None;
      event_header = None;
      stream_event_context = None;
      event_context = None;
      event_fields = None;
      spent = 0;
    }

abbrev pub value_at : Known → Scope → Option Value
value_at known PacketHeader = known.packet_header
value_at known PacketContext = known.packet_context
value_at known EventHeader = known.event_header
value_at known StreamEventContext = known.stream_event_context
value_at known EventContext = known.event_context
value_at known EventFields = known.event_fields

abbrev pub with_value : Known → Scope → Value → Known
with_value known PacketHeader value = record known { packet_header = Some value }
with_value known PacketContext value = record known { packet_context = Some value }
with_value known EventHeader value = record known { event_header = Some value }
with_value known StreamEventContext value = record known { stream_event_context = Some value }
with_value known EventContext value = record known { event_context = Some value }
with_value known EventFields value = record known { event_fields = Some value }

abbrev pub without_value : Known → Scope → Known
without_value known PacketHeader = record known { packet_header = None }
without_value known PacketContext = record known { packet_context = None }
without_value known EventHeader = record known { event_header = None }
without_value known StreamEventContext = record known { stream_event_context = None }
without_value known EventContext = record known { event_context = None }
without_value known EventFields = record known { event_fields = None }

abbrev pub with_spent : Known → ℕ → Known
with_spent known spent = record known { spent = spent }

-- the values of the packet alone, and none begun
abbrev pub without_record : Known → Known
without_record known =
    record known {
      event_header = None;
      stream_event_context = None;
      event_context = None;
      event_fields = None;
      spent = 0;
    }
