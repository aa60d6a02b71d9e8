-- The values of the scopes of a packet and of an event record.
use Rattle.std.specs.Prelude.{ℕ, ◌^◌, List, [], nat_lt, if◌then◌else◌, Option, Some, None, Result, Ok, Err}
use Rattle.ctf_class.specs.declared.route.Scope.{Scope}
use Rattle.ctf_class.specs.declared.route.Scope.TheVariants.{PacketHeader, PacketContext, EventHeader, StreamEventContext, EventContext, EventFields}
use Rattle.ctf_bits.specs.declared.source.Ending.{Ending}
use Rattle.ctf_bits.specs.declared.source.Ending.TheVariants.{Clean, Failed}
use Rattle.ctf_decode.specs.Values.{Val}
use Rattle.ctf_decode.specs.Forms.{Form}
use Rattle.ctf_decode.specs.Input.{Input}
use Rattle.ctf_decode.specs.Breaks.{Fault, too_many, past, no_option}
use Rattle.ctf_decode.specs.Walk.{Step, walk}
use Rattle.ctf_decode.specs.declared.scopes.TheConstants.{MOST_VALUES}
use Rattle.ctf_packet.specs.declared.fault.StreamFault.{StreamFault}
use Rattle.ctf_packet.specs.declared.fault.StreamFault.TheVariants as faults

-- one thing, and what follows from it; or the fault
infixl 10 ◌>>=◌
abbrev pub ◌>>=◌ : {A B : Type 0} → Result A StreamFault → (A → Result B StreamFault)
    → Result B StreamFault
Ok x >>= f = f x
Err e >>= f = Err e

-- the values that were decoded (CTF 1.8.3, section 7.3.2)
pub record Values : Type 0 where
  pub packet_header : Option Val
  pub packet_context : Option Val
  pub event_header : Option Val
  pub stream_event_context : Option Val
  pub event_context : Option Val
  pub event_fields : Option Val

abbrev pub no_values : Values
no_values =
    record {
      packet_header = None;
      packet_context = None;
      event_header = None;
      stream_event_context = None;
      event_context = None;
      event_fields = None;
    }

abbrev pub value_in : Values → Scope → Option Val
value_in values PacketHeader = values.packet_header
value_in values PacketContext = values.packet_context
value_in values EventHeader = values.event_header
value_in values StreamEventContext = values.stream_event_context
value_in values EventContext = values.event_context
value_in values EventFields = values.event_fields

-- what a scope is decoded from: bytes, the bit at which their content ends, and the scopes before
abbrev pub input_of : List ℕ → ℕ → Values → Input
input_of bytes content values = record {
  packet = bytes;
  content = content;
  earlier = value_in values;
  limit = MOST_VALUES;
}

-- the value of a scope, the bit at which it ends, and how many values were begun so far
pub record Stood : Type 0 where
  pub value : Option Val
  pub end : ℕ
  pub spent : ℕ

abbrev pub stood : (Fault → StreamFault) → Step Val → Result Stood StreamFault
stood told (Ok x) = Ok (record { value = Some x.0; end = x.1; spent = x.2 })
stood told (Err f) = Err (told f)

-- the value of a scope that is at a place, after so many values; a scope without a class is empty
abbrev pub scope_at : (Fault → StreamFault) → Option Form → Input → ℕ → ℕ → Result Stood StreamFault
scope_at told None input place spent = Ok (record { value = None; end = place; spent = spent })
scope_at told (Some k) input place spent = stood told (walk k input [] place spent)

-- the longest packet, in bits (own)
abbrev pub longest : ℕ
longest = 2 ^ 31

-- a stream that ends inside a packet
abbrev pub cut_short : Ending → StreamFault
cut_short Clean = faults.CutShort
cut_short Failed = faults.ReadFailed

-- what is wrong with a header or a context: it would need a packet that is too long, or more bytes than there are
-- (own)
abbrev pub fault_in_front : Ending → Fault → StreamFault
fault_in_front ending too_many = faults.TooManyValues
fault_in_front ending no_option = faults.NoOption
fault_in_front ending (past e) =
    if nat_lt longest e then faults.ImpossibleSizes else cut_short ending

-- what is wrong with a scope of an event record (own)
abbrev pub fault_in_record : Fault → StreamFault
fault_in_record too_many = faults.TooManyValues
fault_in_record no_option = faults.NoOption
fault_in_record (past e) = faults.ContentEnds

-- with another value of a scope
abbrev pub put : Scope → Option Val → Values → Values
put PacketHeader value values = record values { packet_header = value }
put PacketContext value values = record values { packet_context = value }
put EventHeader value values = record values { event_header = value }
put StreamEventContext value values = record values { stream_event_context = value }
put EventContext value values = record values { event_context = value }
put EventFields value values = record values { event_fields = value }
