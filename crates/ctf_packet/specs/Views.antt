-- What the code's values and packets say.
use Rattle.std.specs.Prelude.{◌≡◌, ℕ, Some, option_map, Result, Ok, Err, ◌⊎◌, codes}
use Rattle.ctf_class.specs.Records.{IsPlanOf, scopes_of}
use Rattle.ctf_class.specs.declared.route.Scope.{Scope}
use Rattle.ctf_clock.specs.declared.moment.Shift.{Shift}
use Rattle.ctf_decode.specs.Values.{Val}
use Rattle.ctf_decode.specs.Views.{val}
use Rattle.ctf_decode.specs.Known.{Known}
use Rattle.ctf_decode.specs.Walk.{Step}
use Rattle.ctf_decode.specs.Breaks.{Fault, too_many, past, no_option}
use Rattle.ctf_decode.specs.Gives.{Fails}
use Rattle.ctf_decode.specs.declared.fault.DecodeFault.TheVariants.{ContentEnds, NoOption, TooManyValues, NoMemory}
use Rattle.ctf_decode.specs.declared.fault.DecodeFault.{DecodeFault}
use Rattle.ctf_class.specs.declared.route.Scope.TheVariants.{EventHeader}
use Rattle.ctf_class.specs.Streams.{StreamClass}
use Rattle.ctf_packet.specs.Classes.{Classes, stream_form, event_form}
use Rattle.ctf_packet.specs.Scopes.{Values, no_values, Stood, put}
use Rattle.ctf_packet.specs.Records.{Headed, Body, Recorded}
use Rattle.ctf_packet.specs.declared.record.Head.{Head}
use Rattle.ctf_packet.specs.declared.record.EventRecord.{EventRecord}
use Rattle.ctf_packet.specs.Packets.{Opened, clock_until}
use Rattle.ctf_packet.specs.Roles.{role}
use Rattle.ctf_packet.specs.declared.packet.OpenPacket.{OpenPacket}
use Rattle.ctf_packet.specs.declared.fault.StreamFault.{StreamFault}
use Rattle.ctf_packet.specs.declared.fault.StreamFault.TheVariants as faults

-- the values of the scopes
abbrev pub values_of : Known → Values
values_of known =
    record {
      packet_header = option_map val known.packet_header;
      packet_context = option_map val known.packet_context;
      event_header = option_map val known.event_header;
      stream_event_context = option_map val known.stream_event_context;
      event_context = option_map val known.event_context;
      event_fields = option_map val known.event_fields;
    }

-- a packet with the values of its header and context
abbrev pub opened_of : Shift → Values → OpenPacket → Opened Classes
opened_of shift values o =
    let stream = stream_form shift o.stream.now in
    record {
      stream = stream;
      values = values;
      start = o.start;
      end = o.end;
      first = o.first;
      content = o.content;
      before = o.before;
      clock = o.clock;
      until = clock_until stream.line o.clock
          (role (codes "timestamp_end") stream.packet_context values.packet_context);
      lost = o.lost;
      dropped = o.dropped;
      discarded = o.discarded;
      number = o.number;
    }

-- the value that is there was put in its scope; or it has this fault
abbrev pub PutsValue : Scope → Values → Step Val → Result ℕ DecodeFault → Known → Type 0
PutsValue scope before step (Ok end) after =
    (v : Val) × (step ≡ Ok (v, end, after.spent)) × (values_of after ≡ put scope (Some v) before)
PutsValue scope before step (Err f) after = Fails f step

-- the value of a scope, which may have no class, was put there; or it has this fault, with the stream's faults
abbrev pub PutsScope : Scope → Values → Result Stood StreamFault → Result ℕ StreamFault → Known
    → Type 0
PutsScope scope before stood (Ok end) after =
    (s : Stood) × (stood ≡ Ok s) × (end ≡ s.end) × (after.spent ≡ s.spent)
    × (values_of after ≡ put scope s.value before)
PutsScope scope before stood (Err f) after = (stood ≡ Err f) ⊎ (f ≡ faults.NoMemory)

-- a fault of a value, as the stream's
abbrev pub IsTold : (Fault → StreamFault) → DecodeFault → StreamFault → Type 0
IsTold told (ContentEnds e) fault = fault ≡ told (past e)
IsTold told NoOption fault = fault ≡ told no_option
IsTold told TooManyValues fault = fault ≡ told too_many
IsTold told NoMemory fault = fault ≡ faults.NoMemory

-- the values of the packet alone
abbrev pub packet_values : Values → Values
packet_values values = record no_values {
  packet_header = values.packet_header;
  packet_context = values.packet_context;
}

-- the plan in a header is that of the records of its event class
abbrev pub PlansRecords : StreamClass → Head → Type 0
PlansRecords stream head =
    let event = head.event.now in
    IsPlanOf (scopes_of stream.event_context event.context event.fields) head.plan.now

-- the header of an event record: its class and the clock after it, and its value in its scope; or its fault
abbrev pub PutsHead : StreamClass → Values → Result (Headed Classes) StreamFault
    → Result Head StreamFault → Known → Type 0
PutsHead stream before headed (Ok head) after =
    (h : Headed Classes) × (headed ≡ Ok h) × (event_form stream head.event.now ≡ h.event)
    × (head.clock ≡ h.clock) × (head.end ≡ h.header.end) × (after.spent ≡ h.header.spent)
    × (values_of after ≡ put EventHeader h.header.value before)
PutsHead stream before headed (Err f) after = (headed ≡ Err f) ⊎ (f ≡ faults.NoMemory)

-- the scopes after it
abbrev pub PutsBody : Result Body StreamFault → Result ℕ StreamFault → Known → Type 0
PutsBody bodied (Ok end) after = bodied ≡ Ok (record { values = values_of after; end = end })
PutsBody bodied (Err f) after = (bodied ≡ Err f) ⊎ (f ≡ faults.NoMemory)

-- an event record with the values of its scopes
abbrev pub recorded_of : StreamClass → Values → EventRecord → Recorded Classes
recorded_of stream values r = record {
  event = event_form stream r.event.now;
  clock = r.clock;
  values = values;
  end = r.end;
}
