-- What is there where an event record begins.
use Rattle.std.specs.Prelude.{◌≡◌, Result}
use Rattle.ctf_clock.specs.declared.moment.Shift.{Shift}
use Rattle.ctf_packet.specs.Classes.{Classes, stream_form}
use Rattle.ctf_packet.specs.Records.{Headed, Recorded, headed, record_at}
use Rattle.ctf_packet.specs.Scopes.{Values}
use Rattle.ctf_packet.specs.Views.{opened_of, packet_values}
use Rattle.ctf_packet.specs.declared.fault.StreamFault.{StreamFault}
use Rattle.ctf_packet.specs.declared.packet.OpenPacket.{OpenPacket}
use Rattle.ctf_packet.specs.declared.record_place.RecordPlace.{RecordPlace}

-- the clock of a packet is that of its stream, shifted so
abbrev pub IsTimed : Shift → OpenPacket → Type 0
IsTimed shift packet = packet.timeline ≡ (stream_form shift packet.stream.now).line

-- the header there, after these values
abbrev pub headed_at : Shift → Values → RecordPlace → Result (Headed Classes) StreamFault
headed_at shift values at =
    headed (stream_form shift at.packet.now.stream.now) at.bytes.now at.packet.now.content values
    at.clock at.place

-- the event record there, after the packet's values among these
abbrev pub record_there : Shift → Values → RecordPlace → Result (Recorded Classes) StreamFault
record_there shift values at =
    record_at (opened_of shift (packet_values values) at.packet.now) at.bytes.now at.clock at.place
