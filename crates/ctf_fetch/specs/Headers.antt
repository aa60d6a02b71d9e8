-- The header of a packet, and of those that begin with the same bytes.
use Rattle.std.specs.Prelude.{◌≡◌, ℕ, ◌+◌, ◌*◌, ◌≤◌, min, max, List, ◌++◌, length, Option, Some, Ok, IfSome}
use Rattle.ctf_class.specs.declared.route.Scope.TheVariants.{PacketHeader}
use Rattle.ctf_class.specs.declared.trace.TraceClass.{TraceClass}
use Rattle.ctf_clock.specs.declared.moment.Shift.{Shift}
use Rattle.ctf_decode.specs.Known.{Known}
use Rattle.ctf_decode.specs.Values.{Val}
use Rattle.ctf_packet.specs.Classes.{Classes, stream_form, trace_form}
use Rattle.ctf_packet.specs.Packets.{front, stream_checked}
use Rattle.ctf_packet.specs.Scopes.{Stood, longest, no_values}
use Rattle.ctf_packet.specs.Views.{values_of}
use Rattle.ctf_packet.specs.declared.reached.Reached.{Reached}
use Rattle.ctf_packet_demand.specs.Gives.{PutsAsked}
use Rattle.ctf_packet_demand.specs.Wants.{asked_at}
use Rattle.ctf_fetch.specs.declared.known_header.FoundHeader.{FoundHeader}
use Rattle.ctf_fetch.specs.declared.known_header.KnownHeader.{KnownHeader}
use Rattle.ctf_fetch.specs.declared.packet_scratch.PacketScratch.{PacketScratch}

-- a packet of these first bytes has this header, whose value alone is in the scopes, and is of this stream class
pub record IsHeaded (shift : Shift) (trace : TraceClass) (reached : Option Reached)
    (bytes : List ℕ) (h : FoundHeader) (known : Known) : Type 0 where
  pub header :
      PutsAsked PacketHeader no_values
      (asked_at (trace_form shift trace).packet_header (front bytes no_values) 0 0) h.end known
  pub stream :
      stream_checked (trace_form shift trace) reached (values_of known).packet_header
      ≡ Ok (stream_form shift h.stream.now)

-- the header of a packet was found in the bytes that came: they have it whatever follows them, it ends among them, and
-- no byte was taken after it
pub record FindsHeader (shift : Shift) (trace : TraceClass) (reached : Option Reached)
    (before after : List ℕ) (known : Known) (h : FoundHeader) : Type 0 where
  pub headed : (more : List ℕ) → IsHeaded shift trace reached (after ++ more) h known
  pub within : h.end ≤ min (8 * length after) longest
  pub near : 8 * length after ≤ max (8 * length before) (h.end + 7)

-- the known header with this value, as the definition has it
abbrev pub stood_of : KnownHeader → Option Val → Stood
stood_of k value = record { value = value; end = k.found.end; spent = k.spent }

-- each packet that begins with the bytes of a known header has it, with this value, and is of its stream class, where
-- the packets before are
pub record IsHeader (trace : TraceClass) (k : KnownHeader) (value : Option Val) : Type 0 where
  pub stood : (shift : Shift) (more : List ℕ) →
      asked_at {C = Classes} (trace_form shift trace).packet_header
      (front (k.bytes.items ++ more) no_values) 0 0
      ≡ Ok (stood_of k value)
  pub stream : (shift : Shift) (reached : Reached) →
      reached.stream ≡ (stream_form shift k.found.stream.now).id →
      stream_checked (trace_form shift trace) (Some reached) value
      ≡ Ok (stream_form shift k.found.stream.now)

-- the header that is known, if there is one, is that of the packet whose header has this value
abbrev pub KnowsHeader : TraceClass → PacketScratch → Option Val → Type 0
KnowsHeader trace scratch value = IfSome scratch.known (λ k. IsHeader trace k value)

-- it is that of the packet whose header has its value in these scopes
abbrev pub KnowsHeaderIn : TraceClass → PacketScratch → Known → Type 0
KnowsHeaderIn trace scratch known = KnowsHeader trace scratch (values_of known).packet_header
