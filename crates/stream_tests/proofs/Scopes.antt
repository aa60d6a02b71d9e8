-- Lengths that the scopes before give, and the steps by which integers set the clock.
use Rattle.std.specs.Prelude.{◌≡◌, ℕ, negsuc, true, false, List, [], ◌∷◌, ◌++◌, Some, None, refl, codes}
use Rattle.ctf_bits.specs.Number.{number}
use Rattle.ctf_bits.specs.declared.number.Order.TheVariants.{Le}
use Rattle.ctf_bits.specs.declared.source.Ending.TheVariants.{Clean}
use Rattle.ctf_class.specs.declared.route.Length.TheVariants.{Field}
use Rattle.ctf_class.specs.declared.route.Origin.TheVariants.{Earlier}
use Rattle.ctf_class.specs.declared.route.Scope.{Scope}
use Rattle.ctf_class.specs.declared.route.Scope.TheVariants.{PacketHeader, PacketContext, EventHeader, StreamEventContext, EventContext}
use Rattle.ctf_decode.specs.Fields as fields
use Rattle.ctf_decode.specs.Forms.{Form, Part, integer, structure, array, parts_of}
use Rattle.ctf_decode.specs.Routes.{found}
use Rattle.ctf_decode.specs.Values.{unsigned, signed}
use Rattle.ctf_packet.specs.Moved.{moved}
use Rattle.ctf_packet.specs.Packets.{stream_checked, sizes_checked, placed, open_at}
use Rattle.ctf_packet.specs.Roles.{role, uuid_field}
use Rattle.ctf_packet.specs.Records.{headed, bodied, record_at}
use Rattle.ctf_packet.specs.Items.{run_of}
use Rattle.ctf_packet.specs.declared.fault.StreamFault.TheVariants as faults
use Rattle.stream_tests.proofs.Building as build
use Rattle.stream_tests.proofs.Building.{items_of, told, plain}

-- so many bytes as a member of an earlier scope says
abbrev bytes_by : Scope → ℕ → Part
bytes_by scope step = (codes "bytes", array 8 (Field (record { origin = Earlier scope; steps = step ∷ [] })) (plain Le 8))

abbrev count : Part
count = (codes "count", plain Le 8)

abbrev of_parts : List Part → Form
of_parts ps = structure 8 (parts_of ps)

-- each scope has so many bytes as the one before says, and says how many the next one has
abbrev each_by_the_last : build.Trace
each_by_the_last = record {
  uuid = None;
  packet_header = Some (of_parts (count ∷ []));
  streams = record {
    id = 0;
    packet_context = Some (of_parts (bytes_by PacketHeader 0 ∷ count ∷ []));
    event_header = Some (of_parts (bytes_by PacketContext 1 ∷ count ∷ []));
    event_context = Some (of_parts (bytes_by EventHeader 1 ∷ count ∷ []));
    line = None;
    events = record {
      class = 0;
      id = 0;
      context = Some (of_parts (bytes_by StreamEventContext 1 ∷ count ∷ []));
      fields = of_parts (bytes_by EventContext 1 ∷ []);
    } ∷ [];
  } ∷ [];
}

abbrev one_each : List ℕ
one_each = 1 ∷ 0xFF ∷ 1 ∷ 0xFF ∷ 1 ∷ 0xFF ∷ 1 ∷ 0xFF ∷ 1 ∷ 0xFF ∷ []

-- a count is found in each scope that is decoded
pub counts_found : items_of each_by_the_last Clean one_each
    ≡ (told 0 None ∷ [], None, 10)
unfolding number found role uuid_field stream_checked sizes_checked placed open_at headed bodied record_at run_of
counts_found = refl

-- one byte too many is asked for by the event context
pub counts_too_many : items_of each_by_the_last Clean (1 ∷ 0xFF ∷ 1 ∷ 0xFF ∷ 1 ∷ 0xFF ∷ 1 ∷ 0xFF ∷ 2 ∷ 0xFF ∷ [])
    ≡ ([], Some faults.ContentEnds, 0)
unfolding number found role uuid_field stream_checked sizes_checked placed open_at headed bodied record_at run_of
counts_too_many = refl

-- an integer of 8 bits that sets the clock
abbrev stamp : Form
stamp = integer 8 (build.number Le 8 false true)

abbrev signed_stamp : Form
signed_stamp = integer 8 (build.number Le 8 true true)

-- the steps of the clock are those that are given as stamps, below 0 too
pub step_of_clock : moved signed_stamp (signed (negsuc 127)) ≡ (8, 128) ∷ []
step_of_clock = refl

pub step_told : fields.moved signed_stamp (signed (negsuc 127)) ≡ (8, 128) ∷ []
step_told = refl

-- but for a number that the width does not hold, which no value that is decoded has
pub step_not_held : moved stamp (unsigned 256) ++ fields.moved stamp (unsigned 256) ≡ (8, 256) ∷ []
step_not_held = refl
