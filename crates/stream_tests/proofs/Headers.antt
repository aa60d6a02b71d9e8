-- Packet headers, and a packet in the manner of a kernel tracer.
use Rattle.std.specs.Prelude.{◌≡◌, ℕ, pos, true, false, List, [], ◌∷◌, ◌++◌, take, slice_set, Some, None, refl, codes}
use Rattle.ctf_bits.specs.Number.{number, signed_number}
use Rattle.ctf_bits.specs.declared.number.Order.TheVariants.{Le}
use Rattle.ctf_bits.specs.declared.source.Ending.TheVariants.{Clean}
use Rattle.ctf_decode.specs.Forms.{structure, text, array, integer, parts_of}
use Rattle.ctf_class.specs.declared.route.Length.TheVariants.{Fixed}
use Rattle.ctf_decode.specs.Routes.{found}
use Rattle.ctf_decode.specs.Walk.{string_at}
use Rattle.ctf_packet.specs.Packets.{stream_checked, sizes_checked, placed, open_at}
use Rattle.ctf_packet.specs.Roles.{role, uuid_field}
use Rattle.ctf_packet.specs.Records.{headed, bodied, record_at}
use Rattle.ctf_packet.specs.Items.{run_of}
use Rattle.ctf_packet.specs.declared.fault.StreamFault.TheVariants as faults
use Rattle.stream_tests.proofs.Building as build
use Rattle.stream_tests.proofs.Building.{items_of, times_of, compact, counted, told, dropped, missed, plain, moving, one_stream, bare, two_headers, three_events, only_fields, nanos}

abbrev uuid : List ℕ
uuid = 0x2A ∷ 0x64 ∷ 0x22 ∷ 0xD0 ∷ 0x6C ∷ 0xEE ∷ 0x11 ∷ 0xE0 ∷ 0x8C ∷ 0x08 ∷ 0xCB ∷ 0x07 ∷ 0xD7 ∷ 0xB3 ∷ 0xA5 ∷ 0x64 ∷ []

abbrev header : build.Form
header = structure 8 (parts_of (
    (codes "magic", plain Le 32)
    ∷ (codes "uuid", array 8 (Fixed 16) (plain Le 8))
    ∷ (codes "stream_id", plain Le 32)
    ∷ (codes "stream_instance_id", plain Le 64)
    ∷ []))

abbrev context : build.Form
context = structure 8 (parts_of (
    (codes "timestamp_begin", moving Le 8 64)
    ∷ (codes "timestamp_end", integer 8 (build.number Le 64 false false))
    ∷ (codes "content_size", plain Le 64)
    ∷ (codes "packet_size", plain Le 64)
    ∷ (codes "packet_seq_num", plain Le 64)
    ∷ (codes "events_discarded", plain Le 64)
    ∷ (codes "cpu_id", plain Le 32)
    ∷ []))

abbrev signed : ℕ → build.Form
signed size = integer 8 (build.number Le size true false)

abbrev switch : build.Event
switch = record {
  class = 0;
  id = 0;
  context = None;
  fields = structure 8 (parts_of (
      (codes "_prev_comm", text 8 (Fixed 16))
      ∷ (codes "_prev_tid", signed 32)
      ∷ (codes "_prev_prio", signed 32)
      ∷ (codes "_prev_state", signed 64)
      ∷ (codes "_next_comm", text 8 (Fixed 16))
      ∷ (codes "_next_tid", signed 32)
      ∷ (codes "_next_prio", signed 32)
      ∷ []));
}

abbrev kernel : build.Trace
kernel = record { uuid = Some uuid; packet_header = Some header; streams = record { id = 0; packet_context = Some context; event_header = Some (two_headers Le); event_context = None; line = Some (record { start = pos 0; offset = pos 1351530929945824323; frequency = 1000000000 }); events = switch ∷ [] } ∷ [] }

abbrev packet : List ℕ
packet = 0xC1 ∷ 0x1F ∷ 0xFC ∷ 0xC1 ∷ 0x2A ∷ 0x64 ∷ 0x22 ∷ 0xD0 ∷ 0x6C ∷ 0xEE ∷ 0x11 ∷ 0xE0 ∷ 0x8C ∷ 0x08 ∷ 0xCB ∷ 0x07 ∷ 0xD7 ∷ 0xB3 ∷ 0xA5 ∷ 0x64 ∷ 0x00 ∷ 0x00 ∷ 0x00 ∷ 0x00 ∷ 0x00 ∷ 0x00 ∷ 0x00 ∷ 0x00 ∷ 0x00 ∷ 0x00 ∷ 0x00 ∷ 0x00 ∷ 0xE8 ∷ 0x03 ∷ 0x00 ∷ 0x00 ∷ 0x00 ∷ 0x00 ∷ 0x00 ∷ 0x00 ∷ 0xD0 ∷ 0x07 ∷ 0x00 ∷ 0x00 ∷ 0x00 ∷ 0x00 ∷ 0x00 ∷ 0x00 ∷ 0x80 ∷ 0x04 ∷ 0x00 ∷ 0x00 ∷ 0x00 ∷ 0x00 ∷ 0x00 ∷ 0x00 ∷ 0x80 ∷ 0x04 ∷ 0x00 ∷ 0x00 ∷ 0x00 ∷ 0x00 ∷ 0x00 ∷ 0x00 ∷ 0x00 ∷ 0x00 ∷ 0x00 ∷ 0x00 ∷ 0x00 ∷ 0x00 ∷ 0x00 ∷ 0x00 ∷ 0x00 ∷ 0x00 ∷ 0x00 ∷ 0x00 ∷ 0x00 ∷ 0x00 ∷ 0x00 ∷ 0x00 ∷ 0x01 ∷ 0x00 ∷ 0x00 ∷ 0x00 ∷ 0x80 ∷ 0xBB ∷ 0x00 ∷ 0x00 ∷ 0x73 ∷ 0x77 ∷ 0x61 ∷ 0x70 ∷ 0x70 ∷ 0x65 ∷ 0x72 ∷ 0x2F ∷ 0x31 ∷ 0x00 ∷ 0x00 ∷ 0x00 ∷ 0x00 ∷ 0x00 ∷ 0x00 ∷ 0x00 ∷ 0x00 ∷ 0x00 ∷ 0x00 ∷ 0x00 ∷ 0x14 ∷ 0x00 ∷ 0x00 ∷ 0x00 ∷ 0x00 ∷ 0x00 ∷ 0x00 ∷ 0x00 ∷ 0x00 ∷ 0x00 ∷ 0x00 ∷ 0x00 ∷ 0x62 ∷ 0x61 ∷ 0x73 ∷ 0x68 ∷ 0x00 ∷ 0x00 ∷ 0x00 ∷ 0x00 ∷ 0x00 ∷ 0x00 ∷ 0x00 ∷ 0x00 ∷ 0x00 ∷ 0x00 ∷ 0x00 ∷ 0x00 ∷ 0x92 ∷ 0x10 ∷ 0x00 ∷ 0x00 ∷ 0x14 ∷ 0x00 ∷ 0x00 ∷ 0x00 ∷ []

pub one_event : items_of kernel Clean packet
    ≡ (told 0 (Some 1500) ∷ [], None, 144)
unfolding number signed_number found string_at role uuid_field stream_checked sizes_checked placed open_at headed bodied record_at run_of
one_event = refl

pub its_time : times_of kernel Clean packet
    ≡ Some (pos 1351530929945825823) ∷ []
unfolding number signed_number found string_at role uuid_field stream_checked sizes_checked placed open_at headed bodied record_at run_of
its_time = refl

-- one byte is another: of the magic number, of the identifier, of the stream's number, of the event's number
pub other_magic : items_of kernel Clean (slice_set packet 0 0xC0)
    ≡ ([], Some faults.WrongMagic, 0)
unfolding number signed_number found string_at role uuid_field stream_checked sizes_checked placed open_at headed bodied record_at run_of
other_magic = refl

pub other_uuid : items_of kernel Clean (slice_set packet 4 0x2B)
    ≡ ([], Some faults.OtherTrace, 0)
unfolding number signed_number found string_at role uuid_field stream_checked sizes_checked placed open_at headed bodied record_at run_of
other_uuid = refl

pub other_stream : items_of kernel Clean (slice_set packet 20 0x01)
    ≡ ([], Some faults.UnknownStream, 0)
unfolding number signed_number found string_at role uuid_field stream_checked sizes_checked placed open_at headed bodied record_at run_of
other_stream = refl

pub other_event : items_of kernel Clean (slice_set packet 84 0x85)
    ≡ ([], Some faults.UnknownEvent, 0)
unfolding number signed_number found string_at role uuid_field stream_checked sizes_checked placed open_at headed bodied record_at run_of
other_event = refl

pub last_byte_missing : items_of kernel Clean (take 143 packet)
    ≡ ([], Some faults.CutShort, 0)
unfolding number signed_number found string_at role uuid_field stream_checked sizes_checked placed open_at headed bodied record_at run_of
last_byte_missing = refl

pub part_after : items_of kernel Clean (packet ++ (0xC1 ∷ 0x1F ∷ []))
    ≡ (told 0 (Some 1500) ∷ [], Some faults.CutShort, 144)
unfolding number signed_number found string_at role uuid_field stream_checked sizes_checked placed open_at headed bodied record_at run_of
part_after = refl

-- the order of the checks
pub magic_before_uuid : items_of kernel Clean (slice_set (slice_set packet 0 0xC0) 4 0x2B)
    ≡ ([], Some faults.WrongMagic, 0)
unfolding number signed_number found string_at role uuid_field stream_checked sizes_checked placed open_at headed bodied record_at run_of
magic_before_uuid = refl

pub header_before_magic : items_of kernel Clean (0xC0 ∷ take 20 packet)
    ≡ ([], Some faults.CutShort, 0)
unfolding number signed_number found string_at role uuid_field stream_checked sizes_checked placed open_at headed bodied record_at run_of
header_before_magic = refl

-- an identifier is compared only where the trace has one
pub uuid_not_declared : items_of (record kernel { uuid = None }) Clean (slice_set packet 4 0x2B)
    ≡ (told 0 (Some 1500) ∷ [], None, 144)
unfolding number signed_number found string_at role uuid_field stream_checked sizes_checked placed open_at headed bodied record_at run_of
uuid_not_declared = refl

-- a magic number of 16 bits has no role, nor has a signed one
abbrev with_header : build.Form → build.Trace
with_header magic = record { uuid = None; packet_header = Some (structure 8 (parts_of ((codes "magic", magic) ∷ []))); streams = record { id = 0; packet_context = None; event_header = None; event_context = None; line = None; events = record { class = 3; id = 0; context = None; fields = structure 8 (parts_of ((codes "a", plain Le 8) ∷ [])) } ∷ [] } ∷ [] }

pub short_magic : items_of (with_header (plain Le 16)) Clean (0xC1 ∷ 0x1F ∷ 0x05 ∷ [])
    ≡ (told 3 None ∷ [], None, 3)
unfolding number signed_number found string_at role uuid_field stream_checked sizes_checked placed open_at headed bodied record_at run_of
short_magic = refl

pub signed_magic : items_of (with_header (signed 32)) Clean (0x00 ∷ 0x00 ∷ 0x00 ∷ 0x00 ∷ 0x05 ∷ [])
    ≡ (told 3 None ∷ [], None, 5)
unfolding number signed_number found string_at role uuid_field stream_checked sizes_checked placed open_at headed bodied record_at run_of
signed_magic = refl

pub wrong_magic : items_of (with_header (plain Le 32)) Clean (0x00 ∷ 0x00 ∷ 0x00 ∷ 0x00 ∷ 0x05 ∷ [])
    ≡ ([], Some faults.WrongMagic, 0)
unfolding number signed_number found string_at role uuid_field stream_checked sizes_checked placed open_at headed bodied record_at run_of
wrong_magic = refl

-- packets of two stream classes, with a number of 8 bits in the header
abbrev numbered : build.Form → ℕ → build.Stream
numbered size id = record { id = id; packet_context = Some (structure 8 (parts_of ((codes "packet_size", size) ∷ []))); event_header = None; event_context = None; line = None; events = [] }

abbrev two_streams : List (List ℕ × build.Form) → build.Trace
two_streams ps = record { uuid = None; packet_header = Some (structure 8 (parts_of ps)); streams = numbered (plain Le 8) 4 ∷ numbered (plain Le 8) 9 ∷ [] }

pub one_class : items_of (two_streams ((codes "stream_id", plain Le 8) ∷ [])) Clean (0x04 ∷ 0x10 ∷ 0x04 ∷ 0x10 ∷ [])
    ≡ ([], None, 4)
unfolding number signed_number found string_at role uuid_field stream_checked sizes_checked placed open_at headed bodied record_at run_of
one_class = refl

-- another class than the first packet's
pub another_class : items_of (two_streams ((codes "stream_id", plain Le 8) ∷ [])) Clean (0x04 ∷ 0x10 ∷ 0x09 ∷ 0x10 ∷ [])
    ≡ ([], Some faults.UnknownStream, 2)
unfolding number signed_number found string_at role uuid_field stream_checked sizes_checked placed open_at headed bodied record_at run_of
another_class = refl

-- no number, although there are two classes
pub no_class_named : items_of (two_streams []) Clean (0x10 ∷ 0x10 ∷ [])
    ≡ ([], Some faults.UnknownStream, 0)
unfolding number signed_number found string_at role uuid_field stream_checked sizes_checked placed open_at headed bodied record_at run_of
no_class_named = refl
