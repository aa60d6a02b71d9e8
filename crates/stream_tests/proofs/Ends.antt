-- How streams end, and where a packet or an event record is cut short.
use Rattle.std.specs.Prelude.{◌≡◌, ℕ, false, List, [], ◌∷◌, take, map, Some, None, refl, codes}
use Rattle.std.specs.List.{range_with_len}
use Rattle.ctf_bits.specs.Number.{number, signed_number}
use Rattle.ctf_bits.specs.declared.number.Order.TheVariants.{Le, Be}
use Rattle.ctf_bits.specs.declared.source.Ending.TheVariants.{Clean, Failed}
use Rattle.ctf_decode.specs.Forms.{structure, string, array, integer, enumeration, variant, parts_of}
use Rattle.ctf_class.specs.declared.route.Length.TheVariants.{Field}
use Rattle.ctf_decode.specs.Routes.{found}
use Rattle.ctf_decode.specs.Walk.{string_at}
use Rattle.ctf_packet.specs.Packets.{stream_checked, sizes_checked, placed, open_at}
use Rattle.ctf_packet.specs.Roles.{role, uuid_field}
use Rattle.ctf_packet.specs.Records.{headed, bodied, record_at}
use Rattle.ctf_packet.specs.Items.{run_of}
use Rattle.ctf_packet.specs.declared.fault.StreamFault.TheVariants as faults
use Rattle.stream_tests.proofs.Building as build
use Rattle.stream_tests.proofs.Building.{items_of, times_of, compact, counted, told, dropped, missed, plain, moving, one_stream, bare, two_headers, three_events, only_fields, nanos}

abbrev three_packets : List ℕ
three_packets = 0x28 ∷ 0x28 ∷ 0x00 ∷ 0x10 ∷ 0x20 ∷ 0x20 ∷ 0x18 ∷ 0x00 ∷ 0xFF ∷ 0x20 ∷ 0x20 ∷ 0x00 ∷ 0x05 ∷ []

-- `{ enum { A = 1, B, LOW = 0 ... 2 } t; variant <t> { string A; B of 8 bits } u; }`
abbrev chosen : build.Trace
chosen = one_stream None None None (record {
  class = 0;
  id = 0;
  context = None;
  fields = structure 8 (parts_of (
      (codes "t", enumeration 8 (build.number Be 8 false false))
      ∷ (codes "u", variant 1 build.first_member (build.covers 1 1 0 ∷ build.covers 2 2 1 ∷ []) (parts_of ((codes "A", string 8) ∷ (codes "B", plain Be 8) ∷ [])))
      ∷ []));
} ∷ [])

-- a number, so many words on 32 bits, and a number
abbrev sequence : build.Trace
sequence = one_stream None None None (record {
  class = 0;
  id = 0;
  context = None;
  fields = structure 32 (parts_of (
      (codes "n", plain Le 8)
      ∷ (codes "s", array 32 (Field build.first_member) (integer 32 (build.number Le 32 false false)))
      ∷ (codes "z", plain Le 8)
      ∷ []));
} ∷ [])

-- three bytes in each event record
abbrev two_numbers : build.Trace
two_numbers = one_stream None None None (record { class = 7; id = 0; context = None; fields = structure 8 (parts_of ((codes "a", plain Le 8) ∷ (codes "b", plain Le 16) ∷ [])) } ∷ [])

abbrev nothing : build.Trace
nothing = one_stream None None None (bare 0 ∷ [])

-- an empty stream has no packet
pub empty_stream : items_of nothing Clean []
    ≡ ([], None, 0)
unfolding number found string_at role uuid_field stream_checked sizes_checked placed open_at headed bodied record_at run_of
empty_stream = refl

pub empty_failed : items_of nothing Failed []
    ≡ ([], Some faults.ReadFailed, 0)
unfolding number found string_at role uuid_field stream_checked sizes_checked placed open_at headed bodied record_at run_of
empty_failed = refl

pub record_of_no_bits : items_of nothing Clean (0x00 ∷ [])
    ≡ ([], Some faults.EmptyEvent, 0)
unfolding number found string_at role uuid_field stream_checked sizes_checked placed open_at headed bodied record_at run_of
record_of_no_bits = refl

pub two_records : items_of two_numbers Clean (0x01 ∷ 0x02 ∷ 0x03 ∷ 0x04 ∷ 0x05 ∷ 0x06 ∷ [])
    ≡ (told 7 None ∷ told 7 None ∷ [], None, 6)
unfolding number found string_at role uuid_field stream_checked sizes_checked placed open_at headed bodied record_at run_of
two_records = refl

pub part_of_a_record : items_of two_numbers Clean (0x01 ∷ 0x02 ∷ 0x03 ∷ 0x04 ∷ 0x05 ∷ [])
    ≡ (told 7 None ∷ [], Some faults.ContentEnds, 0)
unfolding number found string_at role uuid_field stream_checked sizes_checked placed open_at headed bodied record_at run_of
part_of_a_record = refl

pub two_records_failed : items_of two_numbers Failed (0x01 ∷ 0x02 ∷ 0x03 ∷ 0x04 ∷ 0x05 ∷ 0x06 ∷ [])
    ≡ ([], Some faults.ReadFailed, 0)
unfolding number found string_at role uuid_field stream_checked sizes_checked placed open_at headed bodied record_at run_of
two_records_failed = refl

-- the tag names no option
pub no_option : items_of chosen Clean (0x01 ∷ 0x68 ∷ 0x69 ∷ 0x00 ∷ 0x02 ∷ 0x05 ∷ 0x00 ∷ [])
    ≡ (told 0 None ∷ told 0 None ∷ [], Some faults.NoOption, 0)
unfolding number found string_at role uuid_field stream_checked sizes_checked placed open_at headed bodied record_at run_of
no_option = refl

-- a sequence without elements is aligned
pub aligned_sequence : items_of sequence Clean (0x00 ∷ 0xFF ∷ 0xFF ∷ 0xFF ∷ 0x09 ∷ [])
    ≡ (told 0 None ∷ [], None, 5)
unfolding number found string_at role uuid_field stream_checked sizes_checked placed open_at headed bodied record_at run_of
aligned_sequence = refl

-- a packet that lacks a byte gives nothing
pub two_packets_and_a_part : items_of (counted []) Clean (0x20 ∷ 0x20 ∷ 0x00 ∷ 0x20 ∷ 0x20 ∷ 0x20 ∷ 0x00 ∷ [])
    ≡ (told 0 (Some 32) ∷ [], Some faults.CutShort, 4)
unfolding number found string_at role uuid_field stream_checked sizes_checked placed open_at headed bodied record_at run_of
two_packets_and_a_part = refl

-- a read that fails after each count of bytes from 0 to 13
pub failed_reads : map (λ k. items_of (counted []) Failed (take k three_packets)) (range_with_len 0 14)
    ≡ ([], Some faults.ReadFailed, 0)
    ∷ ([], Some faults.ReadFailed, 0)
    ∷ ([], Some faults.ReadFailed, 0)
    ∷ ([], Some faults.ReadFailed, 0)
    ∷ ([], Some faults.ReadFailed, 0)
    ∷ (told 0 (Some 16) ∷ told 0 (Some 32) ∷ [], Some faults.ReadFailed, 5)
    ∷ (told 0 (Some 16) ∷ told 0 (Some 32) ∷ [], Some faults.ReadFailed, 5)
    ∷ (told 0 (Some 16) ∷ told 0 (Some 32) ∷ [], Some faults.ReadFailed, 5)
    ∷ (told 0 (Some 16) ∷ told 0 (Some 32) ∷ [], Some faults.ReadFailed, 5)
    ∷ (told 0 (Some 16) ∷ told 0 (Some 32) ∷ [], Some faults.ReadFailed, 9)
    ∷ (told 0 (Some 16) ∷ told 0 (Some 32) ∷ [], Some faults.ReadFailed, 9)
    ∷ (told 0 (Some 16) ∷ told 0 (Some 32) ∷ [], Some faults.ReadFailed, 9)
    ∷ (told 0 (Some 16) ∷ told 0 (Some 32) ∷ [], Some faults.ReadFailed, 9)
    ∷ (told 0 (Some 16) ∷ told 0 (Some 32) ∷ told 0 (Some 261) ∷ [], Some faults.ReadFailed, 13)
    ∷ []
unfolding number signed_number found string_at role uuid_field stream_checked sizes_checked placed open_at headed bodied record_at run_of
failed_reads = refl
