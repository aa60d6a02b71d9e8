-- Lost packets and discarded event records.
use Rattle.std.specs.Prelude.{◌≡◌, ℕ, List, [], ◌∷◌, Some, None, refl, codes}
use Rattle.ctf_bits.specs.Number.{number}
use Rattle.ctf_bits.specs.declared.number.Order.TheVariants.{Be}
use Rattle.ctf_bits.specs.declared.source.Ending.TheVariants.{Clean}
use Rattle.ctf_decode.specs.Routes.{found}
use Rattle.ctf_decode.specs.Walk.{string_at}
use Rattle.ctf_packet.specs.Packets.{stream_checked, sizes_checked, placed, open_at}
use Rattle.ctf_packet.specs.Roles.{role, uuid_field}
use Rattle.ctf_packet.specs.Records.{headed, bodied, record_at}
use Rattle.ctf_packet.specs.Items.{run_of}
use Rattle.stream_tests.proofs.Building as build
use Rattle.stream_tests.proofs.Building.{items_of, times_of, compact, counted, told, dropped, missed, plain, moving, one_stream, bare, two_headers, three_events, only_fields, nanos}

abbrev three_packets : List ℕ
three_packets = 0x28 ∷ 0x28 ∷ 0x00 ∷ 0x10 ∷ 0x20 ∷ 0x20 ∷ 0x18 ∷ 0x00 ∷ 0xFF ∷ 0x20 ∷ 0x20 ∷ 0x00 ∷ 0x05 ∷ []

-- sizes, count and stamp, with a further field of 8 bits in the context
abbrev with_end : build.Trace
with_end = counted ((codes "timestamp_end", plain Be 8) ∷ [])

abbrev with_number : build.Trace
with_number = counted ((codes "packet_seq_num", plain Be 8) ∷ [])

-- three packets, the second without event records: the clock goes on from one to the next
pub clock_goes_on : items_of (counted []) Clean three_packets
    ≡ (told 0 (Some 16) ∷ told 0 (Some 32) ∷ told 0 (Some 261) ∷ [], None, 13)
unfolding number found string_at role uuid_field stream_checked sizes_checked placed open_at headed bodied record_at run_of
clock_goes_on = refl

-- a count of 8 bits that goes from 254 to 1; the first packet's count is not given
pub count_wraps : items_of (counted []) Clean (0x20 ∷ 0x20 ∷ 0xFE ∷ 0x10 ∷ 0x20 ∷ 0x20 ∷ 0x01 ∷ 0x20 ∷ [])
    ≡ (told 0 (Some 16) ∷ dropped 3 (Some 16) (Some 16) (Some 16) ∷ told 0 (Some 32) ∷ [], None, 8)
unfolding number found string_at role uuid_field stream_checked sizes_checked placed open_at headed bodied record_at run_of
count_wraps = refl

-- until the end that the packet says, extended from its own time
pub until_the_end : items_of with_end Clean (0x28 ∷ 0x28 ∷ 0xFE ∷ 0x18 ∷ 0x10 ∷ 0x28 ∷ 0x28 ∷ 0x01 ∷ 0x05 ∷ 0x20 ∷ [])
    ≡ (told 0 (Some 16) ∷ dropped 3 (Some 16) (Some 16) (Some 261) ∷ told 0 (Some 32) ∷ [], None, 10)
unfolding number found string_at role uuid_field stream_checked sizes_checked placed open_at headed bodied record_at run_of
until_the_end = refl

-- sequence numbers from 254 to 1; one that went back gives nothing
pub number_wraps : items_of with_number Clean (0x28 ∷ 0x28 ∷ 0x00 ∷ 0xFE ∷ 0x10 ∷ 0x28 ∷ 0x28 ∷ 0x00 ∷ 0x01 ∷ 0x20 ∷ [])
    ≡ (told 0 (Some 16) ∷ missed 2 (Some 16) (Some 16) (Some 16) ∷ told 0 (Some 32) ∷ [], None, 10)
unfolding number found string_at role uuid_field stream_checked sizes_checked placed open_at headed bodied record_at run_of
number_wraps = refl

pub number_back : items_of with_number Clean (0x28 ∷ 0x28 ∷ 0x00 ∷ 0xFE ∷ 0x10 ∷ 0x28 ∷ 0x28 ∷ 0x00 ∷ 0x01 ∷ 0x20 ∷ 0x28 ∷ 0x28 ∷ 0x00 ∷ 0xFF ∷ 0x30 ∷ [])
    ≡ (told 0 (Some 16) ∷ missed 2 (Some 16) (Some 16) (Some 16) ∷ told 0 (Some 32) ∷ told 0 (Some 48) ∷ [], None, 15)
unfolding number found string_at role uuid_field stream_checked sizes_checked placed open_at headed bodied record_at run_of
number_back = refl

pub lost_before_discarded : items_of with_number Clean (0x28 ∷ 0x28 ∷ 0xFE ∷ 0xFE ∷ 0x10 ∷ 0x28 ∷ 0x28 ∷ 0x01 ∷ 0x01 ∷ 0x20 ∷ [])
    ≡ (told 0 (Some 16) ∷ missed 2 (Some 16) (Some 16) (Some 16) ∷ dropped 3 (Some 16) (Some 16) (Some 16) ∷ told 0 (Some 32) ∷ [], None, 10)
unfolding number found string_at role uuid_field stream_checked sizes_checked placed open_at headed bodied record_at run_of
lost_before_discarded = refl

pub same_number : items_of with_number Clean (0x28 ∷ 0x28 ∷ 0x00 ∷ 0x05 ∷ 0x10 ∷ 0x28 ∷ 0x28 ∷ 0x00 ∷ 0x05 ∷ 0x20 ∷ [])
    ≡ (told 0 (Some 16) ∷ told 0 (Some 32) ∷ [], None, 10)
unfolding number found string_at role uuid_field stream_checked sizes_checked placed open_at headed bodied record_at run_of
same_number = refl

-- half of all numbers on is given, more is a step back
pub half_on : items_of with_number Clean (0x28 ∷ 0x28 ∷ 0x00 ∷ 0x00 ∷ 0x10 ∷ 0x28 ∷ 0x28 ∷ 0x00 ∷ 0x80 ∷ 0x20 ∷ [])
    ≡ (told 0 (Some 16) ∷ missed 127 (Some 16) (Some 16) (Some 16) ∷ told 0 (Some 32) ∷ [], None, 10)
unfolding number found string_at role uuid_field stream_checked sizes_checked placed open_at headed bodied record_at run_of
half_on = refl

pub more_than_half_on : items_of with_number Clean (0x28 ∷ 0x28 ∷ 0x00 ∷ 0x00 ∷ 0x10 ∷ 0x28 ∷ 0x28 ∷ 0x00 ∷ 0x81 ∷ 0x20 ∷ [])
    ≡ (told 0 (Some 16) ∷ told 0 (Some 32) ∷ [], None, 10)
unfolding number found string_at role uuid_field stream_checked sizes_checked placed open_at headed bodied record_at run_of
more_than_half_on = refl

-- each packet's number and count are kept, also where it gives no item
pub number_kept : items_of with_number Clean (0x28 ∷ 0x28 ∷ 0x00 ∷ 0x05 ∷ 0x10 ∷ 0x20 ∷ 0x20 ∷ 0x00 ∷ 0x02 ∷ 0x28 ∷ 0x28 ∷ 0x00 ∷ 0x05 ∷ 0x20 ∷ [])
    ≡ (told 0 (Some 16) ∷ missed 2 (Some 16) (Some 16) (Some 16) ∷ told 0 (Some 32) ∷ [], None, 14)
unfolding number found string_at role uuid_field stream_checked sizes_checked placed open_at headed bodied record_at run_of
number_kept = refl

pub count_kept : items_of (counted []) Clean (0x18 ∷ 0x18 ∷ 0x0A ∷ 0x18 ∷ 0x18 ∷ 0x0C ∷ 0x18 ∷ 0x18 ∷ 0x0D ∷ [])
    ≡ (dropped 2 (Some 0) (Some 0) (Some 0) ∷ dropped 1 (Some 0) (Some 0) (Some 0) ∷ [], None, 9)
unfolding number found string_at role uuid_field stream_checked sizes_checked placed open_at headed bodied record_at run_of
count_kept = refl

-- no clock, no times
pub without_times : items_of (one_stream (Some ((codes "packet_size", plain Be 8) ∷ (codes "events_discarded", plain Be 8) ∷ [])) None None []) Clean (0x10 ∷ 0x05 ∷ 0x10 ∷ 0x07 ∷ [])
    ≡ (dropped 2 None None None ∷ [], None, 4)
unfolding number found string_at role uuid_field stream_checked sizes_checked placed open_at headed bodied record_at run_of
without_times = refl
