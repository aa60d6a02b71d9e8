-- Clocks, and the classes that headers name.
use Rattle.std.specs.Prelude.{◌≡◌, ℕ, pos, negsuc, List, [], ◌∷◌, ◌++◌, Some, None, refl, codes}
use Rattle.ctf_bits.specs.Number.{number}
use Rattle.ctf_bits.specs.declared.number.Order.TheVariants.{Le, Be}
use Rattle.ctf_bits.specs.declared.source.Ending.TheVariants.{Clean}
use Rattle.ctf_decode.specs.Forms.{structure, parts_of}
use Rattle.ctf_decode.specs.Routes.{found}
use Rattle.ctf_packet.specs.Packets.{stream_checked, sizes_checked, placed, open_at}
use Rattle.ctf_packet.specs.Roles.{role, uuid_field}
use Rattle.ctf_packet.specs.Records.{headed, bodied, record_at}
use Rattle.ctf_packet.specs.Items.{run_of}
use Rattle.ctf_packet.specs.declared.fault.StreamFault.TheVariants as faults
use Rattle.stream_tests.proofs.Building.{items_of, times_of, compact, told, plain, one_stream, bare, two_headers, three_events}

-- a compact header, in both orders
pub compact_le : items_of (compact Le) Clean (0x05 ∷ 0x7D ∷ 0 ∷ 0 ∷ []) ≡ (told 5 (Some 1000) ∷ [], None, 4)
unfolding number found role uuid_field stream_checked sizes_checked placed open_at headed bodied record_at run_of
compact_le = refl

pub compact_be : items_of (compact Be) Clean (0x28 ∷ 0 ∷ 0x03 ∷ 0xE8 ∷ []) ≡ (told 5 (Some 1000) ∷ [], None, 4)
unfolding number found role uuid_field stream_checked sizes_checked placed open_at headed bodied record_at run_of
compact_be = refl

-- stamps of 27 bits: the largest, then 0 after it, then the same again: no wrap is added where the bits are equal
pub wraps : items_of (compact Le) Clean (0xE0 ∷ 0xFF ∷ 0xFF ∷ 0xFF ∷ 0 ∷ 0 ∷ 0 ∷ 0 ∷ 0 ∷ 0 ∷ 0 ∷ 0 ∷ [])
    ≡ (told 0 (Some 134217727) ∷ told 0 (Some 134217728) ∷ told 0 (Some 134217728) ∷ [], None, 12)
unfolding number found role uuid_field stream_checked sizes_checked placed open_at headed bodied record_at run_of
wraps = refl

-- an extended header: the last `id` names the class
abbrev extended : List ℕ
extended = 0x1F ∷ 0x28 ∷ 0 ∷ 0 ∷ 0 ∷ 0 ∷ 0x94 ∷ 0x35 ∷ 0x77 ∷ 0 ∷ 0 ∷ 0 ∷ 0 ∷ []

pub last_id_counts : items_of (compact Le) Clean extended ≡ (told 40 (Some 2000000000) ∷ [], None, 13)
unfolding number found role uuid_field stream_checked sizes_checked placed open_at headed bodied record_at run_of
last_id_counts = refl

-- a stamp of 64 bits that falls
pub falls : items_of (compact Le) Clean (extended ++ (0x1F ∷ 0x28 ∷ 0 ∷ 0 ∷ 0 ∷ 0xFF ∷ 0x93 ∷ 0x35 ∷ 0x77 ∷ 0 ∷ 0 ∷ 0 ∷ 0 ∷ []))
    ≡ (told 40 (Some 2000000000) ∷ [], Some faults.ClockRefused, 0)
unfolding number found role uuid_field stream_checked sizes_checked placed open_at headed bodied record_at run_of
falls = refl

-- an id that names no event class
pub unknown_event : items_of (compact Le) Clean (0x06 ∷ 0 ∷ 0 ∷ 0 ∷ []) ≡ ([], Some faults.UnknownEvent, 0)
unfolding number found role uuid_field stream_checked sizes_checked placed open_at headed bodied record_at run_of
unknown_event = refl

-- a clock of 3 cycles a second that begins one cycle before the epoch, rounded down
pub thirds : times_of (one_stream None (Some (two_headers Le)) (Some (record { start = pos 0; offset = negsuc 0; frequency = 3 })) three_events) Clean (0 ∷ 0 ∷ 0 ∷ 0 ∷ []) ≡ Some (negsuc 333333333) ∷ []
unfolding number found role uuid_field stream_checked sizes_checked placed open_at headed bodied record_at run_of
thirds = refl

-- a time that leaves 64 bits, and one that just fits
pub too_late : items_of (one_stream None (Some (two_headers Le)) (Some (record { start = pos 9223372036854775000; offset = pos 0; frequency = 1000000000 })) three_events) Clean (0x05 ∷ 0x7D ∷ 0 ∷ 0 ∷ []) ≡ ([], Some faults.ClockRefused, 0)
unfolding number found role uuid_field stream_checked sizes_checked placed open_at headed bodied record_at run_of
too_late = refl

pub just_in_time : times_of (one_stream None (Some (two_headers Le)) (Some (record { start = pos 9223372036854774807; offset = pos 0; frequency = 1000000000 })) three_events) Clean (0x05 ∷ 0x7D ∷ 0 ∷ 0 ∷ []) ≡ Some (pos 9223372036854775807) ∷ []
unfolding number found role uuid_field stream_checked sizes_checked placed open_at headed bodied record_at run_of
just_in_time = refl

-- the start value is judged too, in the first packet
pub start_too_early : items_of (one_stream None (Some (two_headers Le)) (Some (record { start = negsuc 9223372036854775807; offset = negsuc 0; frequency = 1000000000 })) three_events) Clean (0x05 ∷ 0x7D ∷ 0 ∷ 0 ∷ []) ≡ ([], Some faults.ClockRefused, 0)
unfolding number found role uuid_field stream_checked sizes_checked placed open_at headed bodied record_at run_of
start_too_early = refl

-- a stream without a clock: a single class of any number, and no time
pub without_clock : items_of (one_stream None None None (record { class = 7; id = 9; context = None; fields = structure 8 (parts_of ((codes "a", plain Le 8) ∷ (codes "b", plain Le 16) ∷ [])) } ∷ [])) Clean (1 ∷ 2 ∷ 3 ∷ 4 ∷ 5 ∷ 6 ∷ [])
    ≡ (told 7 None ∷ told 7 None ∷ [], None, 6)
unfolding number found role uuid_field stream_checked sizes_checked placed open_at headed bodied record_at run_of
without_clock = refl

-- two classes and no id
pub no_id : items_of (one_stream None None None (bare 0 ∷ bare 1 ∷ [])) Clean (1 ∷ []) ≡ ([], Some faults.UnknownEvent, 0)
unfolding number found role uuid_field stream_checked sizes_checked placed open_at headed bodied record_at run_of
no_id = refl

-- the fault of the clock comes before that of the class, and both before those of the fields
pub clock_before_class : items_of (compact Le) Clean (extended ++ (0x1F ∷ 0x29 ∷ 0 ∷ 0 ∷ 0 ∷ 0xFF ∷ 0x93 ∷ 0x35 ∷ 0x77 ∷ 0 ∷ 0 ∷ 0 ∷ 0 ∷ []))
    ≡ (told 40 (Some 2000000000) ∷ [], Some faults.ClockRefused, 0)
unfolding number found role uuid_field stream_checked sizes_checked placed open_at headed bodied record_at run_of
clock_before_class = refl
