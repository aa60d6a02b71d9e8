-- Sizes of packets and of their content.
use Rattle.std.specs.Prelude.{◌≡◌, ℕ, true, false, List, [], ◌∷◌, Some, None, refl, codes}
use Rattle.ctf_bits.specs.Number.{number}
use Rattle.ctf_bits.specs.declared.number.Order.TheVariants.{Le, Be}
use Rattle.ctf_bits.specs.declared.source.Ending.TheVariants.{Clean, Failed}
use Rattle.ctf_decode.specs.Forms.{structure, integer, parts_of}
use Rattle.ctf_decode.specs.Routes.{found}
use Rattle.ctf_decode.specs.Walk.{string_at}
use Rattle.ctf_packet.specs.Packets.{stream_checked, sizes_checked, placed, open_at}
use Rattle.ctf_packet.specs.Roles.{role, uuid_field}
use Rattle.ctf_packet.specs.Records.{headed, bodied, record_at}
use Rattle.ctf_packet.specs.Items.{run_of}
use Rattle.ctf_packet.specs.declared.fault.StreamFault.TheVariants as faults
use Rattle.stream_tests.proofs.Building as build
use Rattle.stream_tests.proofs.Building.{items_of, times_of, compact, counted, told, dropped, missed, plain, moving, one_stream, bare, two_headers, three_events, only_fields, nanos}

-- two sizes of 64 bits
abbrev two_sizes : build.Trace
two_sizes = one_stream (Some ((codes "packet_size", plain Le 64) ∷ (codes "content_size", plain Le 64) ∷ [])) None None []

-- one size of 8 bits, and event records of 4 bits
abbrev nibbles : build.Event
nibbles = record { class = 1; id = 0; context = None; fields = structure 1 (parts_of ((codes "a", integer 1 (build.number Be 4 false false)) ∷ [])) }

abbrev one_size : List ℕ → build.Trace
one_size name = one_stream (Some ((name, plain Be 8) ∷ [])) None None (nibbles ∷ [])

abbrev no_size : build.Trace
no_size = one_stream None None None (nibbles ∷ [])

-- the longest packet, of which most is missing
pub longest_cut : items_of two_sizes Clean (0x00 ∷ 0x00 ∷ 0x00 ∷ 0x80 ∷ 0x00 ∷ 0x00 ∷ 0x00 ∷ 0x00 ∷ 0x80 ∷ 0x00 ∷ 0x00 ∷ 0x00 ∷ 0x00 ∷ 0x00 ∷ 0x00 ∷ 0x00 ∷ [])
    ≡ ([], Some faults.CutShort, 0)
unfolding number found string_at role uuid_field stream_checked sizes_checked placed open_at headed bodied record_at run_of
longest_cut = refl

-- sizes that can't be come before bytes that are missing
pub too_long : items_of two_sizes Clean (0x08 ∷ 0x00 ∷ 0x00 ∷ 0x80 ∷ 0x00 ∷ 0x00 ∷ 0x00 ∷ 0x00 ∷ 0x80 ∷ 0x00 ∷ 0x00 ∷ 0x00 ∷ 0x00 ∷ 0x00 ∷ 0x00 ∷ 0x00 ∷ [])
    ≡ ([], Some faults.ImpossibleSizes, 0)
unfolding number found string_at role uuid_field stream_checked sizes_checked placed open_at headed bodied record_at run_of
too_long = refl

pub no_whole_byte : items_of two_sizes Clean (0x7C ∷ 0x00 ∷ 0x00 ∷ 0x00 ∷ 0x00 ∷ 0x00 ∷ 0x00 ∷ 0x00 ∷ 0x80 ∷ 0x00 ∷ 0x00 ∷ 0x00 ∷ 0x00 ∷ 0x00 ∷ 0x00 ∷ 0x00 ∷ [])
    ≡ ([], Some faults.ImpossibleSizes, 0)
unfolding number found string_at role uuid_field stream_checked sizes_checked placed open_at headed bodied record_at run_of
no_whole_byte = refl

pub content_in_context : items_of two_sizes Clean (0x80 ∷ 0x00 ∷ 0x00 ∷ 0x00 ∷ 0x00 ∷ 0x00 ∷ 0x00 ∷ 0x00 ∷ 0x78 ∷ 0x00 ∷ 0x00 ∷ 0x00 ∷ 0x00 ∷ 0x00 ∷ 0x00 ∷ 0x00 ∷ [])
    ≡ ([], Some faults.ImpossibleSizes, 0)
unfolding number found string_at role uuid_field stream_checked sizes_checked placed open_at headed bodied record_at run_of
content_in_context = refl

pub content_beyond : items_of two_sizes Clean (0x80 ∷ 0x00 ∷ 0x00 ∷ 0x00 ∷ 0x00 ∷ 0x00 ∷ 0x00 ∷ 0x00 ∷ 0x88 ∷ 0x00 ∷ 0x00 ∷ 0x00 ∷ 0x00 ∷ 0x00 ∷ 0x00 ∷ 0x00 ∷ [])
    ≡ ([], Some faults.ImpossibleSizes, 0)
unfolding number found string_at role uuid_field stream_checked sizes_checked placed open_at headed bodied record_at run_of
content_beyond = refl

pub no_bits : items_of two_sizes Clean (0x00 ∷ 0x00 ∷ 0x00 ∷ 0x00 ∷ 0x00 ∷ 0x00 ∷ 0x00 ∷ 0x00 ∷ 0x00 ∷ 0x00 ∷ 0x00 ∷ 0x00 ∷ 0x00 ∷ 0x00 ∷ 0x00 ∷ 0x00 ∷ [])
    ≡ ([], Some faults.ImpossibleSizes, 0)
unfolding number found string_at role uuid_field stream_checked sizes_checked placed open_at headed bodied record_at run_of
no_bits = refl

pub just_context : items_of two_sizes Clean (0x80 ∷ 0x00 ∷ 0x00 ∷ 0x00 ∷ 0x00 ∷ 0x00 ∷ 0x00 ∷ 0x00 ∷ 0x80 ∷ 0x00 ∷ 0x00 ∷ 0x00 ∷ 0x00 ∷ 0x00 ∷ 0x00 ∷ 0x00 ∷ [])
    ≡ ([], None, 16)
unfolding number found string_at role uuid_field stream_checked sizes_checked placed open_at headed bodied record_at run_of
just_context = refl

pub odd_and_long : items_of two_sizes Clean (0x04 ∷ 0x00 ∷ 0x00 ∷ 0x80 ∷ 0x00 ∷ 0x00 ∷ 0x00 ∷ 0x00 ∷ 0x80 ∷ 0x00 ∷ 0x00 ∷ 0x00 ∷ 0x00 ∷ 0x00 ∷ 0x00 ∷ 0x00 ∷ [])
    ≡ ([], Some faults.ImpossibleSizes, 0)
unfolding number found string_at role uuid_field stream_checked sizes_checked placed open_at headed bodied record_at run_of
odd_and_long = refl

-- at a failed end a read failed
pub longest_failed : items_of two_sizes Failed (0x00 ∷ 0x00 ∷ 0x00 ∷ 0x80 ∷ 0x00 ∷ 0x00 ∷ 0x00 ∷ 0x00 ∷ 0x80 ∷ 0x00 ∷ 0x00 ∷ 0x00 ∷ 0x00 ∷ 0x00 ∷ 0x00 ∷ 0x00 ∷ [])
    ≡ ([], Some faults.ReadFailed, 0)
unfolding number found string_at role uuid_field stream_checked sizes_checked placed open_at headed bodied record_at run_of
longest_failed = refl

-- bytes after the content belong to the packet
pub bytes_after_content : items_of two_sizes Clean (0x88 ∷ 0x00 ∷ 0x00 ∷ 0x00 ∷ 0x00 ∷ 0x00 ∷ 0x00 ∷ 0x00 ∷ 0x80 ∷ 0x00 ∷ 0x00 ∷ 0x00 ∷ 0x00 ∷ 0x00 ∷ 0x00 ∷ 0x00 ∷ 0xAA ∷ 0x80 ∷ 0x00 ∷ 0x00 ∷ 0x00 ∷ 0x00 ∷ 0x00 ∷ 0x00 ∷ 0x00 ∷ 0x80 ∷ 0x00 ∷ 0x00 ∷ 0x00 ∷ 0x00 ∷ 0x00 ∷ 0x00 ∷ 0x00 ∷ [])
    ≡ ([], None, 33)
unfolding number found string_at role uuid_field stream_checked sizes_checked placed open_at headed bodied record_at run_of
bytes_after_content = refl

-- a packet's size alone: its content is as long
pub packet_alone : items_of (one_size (codes "packet_size")) Clean (0x10 ∷ 0xAB ∷ 0x18 ∷ 0xCD ∷ 0xEF ∷ [])
    ≡ (told 1 None ∷ told 1 None ∷ told 1 None ∷ told 1 None ∷ told 1 None ∷ told 1 None ∷ [], None, 5)
unfolding number found string_at role uuid_field stream_checked sizes_checked placed open_at headed bodied record_at run_of
packet_alone = refl

-- a content's size alone, taken up to a whole byte
pub content_alone : items_of (one_size (codes "content_size")) Clean (0x0C ∷ 0xAB ∷ 0x10 ∷ 0xCD ∷ [])
    ≡ (told 1 None ∷ told 1 None ∷ told 1 None ∷ [], None, 4)
unfolding number found string_at role uuid_field stream_checked sizes_checked placed open_at headed bodied record_at run_of
content_alone = refl

-- neither size: the packet is the rest of the stream, whose end must be seen
pub neither : items_of no_size Clean (0xAB ∷ 0xCD ∷ [])
    ≡ (told 1 None ∷ told 1 None ∷ told 1 None ∷ told 1 None ∷ [], None, 2)
unfolding number found string_at role uuid_field stream_checked sizes_checked placed open_at headed bodied record_at run_of
neither = refl

pub neither_failed : items_of no_size Failed (0xAB ∷ 0xCD ∷ [])
    ≡ ([], Some faults.ReadFailed, 0)
unfolding number found string_at role uuid_field stream_checked sizes_checked placed open_at headed bodied record_at run_of
neither_failed = refl

-- a field of another class has no role
pub signed_size : items_of (one_stream (Some ((codes "packet_size", integer 8 (build.number Be 8 true false)) ∷ [])) None None (nibbles ∷ [])) Clean (0x10 ∷ 0xAB ∷ [])
    ≡ (told 1 None ∷ told 1 None ∷ [], None, 2)
unfolding number found string_at role uuid_field stream_checked sizes_checked placed open_at headed bodied record_at run_of
signed_size = refl
