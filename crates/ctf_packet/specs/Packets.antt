-- What a packet says before its event records.
use Rattle.std.specs.Prelude.{ℕ, ◌+◌, ◌*◌, ◌/◌, ◌%◌, ◌&&◌, ◌==◌, min, Bool, true, false, List, [], length, nat_lt, nat_le, Option, Some, None, option_and_then, Result, Ok, Err, if◌then◌else◌, codes}
use Rattle.std.specs.Int.{next_multiple_of}
use Rattle.ctf_bits.specs.declared.source.Ending.{Ending}
use Rattle.ctf_bits.specs.declared.source.Ending.TheVariants.{Clean, Failed}
use Rattle.ctf_class.specs.Items.{first_of_id, only_item}
use Rattle.ctf_clock.specs.declared.moment.Moment.{Moment}
use Rattle.ctf_clock.specs.Clock.{Line, moment_at, advanced, advanced_by}
use Rattle.ctf_clock.specs.Counting.{discarded_between, lost_between}
use Rattle.ctf_decode.specs.Values.{Val}
use Rattle.ctf_decode.specs.Forms.{Form}
use Rattle.ctf_decode.specs.Input.{Input}
use Rattle.ctf_packet.specs.declared.field.UnsignedField.{UnsignedField}
use Rattle.ctf_packet.specs.declared.reached.Reached.{Reached}
use Rattle.ctf_packet.specs.declared.sizes.Sizes.{Sizes}
use Rattle.ctf_packet.specs.Moved.{moved}
use Rattle.ctf_packet.specs.Classes.{StreamForm, TraceForm}
use Rattle.ctf_packet.specs.Scopes.{◌>>=◌, Values, no_values, input_of, scope_at, longest, cut_short, fault_in_front}
use Rattle.ctf_packet.specs.Roles.{role, number_in, is_magic, uuid_field, is_of_trace}
use Rattle.ctf_packet.specs.declared.fault.StreamFault.{StreamFault}
use Rattle.ctf_packet.specs.declared.fault.StreamFault.TheVariants as faults

-- a packet whose header and context were decoded, and whose bytes are there
pub record Opened (C : Type 0) : Type 0 where
  pub stream : StreamForm C
  -- the values of its header and context
  pub values : Values
  -- where it begins and ends in the stream, in bytes
  pub start : ℕ
  pub end : ℕ
  -- where its event records begin and its content ends, in bits from its first one
  pub first : ℕ
  pub content : ℕ
  -- the clock before it, after its context, and at its end as far as it says
  pub before : Option Moment
  pub clock : Option Moment
  pub until : Option Moment
  -- how many packets were lost before it, and how many event records were discarded
  pub lost : Option ℕ
  pub dropped : Option ℕ
  -- its count of discarded event records, and its sequence number
  pub discarded : Option ℕ
  pub number : Option ℕ

-- go on where this holds
abbrev pub unless : StreamFault → Bool → Result Bool StreamFault
unless fault true = Ok true
unless fault false = Err fault

-- go on with what is there
abbrev pub or_fault : {A : Type 0} → StreamFault → Option A → Result A StreamFault
or_fault fault (Some x) = Ok x
or_fault fault None = Err fault

-- the beginning of what is left of a stream, as far as a packet may reach
abbrev pub front : List ℕ → Values → Input
front left values = input_of left (min (8 * length left) longest) values

-- the stream class that a packet names, or the only one (CTF 1.8.3, section 5.1)
abbrev pub stream_named : {C : Type 0} → List (StreamForm C) → Option ℕ → Option (StreamForm C)
stream_named streams (Some id) = first_of_id (λ stream. stream.id) id streams
stream_named streams None = only_item streams

-- all packets of a stream have the same stream class
abbrev pub same_stream : {C : Type 0} → Option Reached → StreamForm C → Option (StreamForm C)
same_stream None stream = Some stream
same_stream (Some reached) stream = if stream.id == reached.stream then Some stream else None

abbrev pub stream_of : {C : Type 0} → TraceForm C → Option Reached → Option Val
    → Option (StreamForm C)
stream_of trace reached header =
    option_and_then (same_stream reached)
    (stream_named trace.streams
    (number_in (role (codes "stream_id") trace.packet_header header)))

-- a size that is missing is the other one, the packet's taken up to a whole byte; with neither the packet is the rest
-- of the stream (CTF 1.8.3, section 5.2; the whole byte is own)
abbrev pub sizes_of : Option ℕ → Option ℕ → ℕ → Sizes
sizes_of (Some packet) (Some content) rest = record { packet = packet; content = content }
sizes_of (Some packet) None rest = record { packet = packet; content = packet }
sizes_of None (Some content) rest = record {
  packet = next_multiple_of content 8;
  content = content;
}
sizes_of None None rest = record { packet = rest; content = rest }

-- sizes that can be, where the context ends at a bit (the limit is own)
abbrev pub are_possible : Sizes → ℕ → Bool
are_possible sizes end =
    nat_lt 0 sizes.packet && sizes.packet % 8 == 0 && nat_le sizes.packet longest
    && nat_le sizes.content sizes.packet && nat_le end sizes.content

abbrev pub is_clean : Ending → Bool
is_clean Clean = true
is_clean Failed = false

-- whether the end of the packet was seen: the rest of a stream ends where that ends cleanly
abbrev pub is_there : Option ℕ → Option ℕ → Ending → Sizes → ℕ → Bool
is_there None None ending sizes rest = is_clean ending
is_there (Some packet) content ending sizes rest = nat_le sizes.packet rest
is_there None (Some content) ending sizes rest = nat_le sizes.packet rest

-- the integers of a scope that set the clock
abbrev pub moves : Option Form → Option Val → List (ℕ × ℕ)
moves (Some k) (Some v) = moved k v
moves (Some k) None = []
moves None v = []

-- the clock before a packet: it starts at 0, and that is judged once (own)
abbrev pub clock_before : Option Line → Option Reached → Result (Option Moment) StreamFault
clock_before None reached = Ok None
clock_before (Some line) None =
    or_fault faults.ClockRefused (moment_at line 0) >>= (λ start. Ok (Some start))
clock_before (Some line) (Some reached) = Ok reached.clock

-- the clock after a scope whose integers set it
abbrev pub clock_after : Option Line → Option Moment → List (ℕ × ℕ)
    → Result (Option Moment) StreamFault
clock_after (Some line) (Some clock) ms =
    or_fault faults.ClockRefused (advanced_by line clock ms) >>= (λ next. Ok (Some next))
clock_after (Some line) None ms = Ok None
clock_after None clock ms = Ok None

abbrev pub or_else : {A : Type 0} → Option A → Option A → Option A
or_else (Some x) other = Some x
or_else None other = other

-- the clock at a packet's end, where the packet says it and that is none before its own time (CTF 1.8.3, section
-- 5.2; what is refused is own)
abbrev pub clock_until : Option Line → Option Moment → Option UnsignedField → Option Moment
clock_until (Some line) (Some clock) (Some field) =
    or_else (advanced line clock field.width field.number) (Some clock)
clock_until (Some line) (Some clock) None = Some clock
clock_until (Some line) None field = None
clock_until None clock field = None

-- a count since the packet before: none at the first packet
abbrev pub since : (ℕ → ℕ → ℕ → Option ℕ) → Option ℕ → Option UnsignedField → Option ℕ
since between (Some before) (Some field) = between field.width before field.number
since between (Some before) None = None
since between None field = None

-- The stream class of a packet, where its header says nothing else: a magic number, an identifier and a stream class
-- that can be, in this order (CTF 1.8.3, section 5.1; the order is own).
unfoldable pub stream_checked : {C : Type 0} → TraceForm C → Option Reached → Option Val
    → Result (StreamForm C) StreamFault
stream_checked trace reached header = do
  magic ← unless faults.WrongMagic (is_magic (role (codes "magic") trace.packet_header header))
  uuid ← unless faults.OtherTrace (is_of_trace trace.uuid (uuid_field trace.packet_header header))
  or_fault faults.UnknownStream (stream_of trace reached header)

-- The sizes of a packet whose context ends at a bit, where they can be and its bytes are there, in this order: so
-- many bits are left of the stream (CTF 1.8.3, section 5.2; the order is own).
unfoldable pub sizes_checked : Option ℕ → Option ℕ → Ending → ℕ → ℕ → Result Sizes StreamFault
sizes_checked packet_size content_size ending rest end = do
  let sizes = sizes_of packet_size content_size rest
  possible ← unless faults.ImpossibleSizes (are_possible sizes end)
  there ← unless (cut_short ending) (is_there packet_size content_size ending sizes rest)
  Ok sizes

-- A packet of these sizes, whose header and context have these values: the clock, and what its counts say (own).
unfoldable pub placed : {C : Type 0} → StreamForm C → Option Reached → ℕ → Values → ℕ → Sizes
    → Result (Opened C) StreamFault
placed stream reached start values first sizes = do
  let field = λ (name : List ℕ). role name stream.packet_context values.packet_context
  before ← clock_before stream.line reached
  clock ← clock_after stream.line before (moves stream.packet_context values.packet_context)
  Ok (record {
    stream = stream;
    values = values;
    start = start;
    end = start + sizes.packet / 8;
    first = first;
    content = sizes.content;
    before = before;
    clock = clock;
    until = clock_until stream.line clock (field (codes "timestamp_end"));
    lost =
        since lost_between (option_and_then (λ (r : Reached). r.number) reached)
        (field (codes "packet_seq_num"));
    dropped =
        since discarded_between (option_and_then (λ (r : Reached). r.discarded) reached)
        (field (codes "events_discarded"));
    discarded = number_in (field (codes "events_discarded"));
    number = number_in (field (codes "packet_seq_num"));
  })

-- A packet at a place of a stream, out of what is left there; or its first fault, in this order (CTF 1.8.3,
-- section 5; the order is own). The stream ends as it says, and has come so far.
unfoldable pub open_at : {C : Type 0} → TraceForm C → Ending → Option Reached → ℕ → List ℕ
    → Result (Opened C) StreamFault
open_at trace ending reached start left = do
  header ← scope_at (fault_in_front ending) trace.packet_header (front left no_values) 0 0
  stream ← stream_checked trace reached header.value
  let known = record no_values { packet_header = header.value }
  context ←
      scope_at (fault_in_front ending) stream.packet_context (front left known) header.end
      header.spent
  let size = λ (name : List ℕ). number_in (role name stream.packet_context context.value)
  sizes ←
      sizes_checked (size (codes "packet_size")) (size (codes "content_size")) ending
      (8 * length left) context.end
  placed stream reached start (record known { packet_context = context.value }) context.end sizes

-- what is reached after a packet, where its clock came so far
abbrev pub reached_after : {C : Type 0} → Opened C → Option Moment → Reached
reached_after packet clock = record {
  stream = packet.stream.id;
  clock = clock;
  discarded = packet.discarded;
  number = packet.number;
}
