-- The trace class, gathered from what each declaration gives to it.
use Rattle.std.specs.Prelude.{◌≡◌, ℕ, nat_eq, if◌then◌else◌, List, [], ◌∷◌, filter_map, slice_get, Option, Some, None, option_and_then}
use Rattle.tsdl_tree.specs.declared.tree.BlockKind.TheVariants.{Event}
use Rattle.ctf_bits.specs.declared.number.Order.{Order}
use Rattle.ctf_class.specs.declared.class.Class.{Class}
use Rattle.ctf_class.specs.declared.route.Scope.TheVariants.{PacketHeader, PacketContext, EventHeader, StreamEventContext}
use Rattle.ctf_class.specs.declared.trace.EventClass.{EventClass}
use Rattle.ctf_class.specs.Streams.{StreamClass}
use Rattle.ctf_meaning.specs.Written.{BlockEntry, Declaration, Block}
use Rattle.ctf_meaning.specs.There.{first}
use Rattle.ctf_meaning.specs.Streams.{Stream, stream_by, stream_of, streams, home_of_stream}
use Rattle.ctf_meaning.specs.Faults.{link_faults, clocks_moved, has_other}
use Rattle.ctf_meaning.specs.Denotes.{scope_class, event_class, trace_entries}
use Rattle.ctf_types.specs.declared.linked.StreamHead.{StreamHead}
use Rattle.ctf_types.specs.declared.linked.Linked.{Linked}
use Rattle.ctf_types.specs.declared.linked.Linked.TheVariants as linked

abbrev pub joined : StreamHead → List EventClass → StreamClass
joined head events = record {
  id = head.id;
  packet_context = head.packet_context;
  event_header = head.event_header;
  event_context = head.event_context;
  clock = head.clock;
  events = events;
}

abbrev pub joined_all : List StreamHead → List (List EventClass) → List StreamClass
joined_all [] events = []
joined_all (h ∷ hs) [] = []
joined_all (h ∷ hs) (es ∷ ess) = joined h es ∷ joined_all hs ess

-- what is in the rows
abbrev pub head_in : Linked → Option StreamHead
head_in (linked.Stream head) = Some head
head_in _ = None

abbrev pub header_in : Linked → Option (Option Class)
header_in (linked.Trace header) = Some header
header_in _ = None

abbrev pub event_at : ℕ → Linked → Option EventClass
event_at place (linked.Event stream e) = if nat_eq stream place then Some e else None
event_at place _ = None

abbrev pub heads_in : List Linked → List StreamHead
heads_in rows = filter_map head_in rows

abbrev pub events_at : ℕ → List Linked → List EventClass
events_at place rows = filter_map (event_at place) rows

abbrev pub header_of : List Linked → Option Class
header_of rows = option_and_then (λ h. h) (first (filter_map header_in rows))

module _ (text : List Declaration) (order : Order) where
  -- the stream class of a stream, without its events
  pub record IsHead (s : Stream) (h : StreamHead) : Type 0 where
    pub id : h.id ≡ s.id
    pub packet_context : scope_class text order (home_of_stream text s.block) PacketContext
        ≡ Some h.packet_context
    pub event_header : scope_class text order (home_of_stream text s.block) EventHeader
        ≡ Some h.event_header
    pub event_context : scope_class text order (home_of_stream text s.block) StreamEventContext
        ≡ Some h.event_context
    pub clock : h.clock ≡ first (clocks_moved text s.block)
    pub several : h.has_several ≡ has_other (clocks_moved text s.block)

  -- the event class of an event block, and its stream
  pub record IsEventAt (k : ℕ) (entries : List BlockEntry) (place : ℕ) (e : EventClass)
      : Type 0 where
    pub s : Stream
    pub stream : stream_of text entries ≡ Some s
    pub stands : slice_get (streams text) place ≡ Some s
    pub made : event_class text order k entries ≡ Some e

  abbrev pub Gives : ℕ × Declaration → Linked → Type 0
  Gives (k, d) (linked.Trace header) =
      (entries : List BlockEntry) × (trace_entries d ≡ Some entries)
      × (scope_class text order (record { trace = Some k; stream = None; event = None })
      PacketHeader
      ≡ Some header)
  Gives (k, d) (linked.Stream head) = (s : Stream) × (stream_by (k, d) ≡ Some s) × IsHead s head
  Gives (k, d) (linked.Event place e) =
      (entries : List BlockEntry) × (d ≡ Block Event entries) × IsEventAt k entries place e
  Gives (k, d) linked.Other =
      (trace_entries d ≡ None) × (stream_by (k, d) ≡ None)
      × ((entries : List BlockEntry) → d ≡ Block Event entries → ⊥)

  -- what a declaration without link faults gives
  pub record IsLinked (p : ℕ × Declaration) (l : Linked) : Type 0 where
    pub gives : Gives p l
    pub clean : link_faults text p ≡ []

  abbrev pub AreLinked : List (ℕ × Declaration) → List Linked → Type 0
  AreLinked [] [] = Unit {0}
  AreLinked (p ∷ ps) (l ∷ ls) = IsLinked p l × AreLinked ps ls
  AreLinked _ _ = ⊥
