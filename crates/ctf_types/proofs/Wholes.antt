-- The trace class from its streams.
use Rattle.std.proofs.Common.{◌≡◌, ℕ, List, [], ◌∷◌, map, Option, Some, None, refl, sym, ap, ◌∙◌, subst}
use Rattle.std.specs.Prelude.{filter_map, option_map, option_and_then, codes}
use Rattle.ctf_bits.specs.declared.number.Order.{Order}
use Rattle.ctf_class.specs.declared.route.Scope.TheVariants.{PacketHeader, PacketContext, EventHeader, StreamEventContext}
use Rattle.ctf_class.specs.declared.trace.EventClass.{EventClass}
use Rattle.ctf_meaning.specs.Written.{BlockEntry, Declaration}
use Rattle.ctf_meaning.specs.There.{first, all_there, ◌>>=◌}
use Rattle.ctf_meaning.specs.Settings.{trace_order_of}
use Rattle.ctf_meaning.specs.Blocks.{value_at, uuid_of}
use Rattle.ctf_meaning.specs.Streams.{Stream, numbered, streams, trace_of, home_of_stream, or_plain}
use Rattle.ctf_meaning.specs.Denotes.{scope_class, event_in, stream_class, trace_class, trace_entries, class_of_text, host_of}
use Rattle.ctf_types.specs.declared.linked.StreamHead.{StreamHead}
use Rattle.ctf_types.specs.declared.linked.Linked.{Linked}
use Rattle.ctf_types.specs.Resolved.{or_plain_head}
use Rattle.ctf_types.specs.Gathered.{joined, joined_all, header_of, IsHead, AreLinked}
use Rattle.ctf_types.proofs.Gathering.{AreHeads, header_is}

then_is : {A B : Type 0} (f : A → Option B) (o : Option A) (a : A) → o ≡ Some a → option_and_then f o ≡ f a
then_is f o a e = ap (option_and_then f) e

module _ (text : List Declaration) (order : Order) where
  abbrev pub AreEvents : List Stream → List (List EventClass) → Type 0
  AreEvents [] [] = Unit {0}
  AreEvents (s ∷ ss) (es ∷ ess) = (all_there (filter_map (event_in text order s.id) (numbered text)) ≡ Some es) × AreEvents ss ess
  AreEvents _ _ = ⊥

  pub or_plain_heads : (ss : List Stream) (hs : List StreamHead) → AreHeads text order ss hs → AreHeads text order (or_plain ss) (or_plain_head hs)
  or_plain_heads [] [] h = (record { id = refl; packet_context = refl; event_header = refl; event_context = refl; clock = refl; several = refl }, tt)
  or_plain_heads [] (x ∷ hs) h = absurd h
  or_plain_heads (s ∷ ss) [] h = absurd h
  or_plain_heads (s ∷ ss) (x ∷ hs) h = h

  pub stream_is : (s : Stream) (h : StreamHead) (es : List EventClass) → IsHead text order s h → all_there (filter_map (event_in text order s.id) (numbered text)) ≡ Some es →
      stream_class text order s ≡ Some (joined h es)
  stream_is s h es head events =
      then_is _ (scope_class text order (home_of_stream text s.block) PacketContext) h.packet_context head.packet_context
      ∙ then_is _ (scope_class text order (home_of_stream text s.block) EventHeader) h.event_header head.event_header
      ∙ then_is _ (scope_class text order (home_of_stream text s.block) StreamEventContext) h.event_context head.event_context
      ∙ then_is _ (all_there (filter_map (event_in text order s.id) (numbered text))) es events
      ∙ (λ j. Some (record { id = sym head.id j; packet_context = h.packet_context; event_header = h.event_header; event_context = h.event_context; clock = sym head.clock j; events = es }))

  pub streams_are : (ss : List Stream) (hs : List StreamHead) (ess : List (List EventClass)) → AreHeads text order ss hs → AreEvents ss ess →
      all_there (map (stream_class text order) ss) ≡ Some (joined_all hs ess)
  streams_are [] [] [] h e = refl
  streams_are [] [] (es ∷ ess) h e = absurd e
  streams_are [] (x ∷ hs) ess h e = absurd h
  streams_are (s ∷ ss) [] ess h e = absurd h
  streams_are (s ∷ ss) (x ∷ hs) [] h e = absurd e
  streams_are (s ∷ ss) (x ∷ hs) (es ∷ ess) h e =
      ap (λ o. all_there (o ∷ map (stream_class text order) ss)) (stream_is s x es h.0 e.0)
      ∙ ap (option_map (λ others. joined x es ∷ others)) (streams_are ss hs ess h.1 e.1)

  pub class_is : (entries : List BlockEntry) (n : ℕ) (rows : List Linked) (hs : List StreamHead) (ess : List (List EventClass)) →
      first (filter_map trace_entries text) ≡ Some entries → (value_at entries (codes "byte_order") >>= trace_order_of) ≡ Some order →
      trace_of text ≡ Some n → AreLinked text order (numbered text) rows →
      AreHeads text order (streams text) hs → AreEvents (streams text) ess →
      class_of_text text ≡ Some (record { uuid = option_and_then uuid_of (value_at entries (codes "uuid")); host = host_of text; packet_header = header_of rows; streams = joined_all hs ess })
  class_is entries n rows hs ess block ordered traced rowed heads events =
      then_is (trace_class text) (first (filter_map trace_entries text)) entries block
      ∙ then_is _ (value_at entries (codes "byte_order") >>= trace_order_of) order ordered
      ∙ then_is _ (scope_class text order (home_of_stream text None) PacketHeader) (header_of rows)
      (subst (λ t. scope_class text order (record { trace = t; stream = None; event = None }) PacketHeader ≡ Some (header_of rows)) (sym traced) (header_is text order (numbered text) rows n rowed traced))
      ∙ then_is _ (all_there (map (stream_class text order) (streams text))) (joined_all hs ess) (streams_are (streams text) hs ess heads events)
