-- What the syntax tree of a metadata text means: the trace class that it denotes, or the faults by which it denotes
-- none. (CTF 1.8.3, sections 4 to 8.)
use Rattle.std.specs.Prelude.{◌≡◌, ℕ, List, [], map, reverse, Option, Some, None, option_and_then, codes, find, if◌then◌else◌, filter_map, flat_map, Contains}
use Rattle.tsdl_tree.specs.declared.tree.Tree.{Tree}
use Rattle.tsdl_tree.specs.declared.tree.BlockKind.TheVariants.{Trace, Event}
use Rattle.tsdl_tree.specs.declared.tree.TableKind.TheVariants as table
use Rattle.tsdl_tree.specs.declared.tree.Setting.{Setting}
use Rattle.tsdl_tree.specs.declared.tree.Value.{Value}
use Rattle.tsdl_tree.specs.declared.tree.Value.TheVariants.{Text}
use Rattle.ctf_bits.specs.declared.number.Order.{Order}
use Rattle.ctf_class.specs.declared.class.Class.{Class}
use Rattle.ctf_class.specs.declared.route.Scope.{Scope}
use Rattle.ctf_class.specs.declared.route.Scope.TheVariants.{PacketHeader, PacketContext, EventHeader, StreamEventContext, EventContext, EventFields}
use Rattle.ctf_class.specs.declared.trace.EventClass.{EventClass}
use Rattle.ctf_class.specs.Streams.{StreamClass}
use Rattle.ctf_class.specs.declared.trace.TraceClass.{TraceClass}
use Rattle.ctf_meaning.specs.declared.fault.ResolveFault.{ResolveFault}
use Rattle.ctf_meaning.specs.Name.{Word, same_words}
use Rattle.ctf_meaning.specs.Written.{BlockEntry, Declaration, Block, Table}
use Rattle.ctf_meaning.specs.Reading.{written}
use Rattle.ctf_meaning.specs.There.{◌>>=◌, all_there, if_there, first}
use Rattle.ctf_meaning.specs.Settings.{one, text_of, trace_order_of}
use Rattle.ctf_meaning.specs.Links.{class_at}
use Rattle.ctf_meaning.specs.Blocks.{value_at, uuid_of, id_of, clocks_of}
use Rattle.ctf_meaning.specs.Scopes.{Home, scope_of, spot_of}
use Rattle.ctf_meaning.specs.Streams.{Stream, numbered, streams, is_in_stream, home_of_event, home_of_stream}
use Rattle.ctf_meaning.specs.Faults.{faults, clocks_moved}

-- Of several environments, and of several entries of one name in them, the last counts (own).
abbrev pub environment_by : Declaration → List Setting
environment_by (Table table.Env settings) = settings
environment_by _ = []

-- The host is the `hostname` entry where that is a string (own).
abbrev pub string_of : Value → Option Word
string_of (Text bytes) = Some bytes
string_of _ = None

abbrev pub host_of : List Declaration → Option Word
host_of text = do
  setting ←
      find (λ s. same_words s.name (one (codes "hostname")))
      (reverse (flat_map environment_by text))
  string_of setting.value

abbrev pub trace_entries : Declaration → Option (List BlockEntry)
trace_entries (Block Trace entries) = Some entries
trace_entries _ = None

module _ (text : List Declaration) where
  -- what a scope's class is at its place, if the scope is declared
  abbrev pub scope_class : Order → Home → Scope → Option (Option Class)
  scope_class order home scope =
      if_there (class_at order (clocks_of text) (spot_of text home scope))
      (scope_of text home scope)

  abbrev pub event_class : Order → ℕ → List BlockEntry → Option EventClass
  event_class order k entries = do
    id ← id_of entries
    name ← value_at entries (codes "name") >>= text_of
    context ← scope_class order (home_of_event text k entries) EventContext
    fields ← scope_class order (home_of_event text k entries) EventFields >>= λ c. c
    Some (record {
      id = id;
      heading = record { host = host_of text; name = name };
      context = context;
      fields = fields;
    })

  -- the event class of a declaration that is an event of this stream
  abbrev pub event_in : Order → ℕ → ℕ × Declaration → Option (Option EventClass)
  event_in order stream (k, Block Event entries) =
      if is_in_stream text stream entries then Some (event_class order k entries) else None
  event_in order stream _ = None

  -- A stream class has its events in the order of the text, and the clock that its integers set.
  abbrev pub stream_class : Order → Stream → Option StreamClass
  stream_class order stream = do
    packet_context ← scope_class order (home_of_stream text stream.block) PacketContext
    event_header ← scope_class order (home_of_stream text stream.block) EventHeader
    event_context ← scope_class order (home_of_stream text stream.block) StreamEventContext
    events ← all_there (filter_map (event_in order stream.id) (numbered text))
    Some (record {
      id = stream.id;
      packet_context = packet_context;
      event_header = event_header;
      event_context = event_context;
      clock = first (clocks_moved text stream.block);
      events = events;
    })

  abbrev pub trace_class : List BlockEntry → Option TraceClass
  trace_class entries = do
    order ← value_at entries (codes "byte_order") >>= trace_order_of
    packet_header ← scope_class order (home_of_stream text None) PacketHeader
    streams ← all_there (map (stream_class order) (streams text))
    Some (record {
      uuid = option_and_then uuid_of (value_at entries (codes "uuid"));
      host = host_of text;
      packet_header = packet_header;
      streams = streams;
    })

  -- The trace class of the first trace block. None of its classes, streams and events is left out.
  abbrev pub class_of_text : Option TraceClass
  class_of_text = first (filter_map trace_entries text) >>= trace_class

-- The text denotes the trace class: there is no fault, and each class is what its declaration means at its place.
abbrev pub Denotes : Tree → TraceClass → Type 0
Denotes tree t = (faults (written tree) ≡ []) × (class_of_text (written tree) ≡ Some t)

-- The fault is one of those of which one is reported.
abbrev pub Faulty : Tree → ResolveFault → Type 0
Faulty tree fault = Contains (faults (written tree)) fault
