-- Streams, and which events belong to them. (CTF 1.8.3, sections 5.1, 6.1 and 7.4.)
use Rattle.std.specs.Prelude.{ℕ, nat_eq, Bool, false, ◌&&◌, List, [], ◌∷◌, Option, Some, None, option_map, option_and_then, codes, find, filter_map}
use Rattle.std.specs.List.{enumerate_from}
use Rattle.std.specs.Option.{option_map_or}
use Rattle.tsdl_tree.specs.declared.tree.BlockKind.TheVariants.{Event}
use Rattle.ctf_meaning.specs.Written.{BlockEntry, Declaration, Block}
use Rattle.ctf_meaning.specs.There.{only}
use Rattle.ctf_meaning.specs.Settings.{count_of}
use Rattle.ctf_meaning.specs.Blocks.{value_at, id_of, is_trace, stream_id_of}
use Rattle.ctf_meaning.specs.Scopes.{Home}

-- A stream: the number of the declaration that is its block, where there is one, and its id.
pub record Stream : Type 0 where
  pub block : Option ℕ
  pub id : ℕ

-- A trace without a `stream` block has one stream, of id 0, with no classes in it (own).
abbrev pub or_plain : List Stream → List Stream
or_plain [] = record { block = None; id = 0 } ∷ []
or_plain (s ∷ more) = s ∷ more

abbrev pub stream_by : ℕ × Declaration → Option Stream
stream_by (k, d) = option_map (λ id. record { block = Some k; id = id }) (stream_id_of d)

-- the stream of this id, or the only one where none is said (own)
abbrev pub stream_said : List Stream → Option ℕ → Option Stream
stream_said ss said = option_map_or (λ id. find (λ s. nat_eq s.id id) ss) said (only ss)

module _ (text : List Declaration) where
  -- the declarations with their numbers
  abbrev pub numbered : List (ℕ × Declaration)
  numbered = enumerate_from 0 text

  -- the number of the trace block
  abbrev pub trace_of : Option ℕ
  trace_of = option_map (λ p. p.0) (find (λ p. is_trace p.1) numbered)

  -- the streams, in the order of the text
  abbrev pub streams : List Stream
  streams = or_plain (filter_map stream_by numbered)

  -- the stream that an event says by its `stream_id`
  abbrev pub stream_of : List BlockEntry → Option Stream
  stream_of entries =
      stream_said streams (option_and_then count_of (value_at entries (codes "stream_id")))

  abbrev pub is_in_stream : ℕ → List BlockEntry → Bool
  is_in_stream id entries = option_map_or (λ s. nat_eq s.id id) (stream_of entries) false

  -- an event of this id in this stream
  abbrev pub is_event : ℕ → ℕ → Declaration → Bool
  is_event stream id (Block Event entries) =
      is_in_stream stream entries && option_map_or (nat_eq id) (id_of entries) false
  is_event stream id _ = false

  -- The scopes of an event are those of the trace block, of its stream's block and its own; of an event of an unknown
  -- stream the trace's and its own alone (own).
  abbrev pub home_of_event : ℕ → List BlockEntry → Home
  home_of_event k entries = record {
    trace = trace_of;
    stream = option_and_then (λ s. s.block) (stream_of entries);
    event = Some k;
  }

  abbrev pub home_of_stream : Option ℕ → Home
  home_of_stream block = record { trace = trace_of; stream = block; event = None }
