-- What is known of a text of which no declaration has an own fault, before its classes are linked.
use Rattle.std.specs.Prelude.{◌≡◌, ℕ, ◌+◌, List, [], ◌∷◌, Option, Some, None, slice_get, filter_map}
use Rattle.ctf_meaning.specs.Written.{BlockEntry, Declaration}
use Rattle.ctf_meaning.specs.There.{first}
use Rattle.ctf_meaning.specs.Blocks.{block_faults}
use Rattle.ctf_meaning.specs.Streams.{Stream, trace_of}
use Rattle.ctf_meaning.specs.Denotes.{trace_entries}
use Rattle.ctf_attributes.specs.declared.trace.TraceSettings.{TraceSettings}
use Rattle.ctf_attributes.specs.Settled.{IsTrace}
use Rattle.ctf_types.specs.declared.streams.StreamAt.{StreamAt}
use Rattle.ctf_types.specs.declared.trace.TraceAt.{TraceAt}

-- nothing is wrong with the settings of a declaration
abbrev pub IsSettled : Declaration → Type 0
IsSettled d = block_faults d ≡ []

abbrev pub AreSettled : List Declaration → Type 0
AreSettled text = (k : ℕ) (d : Declaration) → slice_get text k ≡ Some d → IsSettled d

-- a stream, with the number of its block
abbrev pub stream_at : StreamAt → Stream
stream_at stream = record { block = stream.block; id = stream.id }

-- a trace block with its settings, or another declaration
abbrev pub IsTraceBlock : Declaration → Option TraceSettings → Type 0
IsTraceBlock d None = trace_entries d ≡ None
IsTraceBlock d (Some trace) =
    (entries : List BlockEntry) × (trace_entries d ≡ Some entries) × IsTrace entries trace

-- the first trace block of a text, where there is one
abbrev pub IsTraceOf : List Declaration → Option TraceAt → Type 0
IsTraceOf text None = trace_of text ≡ None
IsTraceOf text (Some trace) = (entries : List BlockEntry) ×
    (trace_of text ≡ Some trace.number) × (first (filter_map trace_entries text) ≡ Some entries)
    × IsTrace entries trace.settings

-- each stream keeps its place
abbrev pub PlacedFrom : ℕ → List StreamAt → Type 0
PlacedFrom n [] = Unit {0}
PlacedFrom n (s ∷ ss) = (s.place ≡ n) × PlacedFrom (n + 1) ss

abbrev pub ArePlaced : List StreamAt → Type 0
ArePlaced streams = PlacedFrom 0 streams
