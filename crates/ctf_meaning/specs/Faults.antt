-- The faults of a text, and of which of them one is reported (own).
use Rattle.std.specs.Prelude.{ℕ, Bool, false, not, List, [], ◌∷◌, ◌++◌, map, take, Option, Some, None, is_none, flat_map}
use Rattle.std.specs.List.{list_any}
use Rattle.std.specs.Option.{option_map_or}
use Rattle.tsdl_tree.specs.declared.tree.BlockKind.{BlockKind}
use Rattle.tsdl_tree.specs.declared.tree.BlockKind.TheVariants.{Trace, Stream, Event}
use Rattle.ctf_class.specs.declared.trace.Clock.{Clock}
use Rattle.ctf_meaning.specs.declared.fault.ResolveFault.{ResolveFault}
use Rattle.ctf_meaning.specs.declared.fault.ResolveFault.TheVariants.{Attribute, Clock as SeveralClocks, Twice}
use Rattle.ctf_meaning.specs.Name.{same_word}
use Rattle.ctf_meaning.specs.Written.{BlockEntry, Declaration, Block}
use Rattle.ctf_meaning.specs.Settings.{when}
use Rattle.ctf_meaning.specs.Names.{entries_in}
use Rattle.ctf_meaning.specs.Own.{faults_within}
use Rattle.ctf_meaning.specs.Links.{link_faults_at, moved_clocks}
use Rattle.ctf_meaning.specs.Blocks.{own_scopes, id_of, block_faults, twice_faults, clocks_of}
use Rattle.ctf_meaning.specs.Scopes.{Home, scope_faults, classes_at, node_faults, scope_of, spot_of}
use Rattle.ctf_meaning.specs.Streams.{numbered, trace_of, streams, stream_of, is_event, home_of_event, home_of_stream}

-- how many classes the scopes of a trace may have
abbrev pub most_nodes : ℕ
most_nodes = 1048576

-- a clock of another name than the first
abbrev pub has_other : List Clock → Bool
has_other [] = false
has_other (clock ∷ more) = list_any (λ c. not (same_word c.name clock.name)) more

-- A group counts only where those before it have no fault.
abbrev pub first_faults : List (List ResolveFault) → List ResolveFault
first_faults [] = []
first_faults ([] ∷ more) = first_faults more
first_faults ((f ∷ fs) ∷ more) = f ∷ fs

module _ (text : List Declaration) where
  -- The own faults of a declaration are those that it has by itself and by what is before it.
  abbrev pub own_faults : ℕ × Declaration → List ResolveFault
  own_faults (k, d) =
      faults_within (entries_in text) k d
      ++ block_faults d
      ++ twice_faults (take k text) d
      ++ flat_map scope_faults (classes_at text k d)
      ++ node_faults text most_nodes k

  -- the faults of a block's scopes at their places: lengths, tags and mappings
  abbrev pub scope_links : Home → BlockKind → List ResolveFault
  scope_links home which =
      flat_map
      (λ scope.
      option_map_or (link_faults_at (clocks_of text) (spot_of text home scope))
      (scope_of text home scope) [])
      (own_scopes which)

  -- An event's stream is unknown: R3. An earlier event of the stream has its id: R8.
  abbrev pub event_links : ℕ → List BlockEntry → List ResolveFault
  event_links k entries = option_map_or
      (λ s.
      option_map_or (λ id. when (list_any (is_event text s.id id) (take k text)) Twice)
      (id_of entries) [])
      (stream_of text entries)
      (Attribute ∷ [])

  -- The link faults of a declaration are those that it has by what is elsewhere, in any order.
  abbrev pub link_faults : ℕ × Declaration → List ResolveFault
  link_faults (k, Block Trace entries) =
      scope_links (record { trace = Some k; stream = None; event = None }) Trace
  link_faults (k, Block Stream entries) = scope_links (home_of_stream text (Some k)) Stream
  link_faults (k, Block Event entries) =
      event_links k entries ++ scope_links (home_of_event text k entries) Event
  link_faults _ = []

  -- the clocks that the integers of a stream's classes set
  abbrev pub clocks_moved : Option ℕ → List Clock
  clocks_moved block = flat_map
      (λ scope.
      option_map_or
      (moved_clocks (clocks_of text) (spot_of text (home_of_stream text block) scope))
      (scope_of text (home_of_stream text block) scope) [])
      (own_scopes Stream)

  -- The faults of the whole trace: no `trace` block, R3; several clocks that the integers of a stream set, R7.
  abbrev pub whole_faults : List ResolveFault
  whole_faults =
      when (is_none (trace_of text)) Attribute
      ++ flat_map (λ s. when (has_other (clocks_moved s.block)) SeveralClocks) (streams text)

  -- The faults of which one is reported: of the first declaration with an own fault; else of the first with a link
  -- fault; else of the whole.
  abbrev pub faults : List ResolveFault
  faults =
      first_faults (map own_faults (numbered text) ++ map link_faults (numbered text)
      ++ whole_faults ∷ [])
