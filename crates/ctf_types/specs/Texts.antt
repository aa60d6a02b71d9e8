-- What is known of a text before its classes are linked.
use Rattle.std.specs.Prelude.{◌≡◌, ℕ, false, List, [], map, slice_get, Option, Some, option_copied}
use Rattle.std.specs.Option.{option_map_or}
use Rattle.ctf_bits.specs.declared.number.Order.{Order}
use Rattle.ctf_class.specs.declared.class.Class.{Class}
use Rattle.ctf_meaning.specs.declared.fault.ResolveFault.{ResolveFault}
use Rattle.ctf_meaning.specs.Links.{link_faults_at, moved_clocks}
use Rattle.ctf_meaning.specs.Denotes.{scope_class, host_of}
use Rattle.ctf_class.specs.declared.route.Scope.{Scope}
use Rattle.ctf_class.specs.declared.trace.Clock.{Clock}
use Rattle.tsdl_tree.specs.declared.tree.BlockKind.TheVariants.{Event}
use Rattle.ctf_class.specs.declared.route.Scope.TheVariants.{EventFields}
use Rattle.ctf_meaning.specs.Written.{BlockEntry, Declaration, Block}
use Rattle.ctf_meaning.specs.Blocks.{clocks_of}
use Rattle.ctf_meaning.specs.Scopes as meaning
use Rattle.ctf_meaning.specs.Scopes.{scope_at, scope_of, spot_of}
use Rattle.ctf_meaning.specs.Shapes.{Shape, has_float}
use Rattle.ctf_meaning.specs.Streams.{streams, trace_of}
use Rattle.ctf_meaning.specs.Laws.{HasNoOwnFault}
use Rattle.ctf_meaning_steps.specs.Laws.{class_in_row}
use Rattle.ctf_declarations.specs.DeclaredSoFar.{placed_seen}
use Rattle.ctf_types.specs.Whole.{AreSettled, ArePlaced, stream_at}
use Rattle.ctf_types.specs.declared.home.Home.{Home}
use Rattle.ctf_types.specs.declared.text.KnownText.{KnownText}

abbrev pub home_by : Home → meaning.Home
home_by home = record { trace = home.trace; stream = home.stream; event = home.event }

-- the text is the one whose declarations were gone through
pub record IsText (text : List Declaration) (known : KnownText) : Type 0 where
  pub own : HasNoOwnFault text
  pub scopes : (k : ℕ) (scope : Scope)
      → scope_at text k scope ≡ class_in_row (map (map placed_seen) known.rows.now) k scope
  pub clocks : known.clocks.now.clocks.now ≡ clocks_of text
  pub streams : map stream_at known.streams.now ≡ streams text
  pub places : ArePlaced known.streams.now
  pub solid : (home : meaning.Home) (scope : Scope) (shape : Shape)
      → scope_of text home scope ≡ Some shape → has_float shape ≡ false
  pub trace : known.trace ≡ trace_of text
  pub host : option_copied known.host ≡ host_of text
  pub settled : AreSettled text
  pub fields : (k : ℕ) (entries : List BlockEntry) → slice_get text k ≡ Some (Block Event entries)
      → (shape : Shape) × (scope_at text k EventFields ≡ Some shape)

-- the faults of a scope's class at its place
abbrev pub scope_fails : List Declaration → meaning.Home → Scope → List ResolveFault
scope_fails text home scope =
    option_map_or (link_faults_at (clocks_of text) (spot_of text home scope))
    (scope_of text home scope) []

-- the class of a scope, in which nothing fails
pub record IsScopeLinked (text : List Declaration) (order : Order) (home : meaning.Home)
    (scope : Scope) (c : Option Class) : Type 0 where
  pub clean : scope_fails text home scope ≡ []
  pub made : scope_class text order home scope ≡ Some c

-- the clocks that the integers of a scope's class set
abbrev pub scope_moves : List Declaration → meaning.Home → Scope → List Clock
scope_moves text home scope =
    option_map_or (moved_clocks (clocks_of text) (spot_of text home scope))
    (scope_of text home scope) []
