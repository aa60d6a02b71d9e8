-- The classes that the blocks of a text declare for the scopes of packets and events. (CTF 1.8.3, sections 5, 6 and
-- 7.4.)
use Rattle.std.specs.Prelude.{ℕ, suc, nat_lt, Bool, true, false, ◌&&◌, not, if◌then◌else◌, List, [], ◌∷◌, ◌++◌, map, take, sum, slice_get, Option, Some, None, option_and_then, filter_map, flat_map, reverse}
use Rattle.std.specs.List.{range_with_len}
use Rattle.std.specs.Option.{option_map_or}
use Rattle.tsdl_tree.specs.declared.tree.BlockKind.{BlockKind}
use Rattle.tsdl_tree.specs.declared.tree.BlockKind.TheVariants.{Trace, Stream, Event}
use Rattle.ctf_class.specs.declared.route.Scope.{Scope}
use Rattle.ctf_class.specs.declared.route.Scope.TheVariants.{EventFields}
use Rattle.ctf_meaning.specs.declared.fault.ResolveFault.{ResolveFault}
use Rattle.ctf_meaning.specs.declared.fault.ResolveFault.TheVariants.{Attribute, FloatingPoint, TooDeep}
use Rattle.ctf_meaning.specs.Written.{Declaration, Block}
use Rattle.ctf_meaning.specs.Settings.{when}
use Rattle.ctf_meaning.specs.Shapes.{Shape, struct, no_member, fields_in, nodes_of, has_float}
use Rattle.ctf_meaning.specs.Names.{entries_in, shape_of}
use Rattle.ctf_meaning.specs.Paths.{Spot, Frame, rank, scopes}
use Rattle.ctf_meaning.specs.Blocks.{same_kind, block_of, entry_name, classes_in, class_entries, class_entry}

-- Event fields that are not declared are an empty structure (own).
abbrev pub missing_scope : Scope → Option Shape
missing_scope EventFields = Some (struct 1 no_member)
missing_scope _ = None

abbrev pub is_structure : Shape → Bool
is_structure (struct align members) = true
is_structure _ = false

-- The class of a scope is a structure, else R3. A float somewhere in it: R4 (own).
abbrev pub scope_faults : Shape → List ResolveFault
scope_faults shape =
    when (not (is_structure shape)) Attribute ++ when (has_float shape) FloatingPoint

-- where the scopes around a class are declared: by which trace, stream and event block, where there is one
pub record Home : Type 0 where
  pub trace : Option ℕ
  pub stream : Option ℕ
  pub event : Option ℕ

abbrev pub in_home : Home → BlockKind → Option ℕ
in_home home Trace = home.trace
in_home home Stream = home.stream
in_home home Event = home.event

abbrev pub frame_by : Scope → Shape → Option Frame
frame_by scope (struct align members) = Some (record {
  scope = scope;
  name = Some [];
  fields = fields_in members;
})
frame_by scope _ = None

module _ (text : List Declaration) where
  -- the class of a scope by a declaration with its number, None where it declares none
  abbrev pub scope_by : ℕ → Scope → Declaration → Option Shape
  scope_by k scope (Block which entries) = if same_kind which (block_of scope)
      then option_map_or (λ p. shape_of (entries_in text) (p.0 ∷ k ∷ []) p.1)
      (class_entry entries (entry_name scope)) (missing_scope scope)
      else None
  scope_by k scope _ = None

  abbrev pub scope_at : ℕ → Scope → Option Shape
  scope_at k scope = option_and_then (scope_by k scope) (slice_get text k)

  -- the classes that a declaration gives to scopes, all of them where it gives several to one (own)
  abbrev pub classes_at : ℕ → Declaration → List Shape
  classes_at k (Block which entries) =
      filter_map (λ p. shape_of (entries_in text) (p.0 ∷ k ∷ []) p.1)
      (flat_map (class_entries entries) (classes_in which))
  classes_at k _ = []

  -- how many classes the scopes of the first k declarations have
  abbrev pub nodes_before : ℕ → ℕ
  nodes_before k =
      sum (map nodes_of (flat_map (λ j. filter_map (scope_at j) scopes) (range_with_len 0 k)))

  -- The block with which that sum passes a limit: R9 (own).
  abbrev pub node_faults : ℕ → ℕ → List ResolveFault
  node_faults limit k =
      when (not (nat_lt limit (nodes_before k)) && nat_lt limit (nodes_before (suc k))) TooDeep

  -- The class of a scope, by the blocks that declare it. Blocks are in any order.
  abbrev pub scope_of : Home → Scope → Option Shape
  scope_of home scope = option_and_then (λ k. scope_at k scope) (in_home home (block_of scope))

  -- the scopes before a scope, the nearest first
  abbrev pub frames_before : Home → Scope → List Frame
  frames_before home scope =
      filter_map (λ s. option_and_then (frame_by s) (scope_of home s))
      (reverse (take (rank scope) scopes))

  -- the spot of a scope's class, after the scopes before it
  abbrev pub spot_of : Home → Scope → Spot
  spot_of home scope = record {
    scope = scope;
    around = [];
    before = frames_before home scope;
    member = None;
    is_top = false;
    name = Some [];
  }
