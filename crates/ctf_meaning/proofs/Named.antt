-- Each fault of a text is one by a rule: none is want of memory.
use Rattle.std.proofs.Common.{◌≡◌, ℕ, zero, suc, subst, Bool, true, false, ℤ, List, [], ◌∷◌, ◌++◌, map, Option, Some, None, arith}
use Rattle.std.specs.Prelude.{flat_map, slice_index_or, option_and_then, length, ◌<◌}
use Rattle.std.specs.Option.{option_map_or}
use Rattle.tsdl_tree.specs.declared.tree.BlockKind.{BlockKind}
use Rattle.tsdl_tree.specs.declared.tree.BlockKind.TheVariants.{Trace, Stream, Event}
use Rattle.tsdl_tree.specs.declared.tree.Container.{Container}
use Rattle.tsdl_tree.specs.declared.tree.Container.TheVariants as container
use Rattle.tsdl_tree.specs.declared.tree.Setting.{Setting}
use Rattle.tsdl_tree.specs.declared.tree.TableKind.TheVariants as table
use Rattle.tsdl_tree.specs.declared.tree.Value.{Value}
use Rattle.ctf_class.specs.declared.trace.Clock.{Clock}
use Rattle.ctf_meaning.specs.declared.fault.ResolveFault.{ResolveFault}
use Rattle.ctf_meaning.specs.declared.fault.ResolveFault.TheVariants.{NoMemory}
use Rattle.ctf_meaning.specs.Written.{BlockEntry, Declaration, Form, Integer, Float, String, Struct, Variant, Enum, Block, Table, Names}
use Rattle.ctf_meaning.specs.Written as written
use Rattle.ctf_meaning.specs.Reading as reading
use Rattle.ctf_meaning.specs.Blocks.{entry_faults, block_faults, twice_faults}
use Rattle.ctf_meaning.specs.Clocks.{clock_faults}
use Rattle.ctf_meaning.specs.Integers.{outside, integer_faults}
use Rattle.ctf_meaning.specs.Links.{Standing, path_faults, mapping_faults, link_faults_at}
use Rattle.ctf_meaning.specs.Names.{Entry}
use Rattle.ctf_meaning.specs.Own as own
use Rattle.ctf_meaning.specs.Own.{attribute_faults, align_faults, member_faults, class_faults, depth_faults, name_faults, part_faults, faults_within}
use Rattle.ctf_meaning.specs.Parts.{Place, Located}
use Rattle.ctf_meaning.specs.Paths.{Spot}
use Rattle.ctf_meaning.specs.Scopes.{Home, scope_faults}
use Rattle.ctf_meaning.specs.Settings.{when, wrong, string_faults, minus_faults}
use Rattle.ctf_meaning.specs.Shapes.{Shape, integer, float, string, enum, struct, variant, array, sequence}
use Rattle.ctf_meaning.specs.Laws.{FaultsAreNamed}
use Rattle.ctf_meaning.specs.Faults.{first_faults, own_faults, scope_links, event_links, link_faults, whole_faults, faults}
use Rattle.ctf_meaning.specs.Streams.{numbered, home_of_event, home_of_stream}
use Rattle.ctf_meaning.proofs.Lists.{Each, each_append, each_made}

abbrev IsNamed : ResolveFault → Type 0
IsNamed NoMemory = ⊥
IsNamed _ = Unit {0}

-- no fault of a list is want of memory
pub record Named (fs : List ResolveFault) : Type 0 where
  pub each : Each IsNamed fs

none : Named []
none = record { each = tt }

both : {fs gs : List ResolveFault} → Named fs → Named gs → Named (fs ++ gs)
both {fs} {gs} first second = record { each = each_append IsNamed fs gs first.each second.each }

one : (b : Bool) (f : ResolveFault) → IsNamed f → Named (when b f)
one true f h = record { each = (h, tt) }
one false f h = none

each_of : {X : Type 0} (f : X → List ResolveFault) → ((x : X) → Named (f x)) → (xs : List X) → Named (flat_map f xs)
each_of f h [] = none
each_of f h (x ∷ xs) = both (h x) (each_of f h xs)

there : {X : Type 0} (f : X → List ResolveFault) → ((x : X) → Named (f x)) → (o : Option X) → Named (option_map_or f o [])
there f h None = none
there f h (Some x) = h x

there_or : {X : Type 0} (f : X → List ResolveFault) → ((x : X) → Named (f x)) → (o : Option X) → {missing : List ResolveFault} → Named missing → Named (option_map_or f o missing)
there_or f h None other = other
there_or f h (Some x) other = h x

-- ---- settings

wrong_named : {A : Type 0} (read : Value → Option A) (value : Option Value) → Named (wrong read value)
wrong_named read value = there _ (λ v. one _ _ tt) value

outside_named : (fits : ℤ → Bool) (value : Option Value) → Named (outside fits value)
outside_named fits value = there _ (λ n. one _ _ tt) (option_and_then _ value)

integer_named : (settings : List Setting) → Named (integer_faults settings)
integer_named settings = search (both, one, each_of, there) depth 16

string_named : (settings : List Setting) → Named (string_faults settings)
string_named settings = search (none, both, one, each_of, there, there_or) depth 12

minus_named : (settings : List Setting) → Named (minus_faults settings)
minus_named settings = search (none, both, one, each_of, there, there_or)

clock_named : (settings : List Setting) → Named (clock_faults settings)
clock_named settings = search (none, both, one, each_of, there, there_or) depth 12

-- ---- classes

container_named : (c : Option Container) → Named (own.container_faults c)
container_named None = none
container_named (Some (container.Integer settings)) = integer_named settings
container_named (Some (container.Named name)) = none

attribute_named : (form : Form) → Named (attribute_faults form)
attribute_named (Integer settings) = integer_named settings
attribute_named (Float settings) = none
attribute_named (String settings) = string_named settings
attribute_named (Struct name items align) = none
attribute_named (Variant name tag items) = none
attribute_named (Enum name c ls) = container_named c
attribute_named (written.Named name tag) = none

label_named : (form : Form) → Named (own.label_faults form)
label_named (Integer settings) = none
label_named (Float settings) = none
label_named (String settings) = none
label_named (Struct name items align) = none
label_named (Variant name tag items) = none
label_named (Enum name c ls) = search (none, both, one, each_of, there, there_or)
label_named (written.Named name tag) = none

align_named : (form : Form) → Named (align_faults form)
align_named (Integer settings) = none
align_named (Float settings) = none
align_named (String settings) = none
align_named (Struct name items align) = search (none, both, one, each_of, there, there_or)
align_named (Variant name tag items) = none
align_named (Enum name c ls) = none
align_named (written.Named name tag) = none

module _ (entries : List Entry) where
  class_named : (at : Place) (form : Form) → Named (class_faults entries at form)
  class_named at form = search (both, one, there, attribute_named, label_named, align_named) depth 12

  part_named : (part : Located) → Named (part_faults entries part)
  part_named (at, part) = search (both, one, there, class_named) depth 12

  within_named : (number : ℕ) (d : Declaration) → Named (faults_within entries number d)
  within_named number d = search (each_of, part_named)

-- ---- blocks

entry_named : (which : BlockKind) (entries : List BlockEntry) → Named (entry_faults which entries)
entry_named which entries = search (none, both, one, each_of, there, there_or) depth 12

block_named : (d : Declaration) → Named (block_faults d)
block_named (Block Trace entries) = search (both, one, there, entry_named) depth 12
block_named (Block Stream entries) = search (both, one, there, entry_named) depth 12
block_named (Block Event entries) = search (both, one, there, entry_named) depth 12
block_named (Table table.Clock settings) = clock_named settings
block_named (Table table.Env settings) = none
block_named (Table table.Callsite settings) = none
block_named (Names item) = none

twice_named : (before : List Declaration) (d : Declaration) → Named (twice_faults before d)
twice_named before (Block Trace entries) = search (none, both, one, each_of, there, there_or)
twice_named before (Block Stream entries) = search (none, both, one, each_of, there, there_or)
twice_named before (Block Event entries) = none
twice_named before (Table table.Clock settings) = search (none, both, one, each_of, there, there_or)
twice_named before (Table table.Env settings) = none
twice_named before (Table table.Callsite settings) = none
twice_named before (Names item) = none

scope_named : (shape : Shape) → Named (scope_faults shape)
scope_named shape = search (none, both, one, each_of, there, there_or)

-- ---- links

path_named : (p : Standing) → Named (path_faults p)
path_named (spot, integer i) = none
path_named (spot, float) = none
path_named (spot, string) = none
path_named (spot, enum i ls) = none
path_named (spot, struct align members) = none
path_named (spot, variant tag options) = search (none, both, one, each_of, there, there_or)
path_named (spot, array count element) = none
path_named (spot, sequence path element) = search (none, both, one, each_of, there, there_or)

mapping_named : (clocks : List Clock) (p : Standing) → Named (mapping_faults clocks p)
mapping_named clocks (spot, shape) = search (none, both, one, each_of, there, there_or)

link_named : (clocks : List Clock) (spot : Spot) (shape : Shape) → Named (link_faults_at clocks spot shape)
link_named clocks spot shape = search (both, each_of, path_named, mapping_named)

-- ---- the text

module _ (text : List Declaration) where
  own_named : (p : ℕ × Declaration) → Named (own_faults text p)
  own_named (k, d) = search (both, one, each_of, within_named, block_named, twice_named, scope_named) depth 12

  links_named : (home : Home) (which : BlockKind) → Named (scope_links text home which)
  links_named home which = search (each_of, there, link_named)

  event_named : (k : ℕ) (entries : List BlockEntry) → Named (event_links text k entries)
  event_named k entries = search (none, one, there, there_or)

  link_faults_named : (p : ℕ × Declaration) → Named (link_faults text p)
  link_faults_named (k, Block Trace entries) = links_named (record { trace = Some k; stream = None; event = None }) Trace
  link_faults_named (k, Block Stream entries) = links_named (home_of_stream text (Some k)) Stream
  link_faults_named (k, Block Event entries) = both (event_named k entries) (links_named (home_of_event text k entries) Event)
  link_faults_named (k, Table kind settings) = none
  link_faults_named (k, Names item) = none

  whole_named : Named (whole_faults text)
  whole_named = search (both, one, each_of)

  -- the first group with faults
  first_named : (groups : List (List ResolveFault)) → Each Named groups → Named (first_faults groups)
  first_named [] h = none
  first_named ([] ∷ more) h = first_named more h.1
  first_named ((f ∷ fs) ∷ more) h = h.0

  faults_named : Named (faults text)
  faults_named = first_named _ (each_append Named (map (own_faults text) (numbered text) ++ map (link_faults text) (numbered text)) (whole_faults text ∷ [])
      (each_append Named (map (own_faults text) (numbered text)) (map (link_faults text) (numbered text)) (each_made Named (own_faults text) own_named (numbered text)) (each_made Named (link_faults text) link_faults_named (numbered text)))
      (whole_named, tt))

-- ---- what is reported

none_is_at : (fs : List ResolveFault) → Each IsNamed fs → (k : ℕ) → k < length fs → slice_index_or fs k NoMemory ≡ NoMemory → ⊥
none_is_at [] h k less e = absurd (omega arith)
none_is_at (f ∷ fs) h zero less e = subst IsNamed e h.0
none_is_at (f ∷ fs) h (suc k) less e = none_is_at fs h.1 k (omega arith) e

pub faults_are_named : FaultsAreNamed
faults_are_named tree told = none_is_at (faults (reading.written tree)) (faults_named (reading.written tree)).each told.0 told.1 told.2
