-- What the code keeps of the declarations that it has gone through.
use Rattle.std.specs.Prelude.{◌≡◌, ◌⊎◌, ℕ, nat_eq, List, [], map, filter_map, Result, Ok, Err}
use Rattle.std.specs.List.{list_any}
use Rattle.std.specs.Ordering.{nat_cmp}
use Rattle.std.specs.Cmp.Lexicographic.{slice_cmp}
use Rattle.std.specs.BTreeSet.{contains, contains_by}
use Rattle.tsdl_tree.specs.declared.tree.BlockKind.{BlockKind}
use Rattle.ctf_meaning.specs.declared.fault.ResolveFault.{ResolveFault}
use Rattle.ctf_meaning.specs.declared.fault.ResolveFault.TheVariants.{NoMemory}
use Rattle.ctf_meaning.specs.Name.{Word, same_word}
use Rattle.ctf_meaning.specs.Written.{BlockEntry, Declaration}
use Rattle.ctf_meaning.specs.Blocks.{is_trace, stream_id_of, clocks_of}
use Rattle.ctf_meaning_steps.specs.Told.{Told, ◌>>=◌}
use Rattle.ctf_meaning_steps.specs.Seen.{Seen, nothing_seen}
use Rattle.ctf_meaning_steps.specs.Blocks.{NamedClass, Held, Placed, Walked, entries_told, placed}
use Rattle.ctf_declared_class.specs.Knowns.{known}
use Rattle.ctf_declarations.specs.Views.{names_in}
use Rattle.ctf_declarations.specs.declared.visible.BlockNames.{BlockNames}
use Rattle.ctf_declarations.specs.declared.entries.NamedClass.{NamedClass as CodeClass}
use Rattle.ctf_declarations.specs.declared.placing.ScopeShape.{ScopeShape}
use Rattle.ctf_declarations.specs.declared.so_far.DeclaredSoFar.{DeclaredSoFar}
use Rattle.ctf_declarations.specs.declared.declared_once.DeclaredOnce.{DeclaredOnce}

-- a class under its name in a block
abbrev pub named_class : CodeClass → NamedClass
named_class c = (c.name.now, known c.class)

-- the names and the classes of a block
abbrev pub held : BlockNames → List CodeClass → Held
held names classes = record { own = names_in names; classes = map named_class classes }

-- the classes of a block, after some entries and then others
abbrev pub from_held : Seen → Held → List BlockEntry → Told (List NamedClass)
from_held outer before entries = entries_told outer before entries >>= λ after. Ok after.classes

-- the classes of a block
abbrev pub classes_told : Seen → List BlockEntry → Told (List NamedClass)
classes_told outer entries = from_held outer (record { own = nothing_seen; classes = [] }) entries

-- a scope with its class
abbrev pub placed_seen : ScopeShape → Placed
placed_seen s = (s.scope, known s.shape)

-- what is known after some declarations
abbrev pub walked : DeclaredSoFar → Walked
walked c = record {
  own = names_in c.names;
  nodes = c.nodes;
  rows = map (map placed_seen) c.rows.items;
}

-- of the declarations before: whether one is a trace, which ids the streams have, and which names the clocks
pub record Remembers (earlier : DeclaredOnce) (before : List Declaration) : Type 0 where
  pub traces : earlier.has_trace ≡ list_any is_trace before
  pub streams : (id : ℕ)
      → contains nat_cmp earlier.streams id ≡ list_any (nat_eq id) (filter_map stream_id_of before)
  pub clocks : (name : Word)
      → contains_by (λ k. slice_cmp nat_cmp name k.items) earlier.clocks
      ≡ list_any (λ c. same_word c.name name) (clocks_of before)

-- the scopes of a block, by the names of the text before it
abbrev pub row_told : Seen → BlockKind → List BlockEntry → Told (List Placed)
row_told outer which entries = classes_told outer entries >>= λ classes. Ok (placed which classes)

-- The scopes of each declaration, or the fault that is reported, unless an allocation failed.
abbrev pub FindsRows : Told Walked → Result (List (List ScopeShape)) ResolveFault → Type 0
FindsRows told (Ok rows) = (w : Walked) × (told ≡ Ok w) × (map (map placed_seen) rows ≡ w.rows)
FindsRows told (Err fault) = (fault ≡ NoMemory) ⊎ (told ≡ Err fault)
