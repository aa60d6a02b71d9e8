-- The declarations of a text from its beginning on: the names and the scopes' classes known so far, until a fault is
-- reported.
use Rattle.std.specs.Prelude.{ℕ, ◌+◌, nat_lt, List, [], ◌∷◌, ◌++◌, map, sum, flat_map, filter_map, find, Option, Ok, option_map}
use Rattle.std.specs.Option.{option_or}
use Rattle.tsdl_tree.specs.declared.tree.BlockKind.{BlockKind}
use Rattle.ctf_class.specs.declared.route.Scope.{Scope}
use Rattle.ctf_meaning.specs.declared.fault.ResolveFault.TheVariants.{TooDeep}
use Rattle.ctf_meaning.specs.Name.{Words, same_words}
use Rattle.ctf_meaning.specs.Written.{BlockEntry, Declaration, Assigned, Classed, Declared, Block, Table, Names}
use Rattle.ctf_meaning.specs.Parts.{own_name}
use Rattle.ctf_meaning.specs.Settings.{when, minus_faults}
use Rattle.ctf_meaning.specs.Shapes.{Shape, nodes_of}
use Rattle.ctf_meaning.specs.Blocks.{entry_name, own_scopes, block_faults, twice_faults}
use Rattle.ctf_meaning.specs.Scopes.{missing_scope, scope_faults}
use Rattle.ctf_meaning.specs.Faults.{most_nodes}
use Rattle.ctf_meaning_steps.specs.Told.{Told, ◌>>=◌, unless}
use Rattle.ctf_meaning_steps.specs.Seen.{Seen, nothing_seen, within, declare}
use Rattle.ctf_meaning_steps.specs.Items.{shape_told, item_told}

-- a class under its name in a block
abbrev pub NamedClass : Type 0
NamedClass = Words × Shape

-- the names and the classes of a block up to some entry
pub record Held : Type 0 where
  pub own : Seen
  pub classes : List NamedClass

abbrev pub entry_told : Seen → Held → BlockEntry → Told Held
entry_told outer held (Assigned setting) = unless (minus_faults (setting ∷ [])) (Ok held)
entry_told outer held (Classed words form) =
    shape_told (within held.own outer) form >>= λ shape.
    declare held.own shape (own_name form) >>= λ own.
    Ok (record { own = own; classes = held.classes ++ (words, shape) ∷ [] })
entry_told outer held (Declared item) =
    item_told outer held.own item >>= λ made. Ok (record { own = made.own; classes = held.classes })

abbrev pub entries_told : Seen → Held → List BlockEntry → Told Held
entries_told outer held [] = Ok held
entries_told outer held (e ∷ es) = entry_told outer held e >>= λ next. entries_told outer next es

-- a scope with its class
abbrev pub Placed : Type 0
Placed = Scope × Shape

-- the first class of this name
abbrev pub class_named : List NamedClass → Words → Option Shape
class_named classes name = option_map (λ p. p.1) (find (λ p. same_words p.0 name) classes)

abbrev pub placed_in : List NamedClass → Scope → Option Placed
placed_in classes scope =
    option_map (λ shape. (scope, shape))
    (option_or (class_named classes (entry_name scope)) (missing_scope scope))

-- the scopes that a block declares, in their order
abbrev pub placed : BlockKind → List NamedClass → List Placed
placed which classes = filter_map (placed_in classes) (own_scopes which)

-- What is known after some declarations: the names of the text, how many classes the scopes have, and the scopes of
-- each declaration.
pub record Walked : Type 0 where
  pub own : Seen
  pub nodes : ℕ
  pub rows : List (List Placed)

abbrev pub start : Walked
start = record { own = nothing_seen; nodes = 0; rows = [] }

-- a declaration that gives no class to a scope
abbrev pub plain_row : Walked → Seen → Walked
plain_row walked own = record { own = own; nodes = walked.nodes; rows = walked.rows ++ [] ∷ [] }

-- The scopes of a block: each class is a structure without floats, and they are not too many.
abbrev pub scopes_told : Walked → List Placed → Told Walked
scopes_told walked scopes =
    unless (flat_map (λ p. scope_faults p.1) scopes)
    (unless (when (nat_lt most_nodes (walked.nodes + sum (map (λ p. nodes_of p.1) scopes))) TooDeep)
    (Ok (record {
      own = walked.own;
      nodes = walked.nodes + sum (map (λ p. nodes_of p.1) scopes);
      rows = walked.rows ++ scopes ∷ [];
    })))

-- a declaration after others
abbrev pub declaration_told : List Declaration → Walked → Declaration → Told Walked
declaration_told before walked (Block which entries) =
    unless (block_faults (Block which entries))
    (unless (twice_faults before (Block which entries))
    (entries_told walked.own (record { own = nothing_seen; classes = [] }) entries >>= λ held.
    scopes_told walked (placed which held.classes)))
declaration_told before walked (Table kind settings) =
    unless (minus_faults settings)
    (unless (block_faults (Table kind settings))
    (unless (twice_faults before (Table kind settings))
    (Ok (plain_row walked walked.own))))
declaration_told before walked (Names item) =
    item_told nothing_seen walked.own item >>= λ made. Ok (plain_row walked made.own)

abbrev pub declarations_told : List Declaration → Walked → List Declaration → Told Walked
declarations_told before walked [] = Ok walked
declarations_told before walked (d ∷ ds) =
    declaration_told before walked d >>= λ next. declarations_told (before ++ d ∷ []) next ds

-- The whole text.
abbrev pub text_told : List Declaration → Told Walked
text_told text = declarations_told [] start text
