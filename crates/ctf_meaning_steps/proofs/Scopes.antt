-- The classes of a block's scopes, by the classes under the names of its entries.
use Rattle.std.proofs.Common.{◌≡◌, ℕ, ◌+◌, ◌≤◌, nat_lt, nat_eq, Bool, true, false, ◌||◌, cond, if◌then◌else◌, List, [], ◌∷◌, ◌++◌, map, length, Option, Some, None, refl, ap, ap₂, sym, ◌∙◌, append-nil, find, filter, filter_map, flat_map, option_map, sum, arith}
use Rattle.std.specs.List.{enumerate_from, cons_option}
use Rattle.std.specs.Option.{option_or, option_map_or}
use Rattle.std.proofs.lemmas.Grind.{flat_map-append}
use Rattle.std.proofs.lemmas.List.Elements.{filter_map-append}
use Rattle.tsdl_tree.specs.declared.tree.BlockKind.{BlockKind}
use Rattle.tsdl_tree.specs.declared.tree.BlockKind.TheVariants.{Trace, Stream, Event}
use Rattle.ctf_class.specs.declared.route.Scope.{Scope}
use Rattle.ctf_class.specs.declared.route.Scope.TheVariants.{PacketHeader, PacketContext, EventHeader, StreamEventContext, EventContext, EventFields}
use Rattle.ctf_meaning.specs.declared.fault.ResolveFault.TheVariants.{Attribute}
use Rattle.ctf_meaning.specs.Name.{Words, same_words}
use Rattle.ctf_meaning.specs.Written.{Form, BlockEntry, Declaration, Assigned, Classed, Declared, Block}
use Rattle.ctf_meaning.specs.Parts.{Place}
use Rattle.ctf_meaning.specs.Settings.{when}
use Rattle.ctf_meaning.specs.There.{first}
use Rattle.ctf_meaning.specs.Shapes.{Shape, nodes_of}
use Rattle.ctf_meaning.specs.Names.{Entry, shape_of, entries_in}
use Rattle.ctf_meaning.specs.Paths.{rank, scopes}
use Rattle.ctf_meaning.specs.Blocks.{same_kind, block_of, entry_name, own_scopes, is_value_of, is_class_of, stands_twice, class_by, class_entries}
use Rattle.ctf_meaning.specs.Scopes.{missing_scope, scope_faults, scope_by, classes_at}
use Rattle.ctf_meaning_steps.specs.Blocks.{NamedClass, Placed, class_named, placed_in, placed}
use Rattle.ctf_meaning_steps.specs.Laws.{class_among}
use Rattle.ctf_meaning.proofs.Lists.{Each}
use Rattle.ctf_meaning.proofs.Shaped.{when_not}
use Rattle.ctf_meaning_steps.proofs.Seeing.{alone}
use Rattle.ctf_meaning_steps.proofs.Entries.{Named}

module _ (all : List Entry) (block : Place) where
  abbrev make : ℕ × Form → Option Shape
  make p = shape_of all (p.0 ∷ block) p.1

  -- The first class of a name is that of the first entry of the name.
  pub named_first : (number : ℕ) (es : List BlockEntry) (classes : List NamedClass) → Named all block number es classes → (name : Words) (missing : Option Shape) →
      option_map_or make (first (filter_map (class_by name) (enumerate_from number es))) missing ≡ option_or (class_named classes name) missing
  named_first number [] classes h name missing = ap (λ cs. option_or (class_named cs name) missing) (sym h)
  named_first number (Assigned setting ∷ es) classes h name missing =
      named_first (number + 1) es h.1 h.4 name missing ∙ ap (λ cs. option_or (class_named cs name) missing) (sym (h.2 ∙ ap (λ cs. cs ++ h.1) h.3))
  named_first number (Declared item ∷ es) classes h name missing =
      named_first (number + 1) es h.1 h.4 name missing ∙ ap (λ cs. option_or (class_named cs name) missing) (sym (h.2 ∙ ap (λ cs. cs ++ h.1) h.3))
  named_first number (Classed words form ∷ es) classes h name missing =
      by_case (same_words words name) (named_first (number + 1) es h.1 h.4 name missing) ∙ ap (λ cs. option_or (class_named cs name) missing) (sym (h.2 ∙ ap (λ cs. cs ++ h.1) h.3.1))
    where
      by_case : (b : Bool) →
          option_map_or make (first (filter_map (class_by name) (enumerate_from (number + 1) es))) missing ≡ option_or (class_named h.1 name) missing →
          option_map_or make (first (cons_option (if b then Some (number, form) else None) (filter_map (class_by name) (enumerate_from (number + 1) es)))) missing
          ≡ option_or (option_map (λ p. p.1) (cond b (Some (words, h.3.0)) (find (λ p. same_words p.0 name) h.1))) missing
      by_case true rest = h.3.2
      by_case false rest = rest

-- A name that is not there twice has one class at the most.
entries_fewer : (number : ℕ) (es : List BlockEntry) (name : Words) →
    length (filter_map (class_by name) (enumerate_from number es)) ≤ length (filter (λ e. is_value_of name e || is_class_of name e) es)
entries_fewer number [] name = omega arith
entries_fewer number (Assigned setting ∷ es) name = by_case (same_words setting.name name) (entries_fewer (number + 1) es name)
  where
    by_case : (b : Bool) → length (filter_map (class_by name) (enumerate_from (number + 1) es)) ≤ length (filter (λ e. is_value_of name e || is_class_of name e) es) → length (filter_map (class_by name) (enumerate_from (number + 1) es))
        ≤ length (cond (b || false) (Assigned setting ∷ filter (λ e. is_value_of name e || is_class_of name e) es) (filter (λ e. is_value_of name e || is_class_of name e) es))
    by_case true rest = grind (arith, rest)
    by_case false rest = rest
entries_fewer number (Declared item ∷ es) name = entries_fewer (number + 1) es name
entries_fewer number (Classed words form ∷ es) name = by_case (same_words words name) (entries_fewer (number + 1) es name)
  where
    by_case : (b : Bool) → length (filter_map (class_by name) (enumerate_from (number + 1) es)) ≤ length (filter (λ e. is_value_of name e || is_class_of name e) es) → length (cons_option (if b then Some (number, form) else None) (filter_map (class_by name) (enumerate_from (number + 1) es)))
        ≤ length (cond b (Classed words form ∷ filter (λ e. is_value_of name e || is_class_of name e) es) (filter (λ e. is_value_of name e || is_class_of name e) es))
    by_case true rest = grind (arith, rest)
    by_case false rest = rest

at_most_one : (m n : ℕ) → nat_lt 1 n ≡ false → m ≤ n → m ≤ 1
at_most_one m n h le = grind (arith, h, le)

one_class : (es : List BlockEntry) (name : Words) → when (stands_twice es name) Attribute ≡ [] → length (class_entries es name) ≤ 1
one_class es name h =
    at_most_one (length (class_entries es name)) (length (filter (λ e. is_value_of name e || is_class_of name e) es)) (when_not (stands_twice es name) Attribute h) (entries_fewer 0 es name)

of_first : {X Y Z : Type 0} (f : Y → List Z) (g : X → Option Y) (xs : List X) → length xs ≤ 1 → flat_map f (filter_map g xs) ≡ option_map_or f (option_map_or g (first xs) None) []
of_first f g [] h = refl
of_first f g (x ∷ y ∷ xs) h = absurd (grind (arith, h))
of_first {X} {Y} {Z} f g (x ∷ []) h = by_case (g x)
  where
    by_case : (o : Option Y) → flat_map f (cons_option o []) ≡ option_map_or f o []
    by_case None = refl
    by_case (Some y) = append-nil (f y)

-- the faults of one scope's class
placed_one : (s : Scope) (o : Option Shape) (rest : List Placed) →
    option_map_or scope_faults o [] ++ flat_map (λ p. scope_faults p.1) rest ≡ flat_map (λ p. scope_faults p.1) (cons_option (option_map (λ shape. (s, shape)) (option_or o (missing_scope s))) rest)
placed_one s (Some shape) rest = refl
placed_one PacketHeader None rest = refl
placed_one PacketContext None rest = refl
placed_one EventHeader None rest = refl
placed_one StreamEventContext None rest = refl
placed_one EventContext None rest = refl
placed_one EventFields None rest = refl

-- a scope's class by the classes under the block's names
abbrev pub found : List NamedClass → Scope → Option Shape
found classes scope = option_or (class_named classes (entry_name scope)) (missing_scope scope)

module _ (all : List Entry) (block : Place) (es : List BlockEntry) (classes : List NamedClass) (h : Named all block 0 es classes) where
  scopes_faults : (ss : List Scope) → Each (λ name. when (stands_twice es name) Attribute ≡ []) (map entry_name ss) →
      flat_map scope_faults (filter_map (make all block) (flat_map (class_entries es) (map entry_name ss))) ≡ flat_map (λ p. scope_faults p.1) (filter_map (placed_in classes) ss)
  scopes_faults [] single = refl
  scopes_faults (s ∷ ss) single =
      let these : List (ℕ × Form) = class_entries es (entry_name s) in
      let others : List (ℕ × Form) = flat_map (class_entries es) (map entry_name ss) in
      ap (flat_map scope_faults) (filter_map-append (make all block) these others)
      ∙ flat_map-append scope_faults (filter_map (make all block) these) (filter_map (make all block) others)
      ∙ ap₂ (λ a b. a ++ b)
      (of_first scope_faults (make all block) these (one_class es (entry_name s) single.0)
      ∙ ap (λ o. option_map_or scope_faults o []) (named_first all block 0 es classes h (entry_name s) None ∙ alone (class_named classes (entry_name s))))
      (scopes_faults ss single.1)
      ∙ placed_one s (class_named classes (entry_name s)) (filter_map (placed_in classes) ss)

-- What is wrong with the classes of a block's scopes.
pub placed_faults : (text : List Declaration) (k : ℕ) (which : BlockKind) (es : List BlockEntry) (classes : List NamedClass) → Named (entries_in text) (k ∷ []) 0 es classes →
    Each (λ name. when (stands_twice es name) Attribute ≡ []) (map entry_name (own_scopes which)) →
    flat_map scope_faults (classes_at text k (Block which es)) ≡ flat_map (λ p. scope_faults p.1) (placed which classes)
placed_faults text k which es classes h single = scopes_faults (entries_in text) (k ∷ []) es classes h (own_scopes which) single

-- the class of a scope among some
rank_itself : (s : Scope) → nat_eq (rank s) (rank s) ≡ true
rank_itself PacketHeader = refl
rank_itself PacketContext = refl
rank_itself EventHeader = refl
rank_itself StreamEventContext = refl
rank_itself EventContext = refl
rank_itself EventFields = refl

hit : (s : Scope) (o : Option Shape) (rest : List Placed) → class_among s rest ≡ None → class_among s (cons_option (option_map (λ shape. (s, shape)) o) rest) ≡ o
hit s None rest h = h
hit s (Some shape) rest h = ap (λ b. option_map (λ p. p.1) (cond b (Some (s, shape)) (find (λ p. nat_eq (rank p.0) (rank s)) rest))) (rank_itself s)

miss : (s scope : Scope) (o : Option Shape) (rest : List Placed) → nat_eq (rank s) (rank scope) ≡ false → class_among scope (cons_option (option_map (λ shape. (s, shape)) o) rest) ≡ class_among scope rest
miss s scope None rest h = refl
miss s scope (Some shape) rest h = ap (λ b. option_map (λ p. p.1) (cond b (Some (s, shape)) (find (λ p. nat_eq (rank p.0) (rank scope)) rest))) h

module _ (classes : List NamedClass) where
  abbrev here : Scope → Option Shape
  here = found classes

  among_stream : (scope : Scope) → class_among scope (placed Stream classes) ≡ (if same_kind Stream (block_of scope) then here scope else None)
  among_stream PacketHeader =
      miss PacketContext PacketHeader (here PacketContext) _ refl ∙ miss EventHeader PacketHeader (here EventHeader) _ refl ∙ miss StreamEventContext PacketHeader (here StreamEventContext) [] refl
  among_stream PacketContext =
      hit PacketContext (here PacketContext) _ (miss EventHeader PacketContext (here EventHeader) _ refl ∙ miss StreamEventContext PacketContext (here StreamEventContext) [] refl)
  among_stream EventHeader =
      miss PacketContext EventHeader (here PacketContext) _ refl ∙ hit EventHeader (here EventHeader) _ (miss StreamEventContext EventHeader (here StreamEventContext) [] refl)
  among_stream StreamEventContext =
      miss PacketContext StreamEventContext (here PacketContext) _ refl ∙ miss EventHeader StreamEventContext (here EventHeader) _ refl ∙ hit StreamEventContext (here StreamEventContext) [] refl
  among_stream EventContext =
      miss PacketContext EventContext (here PacketContext) _ refl ∙ miss EventHeader EventContext (here EventHeader) _ refl ∙ miss StreamEventContext EventContext (here StreamEventContext) [] refl
  among_stream EventFields =
      miss PacketContext EventFields (here PacketContext) _ refl ∙ miss EventHeader EventFields (here EventHeader) _ refl ∙ miss StreamEventContext EventFields (here StreamEventContext) [] refl

  among_event : (scope : Scope) → class_among scope (placed Event classes) ≡ (if same_kind Event (block_of scope) then here scope else None)
  among_event PacketHeader = miss EventContext PacketHeader (here EventContext) _ refl ∙ miss EventFields PacketHeader (here EventFields) [] refl
  among_event PacketContext = miss EventContext PacketContext (here EventContext) _ refl ∙ miss EventFields PacketContext (here EventFields) [] refl
  among_event EventHeader = miss EventContext EventHeader (here EventContext) _ refl ∙ miss EventFields EventHeader (here EventFields) [] refl
  among_event StreamEventContext = miss EventContext StreamEventContext (here EventContext) _ refl ∙ miss EventFields StreamEventContext (here EventFields) [] refl
  among_event EventContext = hit EventContext (here EventContext) _ (miss EventFields EventContext (here EventFields) [] refl)
  among_event EventFields = miss EventContext EventFields (here EventContext) _ refl ∙ hit EventFields (here EventFields) [] refl

  among_trace : (scope : Scope) → class_among scope (placed Trace classes) ≡ (if same_kind Trace (block_of scope) then here scope else None)
  among_trace PacketHeader = hit PacketHeader (here PacketHeader) [] refl
  among_trace PacketContext = miss PacketHeader PacketContext (here PacketHeader) [] refl
  among_trace EventHeader = miss PacketHeader EventHeader (here PacketHeader) [] refl
  among_trace StreamEventContext = miss PacketHeader StreamEventContext (here PacketHeader) [] refl
  among_trace EventContext = miss PacketHeader EventContext (here PacketHeader) [] refl
  among_trace EventFields = miss PacketHeader EventFields (here PacketHeader) [] refl

  among : (which : BlockKind) (scope : Scope) → class_among scope (placed which classes) ≡ (if same_kind which (block_of scope) then here scope else None)
  among Trace scope = among_trace scope
  among Stream scope = among_stream scope
  among Event scope = among_event scope

-- A block declares the classes of its own scopes.
pub scope_found : (text : List Declaration) (k : ℕ) (which : BlockKind) (es : List BlockEntry) (classes : List NamedClass) → Named (entries_in text) (k ∷ []) 0 es classes → (scope : Scope) →
    scope_by text k scope (Block which es) ≡ (if same_kind which (block_of scope) then found classes scope else None)
scope_found text k which es classes h scope =
    ap (λ o. if same_kind which (block_of scope) then o else None) (named_first (entries_in text) (k ∷ []) 0 es classes h (entry_name scope) (missing_scope scope))

pub scope_among : (text : List Declaration) (k : ℕ) (which : BlockKind) (es : List BlockEntry) (classes : List NamedClass) → Named (entries_in text) (k ∷ []) 0 es classes → (scope : Scope) →
    class_among scope (placed which classes) ≡ scope_by text k scope (Block which es)
scope_among text k which es classes h scope = among classes which scope ∙ sym (scope_found text k which es classes h scope)

filter_map_same : {X Y : Type 0} (f g : X → Option Y) → ((x : X) → f x ≡ g x) → (xs : List X) → filter_map f xs ≡ filter_map g xs
filter_map_same f g h [] = refl
filter_map_same f g h (x ∷ xs) = ap₂ (λ o ys. cons_option o ys) (h x) (filter_map_same f g h xs)

filter_map_if : {X Y : Type 0} (test : X → Bool) (g : X → Option Y) (xs : List X) → filter_map (λ x. if test x then g x else None) xs ≡ filter_map g (filter test xs)
filter_map_if test g [] = refl
filter_map_if test g (x ∷ xs) = by_case (test x) (filter_map_if test g xs)
  where
    by_case : (b : Bool) → filter_map (λ y. if test y then g y else None) xs ≡ filter_map g (filter test xs) → cons_option (if b then g x else None) (filter_map (λ y. if test y then g y else None) xs) ≡ filter_map g (cond b (x ∷ filter test xs) (filter test xs))
    by_case true rest = ap (cons_option (g x)) rest
    by_case false rest = rest

placed_nodes : (g : Scope → Option Shape) (ss : List Scope) → map nodes_of (filter_map g ss) ≡ map (λ (p : Placed). nodes_of p.1) (filter_map (λ s. option_map (λ shape. (s, shape)) (g s)) ss)
placed_nodes g [] = refl
placed_nodes g (s ∷ ss) = by_case (g s) (placed_nodes g ss)
  where
    by_case : (o : Option Shape) → map nodes_of (filter_map g ss) ≡ map (λ (p : Placed). nodes_of p.1) (filter_map (λ t. option_map (λ shape. (t, shape)) (g t)) ss) → map nodes_of (cons_option o (filter_map g ss)) ≡ map (λ (p : Placed). nodes_of p.1) (cons_option (option_map (λ shape. (s, shape)) o) (filter_map (λ t. option_map (λ shape. (t, shape)) (g t)) ss))
    by_case None rest = rest
    by_case (Some shape) rest = ap (λ ns. nodes_of shape ∷ ns) rest

-- how many classes the scopes of a block have
pub nodes_placed : (at : Scope → Option Shape) (which : BlockKind) (classes : List NamedClass) → ((scope : Scope) → at scope ≡ (if same_kind which (block_of scope) then found classes scope else None)) →
    sum (map nodes_of (filter_map at scopes)) ≡ sum (map (λ p. nodes_of p.1) (placed which classes))
nodes_placed at which classes h =
    ap (λ shapes. sum (map nodes_of shapes))
    (filter_map_same at (λ scope. if same_kind which (block_of scope) then found classes scope else None) h scopes
    ∙ filter_map_if (λ scope. same_kind which (block_of scope)) (found classes) scopes)
    ∙ ap sum (placed_nodes (found classes) (own_scopes which))

pub nodes_nowhere : (at : Scope → Option Shape) → ((scope : Scope) → at scope ≡ None) → sum (map nodes_of (filter_map at scopes)) ≡ 0
nodes_nowhere at h = ap (λ shapes. sum (map nodes_of shapes)) (filter_map_same at (λ scope. None) h scopes)
