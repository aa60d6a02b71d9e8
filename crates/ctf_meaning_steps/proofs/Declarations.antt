-- A declaration gives one of its own faults, or else the names and the scopes' classes as they are after it.
use Rattle.std.proofs.Common.{◌≡◌, ℕ, suc, ◌+◌, nat_lt, inl, inr, false, List, [], ◌∷◌, ◌++◌, map, length, take, Option, Some, None, Ok, refl, ap, ap₂, sym, ◌∙◌, subst, append-nil, append_assoc, flat_map, option_and_then, slice_get, sum, Contains, if◌then◌else◌, arith}
use Rattle.std.specs.List.{list_any}
use Rattle.std.proofs.lemmas.List.Elements.{Contains-append_left, Contains-append_right, Contains-append_cases}
use Rattle.tsdl_tree.specs.declared.tree.BlockKind.{BlockKind}
use Rattle.tsdl_tree.specs.declared.tree.BlockKind.TheVariants.{Trace, Stream, Event}
use Rattle.tsdl_tree.specs.declared.tree.TableKind.{TableKind}
use Rattle.tsdl_tree.specs.declared.tree.Setting.{Setting}
use Rattle.ctf_class.specs.declared.route.Scope.{Scope}
use Rattle.ctf_meaning.specs.declared.fault.ResolveFault.{ResolveFault}
use Rattle.ctf_meaning.specs.declared.fault.ResolveFault.TheVariants.{Attribute, TooDeep}
use Rattle.ctf_meaning.specs.Name.{Name}
use Rattle.ctf_meaning.specs.Written.{BlockEntry, Declaration, Item, Block, Table, Names}
use Rattle.ctf_meaning.specs.Parts.{Located, of_text, located_entries, located}
use Rattle.ctf_meaning.specs.Settings.{when, minus_faults}
use Rattle.ctf_meaning.specs.Shapes.{Shape, nodes_of}
use Rattle.ctf_meaning.specs.Names.{Entry, entries_after, entries_in}
use Rattle.ctf_meaning.specs.Own.{faults_within}
use Rattle.ctf_meaning.specs.Blocks.{same_kind, block_of, values_in, classes_in, stands_twice, is_class_of, is_value_of, entry_faults, trace_faults, stream_faults, event_faults, block_faults, twice_faults}
use Rattle.ctf_meaning.specs.Scopes.{scope_faults, scope_by, scope_at, classes_at, nodes_before, node_faults}
use Rattle.ctf_meaning.specs.Faults.{most_nodes, own_faults}
use Rattle.ctf_meaning_steps.specs.Told.{Told, ◌>>=◌, unless}
use Rattle.ctf_meaning_steps.specs.Seen.{nothing_seen}
use Rattle.ctf_meaning_steps.specs.Items.{item_told}
use Rattle.ctf_meaning_steps.specs.Blocks.{NamedClass, Held, Placed, Walked, placed, plain_row, entries_told, scopes_told, declaration_told}
use Rattle.ctf_meaning.proofs.Lists.{Each, each_map, each_none, each_back, append_left, append_right}
use Rattle.ctf_meaning.proofs.Shaped.{when_not}
use Rattle.ctf_meaning.proofs.Seen.{entries_after-append}
use Rattle.ctf_meaning.proofs.Order.{Within, order_entries, order_declaration}
use Rattle.ctf_meaning_steps.proofs.Telling.{Tells, tells_then, tells_made, tells_unless, tells_same, tells_by, append_none}
use Rattle.ctf_meaning_steps.proofs.Seeing.{Holds, Clear, Inside, sees_nothing, sees_text, holds_nothing, holds_next, holds_after, unseen_deep, clear_inside, clear_next}
use Rattle.ctf_meaning_steps.proofs.Parts.{faults_after, faults_after-append}
use Rattle.ctf_meaning_steps.proofs.Items.{MadeBy, item_tells}
use Rattle.ctf_meaning_steps.proofs.Entries.{Reads, reads_front, reads_faults, Named, EntriesBy, entries_tells}
use Rattle.ctf_meaning_steps.proofs.Scopes.{found, placed_faults, scope_found, scope_among, nodes_placed, nodes_nowhere}
use Rattle.ctf_meaning_steps.proofs.Rows.{Rows, rows_more, nodes_next, nodes_told}

-- What is known after some declarations.
pub record Good (text : List Declaration) (es : List Entry) (k : ℕ) (before : List Declaration) (walked : Walked) : Type 0 where
  pub holds : Holds es [] k walked.own
  pub clear : Clear es [] k
  pub nodes : walked.nodes ≡ nodes_before text k
  pub few : nat_lt most_nodes (nodes_before text k) ≡ false
  pub rows : Rows text 0 walked.rows before

-- where a declaration is
pub record Stands (text before : List Declaration) (k : ℕ) (d : Declaration) : Type 0 where
  pub taken : take k text ≡ before
  pub number : slice_get text k ≡ Some d
  pub long : length before ≡ k

-- the own faults of a block in the order in which they are reported
module _ (w b t f n : List ResolveFault) where
  abbrev told : List ResolveFault
  told = b ++ (t ++ (w ++ (f ++ (n ++ []))))

  abbrev listed : List ResolveFault
  listed = w ++ b ++ t ++ f ++ n

  own_none : told ≡ [] → listed ≡ []
  own_none h =
      let one : t ++ (w ++ (f ++ (n ++ []))) ≡ [] = append_right b (t ++ (w ++ (f ++ (n ++ [])))) h in
      let two : w ++ (f ++ (n ++ [])) ≡ [] = append_right t (w ++ (f ++ (n ++ []))) one in
      let three : f ++ (n ++ []) ≡ [] = append_right w (f ++ (n ++ [])) two in
      append_none (w ++ b ++ t ++ f) n
      (append_none (w ++ b ++ t) f
      (append_none (w ++ b) t
      (append_none w b (append_left w (f ++ (n ++ [])) two) (append_left b (t ++ (w ++ (f ++ (n ++ [])))) h))
      (append_left t (w ++ (f ++ (n ++ []))) one))
      (append_left f (n ++ []) three))
      (append_left n [] (append_right f (n ++ []) three))

  of_four : (x : ResolveFault) → Contains (w ++ b ++ t ++ f) x → Contains listed x
  of_four x h = Contains-append_left (w ++ b ++ t ++ f) n x h

  of_three : (x : ResolveFault) → Contains (w ++ b ++ t) x → Contains listed x
  of_three x h = of_four x (Contains-append_left (w ++ b ++ t) f x h)

  of_two : (x : ResolveFault) → Contains (w ++ b) x → Contains listed x
  of_two x h = of_three x (Contains-append_left (w ++ b) t x h)

  own_some : (x : ResolveFault) → Contains told x → Contains listed x
  own_some x h =
      elim (Contains-append_cases b (t ++ (w ++ (f ++ (n ++ [])))) x h) as (λ _. Contains listed x) [
        | inl block ↦ of_two x (Contains-append_right w b x block)
        | inr one ↦ elim (Contains-append_cases t (w ++ (f ++ (n ++ []))) x one) as (λ _. Contains listed x) [
          | inl twice ↦ of_three x (Contains-append_right (w ++ b) t x twice)
          | inr two ↦ elim (Contains-append_cases w (f ++ (n ++ [])) x two) as (λ _. Contains listed x) [
            | inl within ↦ of_two x (Contains-append_left w b x within)
            | inr three ↦ elim (Contains-append_cases f (n ++ []) x three) as (λ _. Contains listed x) [
              | inl float ↦ of_four x (Contains-append_right (w ++ b ++ t) f x float)
              | inr nodes ↦ Contains-append_right (w ++ b ++ t ++ f) n x (subst (λ fs. Contains fs x) (append-nil n) nodes)
            ]
          ]
        ]
      ]

table_listed : (m b t : List ResolveFault) → m ++ (b ++ (t ++ [])) ≡ (((m ++ []) ++ b ++ t) ++ []) ++ []
table_listed m b t =
    ap (λ xs. m ++ (b ++ xs)) (append-nil t) ∙ sym (append_assoc m b t) ∙ ap (λ xs. xs ++ b ++ t) (sym (append-nil m))
    ∙ sym (append-nil (((m ++ []) ++ b ++ t) ++ []) ∙ append-nil ((m ++ []) ++ b ++ t))

names_listed : (w : List ResolveFault) → w ≡ (((w ++ []) ++ []) ++ []) ++ []
names_listed w = sym (append-nil (((w ++ []) ++ []) ++ []) ∙ append-nil ((w ++ []) ++ []) ∙ append-nil (w ++ []) ∙ append-nil w)

-- In a block without faults no name of a class is there twice.
entry_none : (which : BlockKind) (es : List BlockEntry) → block_faults (Block which es) ≡ [] → entry_faults which es ≡ []
entry_none Trace es h = append_left (entry_faults Trace es) (trace_faults es) h
entry_none Stream es h = append_left (entry_faults Stream es) (stream_faults es) h
entry_none Event es h = append_left (entry_faults Event es) (event_faults es) h

single : (which : BlockKind) (es : List BlockEntry) → block_faults (Block which es) ≡ [] → Each (λ name. when (stands_twice es name) Attribute ≡ []) (classes_in which)
single which es h =
    let twice : List ResolveFault = flat_map (λ name. when (stands_twice es name) Attribute) (values_in which ++ classes_in which) in
    let as_class : List ResolveFault = flat_map (λ name. when (list_any (is_class_of name) es) Attribute) (values_in which) in
    let as_value : List ResolveFault = flat_map (λ name. when (list_any (is_value_of name) es) Attribute) (classes_in which) in
    each_back (λ name. when (stands_twice es name) Attribute ≡ []) (values_in which) (classes_in which)
    (each_none (λ name. when (stands_twice es name) Attribute) (values_in which ++ classes_in which)
    (append_left twice as_class (append_left (twice ++ as_class) as_value (entry_none which es h))))

module _ (text before : List Declaration) (k : ℕ) (es : List Entry) (walked : Walked) (good : Good text es k before walked) where
  -- The next declaration gives no class to a scope.
  module _ (d : Declaration) (stands : Stands text before k d) (none : (scope : Scope) → scope_by text k scope d ≡ None) where
    nodes_same : nodes_before text (suc k) ≡ nodes_before text k
    nodes_same =
        nodes_next text k
        ∙ ap (λ n. nodes_before text k + n) (nodes_nowhere (scope_at text k) (λ scope. ap (option_and_then (scope_by text k scope)) stands.number ∙ none scope))
        ∙ omega arith

    pub no_node_faults : node_faults text most_nodes k ≡ []
    no_node_faults = sym (nodes_told text k most_nodes (nodes_before text k) good.few (sym nodes_same)) ∙ ap (λ b. when b TooDeep) good.few

    pub plain_good : (next : List Entry) (own : Name → Option Shape) → Holds next [] (k + 1) own → Clear next [] (k + 1) → Good text next (k + 1) (before ++ d ∷ []) (plain_row walked own)
    plain_good next own holds clear =
        let same : nodes_before text (k + 1) ≡ nodes_before text k = ap (nodes_before text) (let more : k + 1 ≡ suc k = omega arith in more) ∙ nodes_same in
        record {
          holds = holds;
          clear = clear;
          nodes = good.nodes ∙ sym same;
          few = ap (nat_lt most_nodes) same ∙ good.few;
          rows = rows_more text 0 k walked.rows before [] d (let e = stands.long in grind (arith, e)) good.rows (λ scope. sym (none scope));
        }

  table_tells : (kind : TableKind) (settings : List Setting) → Stands text before k (Table kind settings) →
      Tells (Unit {0}) (declaration_told before walked (Table kind settings)) (own_faults text (k, Table kind settings))
      (Good text (entries_after es (located (k ∷ []) (Table kind settings))) (k + 1) (before ++ Table kind settings ∷ []))
  table_tells kind settings stands =
      let d : Declaration = Table kind settings in
      let minus : List ResolveFault = minus_faults settings in
      let block : List ResolveFault = block_faults d in
      let twice : List ResolveFault = twice_faults before d in
      let done : Told Walked = Ok (plain_row walked walked.own) in
      let Q : Walked → Type 0 = Good text (es ++ []) (k + 1) (before ++ d ∷ []) in
      tells_same (Unit {0}) (unless minus (unless block (unless twice done))) (minus ++ (block ++ (twice ++ []))) (own_faults text (k, d)) Q
      (table_listed minus block twice
      ∙ ap₂ (λ t n. (((minus ++ []) ++ block ++ t) ++ []) ++ n) (ap (λ ds. twice_faults ds d) (sym stands.taken)) (sym (no_node_faults d stands (λ scope. refl))))
      (tells_unless (Unit {0}) minus (unless block (unless twice done)) (block ++ (twice ++ [])) Q
      (λ e. tells_unless (Unit {0}) block (unless twice done) (twice ++ []) Q
      (λ f. tells_unless (Unit {0}) twice done [] Q
      (λ g. (
        refl,
        plain_good d stands (λ scope. refl) (es ++ []) walked.own
            (subst (λ fs. Holds fs [] (k + 1) walked.own) (sym (append-nil es)) (holds_next es [] k walked.own good.clear good.holds))
            (clear_next es [] k (located (k ∷ []) d) good.clear (order_declaration (k ∷ []) d).below),
      )))))

  names_tells : (item : Item) → Stands text before k (Names item) → Reads (entries_in text) es (located (k ∷ []) (Names item)) →
      Tells (Unit {0}) (declaration_told before walked (Names item)) (own_faults text (k, Names item))
      (Good text (entries_after es (located (k ∷ []) (Names item))) (k + 1) (before ++ Names item ∷ []))
  names_tells item stands reads =
      let d : Declaration = Names item in
      let ps : List Located = located (k ∷ []) d in
      tells_same (Unit {0}) (declaration_told before walked d) (faults_after es ps) (own_faults text (k, d)) (Good text (entries_after es ps) (k + 1) (before ++ d ∷ []))
      (names_listed (faults_after es ps)
      ∙ ap₂ (λ w n. (((w ++ []) ++ []) ++ []) ++ n) (sym (reads_faults (entries_in text) es ps reads)) (sym (no_node_faults d stands (λ scope. refl))))
      (tells_made (Unit {0}) (item_told nothing_seen walked.own item) (λ made. plain_row walked made.own) (faults_after es ps) (MadeBy es [] k (of_text d) item) (Good text (entries_after es ps) (k + 1) (before ++ d ∷ []))
      (item_tells es [] k walked.own nothing_seen (of_text d) item refl refl refl good.clear good.holds (sees_nothing es))
      (λ made e by. plain_good d stands (λ scope. refl) (entries_after es ps) made.own by.holds (clear_next es [] k ps good.clear (order_declaration (k ∷ []) d).below)))

  -- The next declaration is a block.
  module _ (which : BlockKind) (entries : List BlockEntry) (stands : Stands text before k (Block which entries)) where
    abbrev block_here : Declaration
    block_here = Block which entries

    abbrev inner : List Located
    inner = located_entries (k ∷ []) 0 entries

    abbrev parts : List Located
    parts = located (k ∷ []) block_here

    abbrev all : List Entry
    all = entries_in text

    block_entries : entries_after es parts ≡ entries_after es inner
    block_entries = entries_after-append es inner ((k ∷ [], of_text block_here) ∷ []) ∙ append-nil (entries_after es inner)

    block_within : Reads all es parts → faults_after es inner ≡ faults_within all k block_here
    block_within reads =
        sym (append-nil (faults_after es inner)) ∙ sym (faults_after-append es inner ((k ∷ [], of_text block_here) ∷ [])) ∙ sym (reads_faults all es parts reads)

    block_holds : Holds (entries_after es parts) [] (k + 1) walked.own
    block_holds =
        subst (λ fs. Holds fs [] (k + 1) walked.own) (sym block_entries)
        (holds_after es [] (k + 1) walked.own inner
        (unseen_deep k (k + 1) [] inner (each_map (Within (k ∷ []) 0) (Inside (k ∷ [])) (λ q w. (w.0, w.2)) inner (order_entries (k ∷ []) 0 entries).within))
        (holds_next es [] k walked.own good.clear good.holds))

    -- once the classes of its entries are known
    module _ (classes : List NamedClass) (named : Named all (k ∷ []) 0 entries classes) where
      abbrev scopes_here : List Placed
      scopes_here = placed which classes

      abbrev count : ℕ
      count = sum (map (λ (p : Placed). nodes_of p.1) scopes_here)

      found_here : (scope : Scope) → scope_at text k scope ≡ (if same_kind which (block_of scope) then found classes scope else None)
      found_here scope = ap (option_and_then (scope_by text k scope)) stands.number ∙ scope_found text k which entries classes named scope

      count_next : walked.nodes + count ≡ nodes_before text (suc k)
      count_next = ap₂ (λ m n. m + n) good.nodes (sym (nodes_placed (scope_at text k) which classes found_here)) ∙ sym (nodes_next text k)

      block_good : nat_lt most_nodes (walked.nodes + count) ≡ false →
          Good text (entries_after es parts) (k + 1) (before ++ block_here ∷ []) (record { own = walked.own; nodes = walked.nodes + count; rows = walked.rows ++ scopes_here ∷ [] })
      block_good few =
          let same : walked.nodes + count ≡ nodes_before text (k + 1) = count_next ∙ ap (nodes_before text) (let more : suc k ≡ k + 1 = omega arith in more) in
          record {
            holds = block_holds;
            clear = clear_next es [] k parts good.clear (order_declaration (k ∷ []) block_here).below;
            nodes = same;
            few = ap (nat_lt most_nodes) (sym same) ∙ few;
            rows = rows_more text 0 k walked.rows before scopes_here block_here (let e = stands.long in grind (arith, e)) good.rows (scope_among text k which entries classes named);
          }

      scopes_tells : block_faults block_here ≡ [] →
          Tells (Unit {0}) (scopes_told walked scopes_here) (flat_map scope_faults (classes_at text k block_here) ++ (node_faults text most_nodes k ++ [])) (Good text (entries_after es parts) (k + 1) (before ++ block_here ∷ []))
      scopes_tells clean =
          let floats : List ResolveFault = flat_map (λ p. scope_faults p.1) scopes_here in
          let many : List ResolveFault = when (nat_lt most_nodes (walked.nodes + count)) TooDeep in
          let done : Told Walked = Ok (record { own = walked.own; nodes = walked.nodes + count; rows = walked.rows ++ scopes_here ∷ [] }) in
          let Q : Walked → Type 0 = Good text (entries_after es parts) (k + 1) (before ++ block_here ∷ []) in
          tells_same (Unit {0}) (unless floats (unless many done)) (floats ++ (many ++ [])) (flat_map scope_faults (classes_at text k block_here) ++ (node_faults text most_nodes k ++ [])) Q
          (ap₂ (λ f n. f ++ (n ++ [])) (sym (placed_faults text k which entries classes named (single which entries clean))) (nodes_told text k most_nodes (walked.nodes + count) good.few count_next))
          (tells_unless (Unit {0}) floats (unless many done) (many ++ []) Q
          (λ e. tells_unless (Unit {0}) many done [] Q (λ f. (refl, block_good (when_not (nat_lt most_nodes (walked.nodes + count)) TooDeep f)))))

    block_tells : Reads all es parts →
        Tells (Unit {0}) (declaration_told before walked block_here) (own_faults text (k, block_here)) (Good text (entries_after es parts) (k + 1) (before ++ block_here ∷ []))
    block_tells reads =
        let w : List ResolveFault = faults_within all k block_here in
        let b : List ResolveFault = block_faults block_here in
        let t : List ResolveFault = twice_faults before block_here in
        let f : List ResolveFault = flat_map scope_faults (classes_at text k block_here) in
        let n : List ResolveFault = node_faults text most_nodes k in
        let none : Held = record { own = nothing_seen; classes = [] } in
        let entered : Told Walked = entries_told walked.own none entries >>= λ held. scopes_told walked (placed which held.classes) in
        let Q : Walked → Type 0 = Good text (entries_after es parts) (k + 1) (before ++ block_here ∷ []) in
        tells_same (Unit {0}) (declaration_told before walked block_here) (w ++ b ++ t ++ f ++ n) (own_faults text (k, block_here)) Q (ap (λ ds. w ++ b ++ twice_faults ds block_here ++ f ++ n) (sym stands.taken))
        (tells_by (Unit {0}) (declaration_told before walked block_here) (b ++ (t ++ (w ++ (f ++ (n ++ []))))) (w ++ b ++ t ++ f ++ n) Q (own_none w b t f n) (own_some w b t f n)
        (tells_unless (Unit {0}) b (unless t entered) (t ++ (w ++ (f ++ (n ++ [])))) Q
        (λ clean. tells_unless (Unit {0}) t entered (w ++ (f ++ (n ++ []))) Q
        (λ once. tells_then (Unit {0}) (entries_told walked.own none entries) (λ held. scopes_told walked (placed which held.classes)) w (f ++ (n ++ [])) (EntriesBy all (k ∷ []) 0 none entries) Q
        (tells_same (Unit {0}) (entries_told walked.own none entries) (faults_after es inner) w (EntriesBy all (k ∷ []) 0 none entries) (block_within reads)
        (entries_tells all es (k ∷ []) 0 walked.own none entries (reads_front all es inner ((k ∷ [], of_text block_here) ∷ []) reads) (clear_inside es [] k good.clear) (holds_nothing es (k ∷ [])) (sees_text es k walked.own good.holds)))
        (λ held e by. scopes_tells held.classes (subst (Named all (k ∷ []) 0 entries) (sym by.classes) by.named) clean)))))

  pub declaration_tells : (d : Declaration) → Stands text before k d → Reads (entries_in text) es (located (k ∷ []) d) →
      Tells (Unit {0}) (declaration_told before walked d) (own_faults text (k, d)) (Good text (entries_after es (located (k ∷ []) d)) (k + 1) (before ++ d ∷ []))
  declaration_tells (Block which entries) stands reads = block_tells which entries stands reads
  declaration_tells (Table kind settings) stands reads = table_tells kind settings stands
  declaration_tells (Names item) stands reads = names_tells item stands reads
