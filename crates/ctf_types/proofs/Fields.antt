-- Of each event block the fields have a class, written or not.
use Rattle.std.proofs.Common.{◌≡◌, ℕ, zero, suc, List, [], ◌∷◌, ◌++◌, Option, Some, None, Ok, refl, sym, ap, subst, arith, append_assoc, append-nil}
use Rattle.std.specs.Prelude.{slice_get, option_map}
use Rattle.std.specs.Option.{option_or}
use Rattle.std.specs.List.{cons_option}
use Rattle.tsdl_tree.specs.declared.tree.BlockKind.{BlockKind}
use Rattle.tsdl_tree.specs.declared.tree.BlockKind.TheVariants.{Trace, Stream as StreamKind, Event}
use Rattle.ctf_class.specs.declared.route.Scope.TheVariants.{EventContext, EventFields}
use Rattle.ctf_meaning.specs.Written.{BlockEntry, Declaration, Block, Table, Names}
use Rattle.ctf_meaning.specs.Shapes.{Shape, struct, no_member}
use Rattle.ctf_meaning.specs.Blocks.{entry_name, block_faults, twice_faults}
use Rattle.ctf_meaning.specs.Settings.{minus_faults}
use Rattle.ctf_meaning.proofs.Lists.{some_same}
use Rattle.ctf_meaning_steps.specs.Seen.{nothing_seen}
use Rattle.ctf_meaning_steps.specs.Items.{item_told}
use Rattle.ctf_meaning_steps.specs.Blocks.{Placed, NamedClass, Walked, start, placed, class_named, plain_row, scopes_told, entries_told, declaration_told, declarations_told, text_told}
use Rattle.ctf_meaning_steps.specs.Laws.{class_among, class_in_row}
use Rattle.ctf_types.proofs.Sound.{after_unless, after_then, ok_same}

-- the fields of an event have a class in its row
abbrev pub HasFields : Declaration → List Placed → Type 0
HasFields d row = (entries : List BlockEntry) → d ≡ Block Event entries → (s : Shape) × (class_among EventFields row ≡ Some s)

abbrev pub AllHave : List Declaration → List (List Placed) → Type 0
AllHave [] [] = Unit {0}
AllHave (d ∷ ds) (row ∷ rows) = HasFields d row × AllHave ds rows
AllHave _ _ = ⊥

one_more : (ds : List Declaration) (rows : List (List Placed)) (d : Declaration) (row : List Placed) → AllHave ds rows → HasFields d row → AllHave (ds ++ d ∷ []) (rows ++ row ∷ [])
one_more [] [] d row h k = (k, tt)
one_more [] (r ∷ rows) d row h k = absurd h
one_more (x ∷ ds) [] d row h k = absurd h
one_more (x ∷ ds) (r ∷ rows) d row h k = (h.0, one_more ds rows d row h.1 k)

among : (classes : List NamedClass) → (s : Shape) × (class_among EventFields (placed Event classes) ≡ Some s)
among classes = by_both (class_named classes (entry_name EventContext)) (class_named classes (entry_name EventFields))
  where
    by_both : (c f : Option Shape) → (s : Shape) × (class_among EventFields (cons_option (option_map (λ shape. (EventContext, shape)) (option_or c None))
        (cons_option (option_map (λ shape. (EventFields, shape)) (option_or f (Some (struct 1 no_member)))) [])) ≡ Some s)
    by_both None None = (_, refl)
    by_both None (Some f) = (_, refl)
    by_both (Some c) None = (_, refl)
    by_both (Some c) (Some f) = (_, refl)

declaration_has : (before : List Declaration) (walked : Walked) (d : Declaration) (next : Walked) → declaration_told before walked d ≡ Ok next →
    (row : List Placed) × (next.rows ≡ walked.rows ++ row ∷ []) × HasFields d row
declaration_has before walked (Block which entries) next h =
    let settings = after_unless (block_faults (Block which entries)) _ next h in
    let twice = after_unless (twice_faults before (Block which entries)) _ next settings.1 in
    let held = after_then (entries_told walked.own (record { own = nothing_seen; classes = [] }) entries) (λ held. scopes_told walked (placed which held.classes)) next twice.1 in
    let first = after_unless _ _ next held.2 in
    let second = after_unless _ _ next first.1 in
    (placed which held.0.classes, sym (ap (λ (w : Walked). w.rows) (ok_same _ next _ second.1 refl)), which_has which held.0.classes)
  where
    which_has : (w : BlockKind) (classes : List NamedClass) → HasFields (Block w entries) (placed w classes)
    which_has Event classes es e = among classes
    which_has Trace classes es e = absurd (grind (arith, e))
    which_has StreamKind classes es e = absurd (grind (arith, e))
declaration_has before walked (Table kind settings) next h =
    let numbers = after_unless (minus_faults settings) _ next h in
    let block = after_unless (block_faults (Table kind settings)) _ next numbers.1 in
    let twice = after_unless (twice_faults before (Table kind settings)) _ next block.1 in
    ([], sym (ap (λ (w : Walked). w.rows) (ok_same (plain_row walked walked.own) next _ twice.1 refl)), (λ es e. absurd (grind (arith, e))))
declaration_has before walked (Names item) next h =
    let made = after_then (item_told nothing_seen walked.own item) (λ made. Ok (plain_row walked made.own)) next h in
    ([], sym (ap (λ (w : Walked). w.rows) (ok_same (plain_row walked made.0.own) next _ made.2 refl)), (λ es e. absurd (grind (arith, e))))

declarations_have : (before : List Declaration) (walked : Walked) (ds : List Declaration) (end : Walked) → declarations_told before walked ds ≡ Ok end →
    AllHave before walked.rows → AllHave (before ++ ds) end.rows
declarations_have before walked [] end h all =
    subst (λ xs. AllHave xs end.rows) (sym (append-nil before)) (subst (λ (w : Walked). AllHave before w.rows) (ok_same walked end _ h refl) all)
declarations_have before walked (d ∷ ds) end h all =
    let next = after_then (declaration_told before walked d) (λ next. declarations_told (before ++ d ∷ []) next ds) end h in
    let row = declaration_has before walked d next.0 next.1 in
    subst (λ xs. AllHave xs end.rows) (append_assoc before (d ∷ []) ds)
    (declarations_have (before ++ d ∷ []) next.0 ds end next.2 (subst (λ rows. AllHave (before ++ d ∷ []) rows) (sym row.1) (one_more before walked.rows d row.0 all row.2)))

at_row : (ds : List Declaration) (rows : List (List Placed)) (k : ℕ) (entries : List BlockEntry) → AllHave ds rows → slice_get ds k ≡ Some (Block Event entries) →
    (s : Shape) × (class_in_row rows k EventFields ≡ Some s)
at_row [] rows k entries h e = absurd (grind (arith, e))
at_row (d ∷ ds) [] k entries h e = absurd h
at_row (d ∷ ds) (row ∷ rows) zero entries h e = h.0 entries (some_same d (Block Event entries) e)
at_row (d ∷ ds) (row ∷ rows) (suc k) entries h e = at_row ds rows k entries h.1 e

pub fields_there : (text : List Declaration) (walked : Walked) (k : ℕ) (entries : List BlockEntry) → text_told text ≡ Ok walked → slice_get text k ≡ Some (Block Event entries) →
    (s : Shape) × (class_in_row walked.rows k EventFields ≡ Some s)
fields_there text walked k entries h e = at_row text walked.rows k entries (declarations_have [] start text walked h tt) e
