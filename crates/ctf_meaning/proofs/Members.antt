-- Where there is no own fault, the members of a body are those that are written.
use Rattle.std.proofs.Common.{◌≡◌, ℕ, ◌+◌, List, [], ◌∷◌, ◌++◌, map, Option, Some, None, refl, ap, sym, ◌∙◌, subst, ◌≤◌, nat_lt, false, arith}
use Rattle.std.specs.Prelude.{flat_map, option_and_then}
use Rattle.std.specs.List.{list_any}
use Rattle.std.specs.Option.{option_map_or}
use Rattle.tsdl_tree.specs.declared.tree.Declarator.{Declarator}
use Rattle.tsdl_tree.specs.declared.tree.Length.{Length}
use Rattle.ctf_meaning.specs.declared.fault.ResolveFault.{ResolveFault}
use Rattle.ctf_meaning.specs.declared.fault.ResolveFault.TheVariants.{TooDeep}
use Rattle.ctf_meaning.specs.Settings.{when, minus_faults}
use Rattle.ctf_meaning.specs.Written.{Form, Item, Items, BlockEntry, Declaration, Integer, Float, String, Struct, Variant, Enum, Named, Fields, Alias, Definition, Compound, no_item, some_items, Assigned, Classed, Declared, Block, Table, Names, items_in, items_of, body_of, form_in}
use Rattle.ctf_meaning.specs.Parts.{Place, Part, Located, of_text, of_block, of_body, class_of, given_of, settings_in, located_form, located_item, located_items, located_entry, located_entries, located, located_from}
use Rattle.ctf_meaning.specs.Shapes.{Shape, depth_of, declared, fields_by, fields_by_item}
use Rattle.ctf_meaning.specs.Names.{entries_in, shape_named, shape_of}
use Rattle.ctf_meaning.specs.Own.{part_faults, class_faults, depth_faults, name_faults, is_deep, most_deep, field_names}
use Rattle.ctf_meaning.specs.Streams.{numbered}
use Rattle.ctf_meaning.specs.Faults.{own_faults}
use Rattle.ctf_meaning.proofs.Lists.{Each, IsThere, each_append, each_front, each_back, each_map, each_none, some_same, none_some, append_left, append_right, or_left}
use Rattle.ctf_meaning.proofs.Shaped.{Shaped, when_not, part_shaped, text_shaped}
use Rattle.ctf_meaning.proofs.Clean.{parts_each, own_sound}

pub declared_names : (o : Option Shape) → IsThere o → (ds : List Declarator) → map (λ f. f.name) (declared o ds) ≡ map (λ d. d.name) ds
declared_names o t ds = subst (λ p. map (λ f. f.name) (declared p ds) ≡ map (λ d. d.name) ds) (sym t.1) (names_of ds)
  where
    names_of : (es : List Declarator) → map (λ f. f.name) (declared (Some t.0) es) ≡ map (λ d. d.name) es
    names_of [] = refl
    names_of (e ∷ es) = ap (λ ns. e.name ∷ ns) (names_of es)

pub map-append : {X Y : Type 0} (f : X → Y) (xs ys : List X) → map f (xs ++ ys) ≡ map f xs ++ map f ys
map-append f [] ys = refl
map-append f (x ∷ xs) ys = ap (λ rest. f x ∷ rest) (map-append f xs ys)

module _ (text : List Declaration) (shaped : Each Shaped (entries_in text)) where
  abbrev pub Sound : Located → Type 0
  Sound q = part_faults (entries_in text) q ≡ []

  item_names : (at : Place) (i : Item) → Each Sound (located_item at (of_body i) i) → map (λ f. f.name) (fields_by_item (shape_named (entries_in text)) at i) ≡ field_names i
  item_names at (Fields form ds) h =
      declared_names (shape_of (entries_in text) at form)
      (part_shaped text shaped (at, of_body (Fields form ds)) form refl (each_back Sound (located_form at form) ((at, of_body (Fields form ds)) ∷ []) h).0) ds
  item_names at (Alias form words) h = refl
  item_names at (Definition form ds) h = refl
  item_names at (Compound form) h = refl

  pub body_names : (block : Place) (n : ℕ) (is : Items) → Each Sound (located_items block n is) →
      map (λ f. f.name) (fields_by (shape_named (entries_in text)) block n is) ≡ flat_map field_names (items_in is)
  body_names block n no_item h = refl
  body_names block n (some_items i is) h =
      let here : List Located = located_item (n ∷ block) (of_body i) i in
      let after : List Located = located_items block (n + 1) is in
      map-append (λ f. f.name) (fields_by_item (shape_named (entries_in text)) (n ∷ block) i) (fields_by (shape_named (entries_in text)) block (n + 1) is)
      ∙ ap (λ ns. ns ++ map (λ f. f.name) (fields_by (shape_named (entries_in text)) block (n + 1) is)) (item_names (n ∷ block) i (each_front Sound here after h))
      ∙ ap (λ ns. field_names i ++ ns) (body_names block (n + 1) is (each_back Sound here after h))

  -- of a part, what its inner parts are
  abbrev pub Inner : Located → Type 0
  Inner q = (form : Form) → class_of q.1 ≡ Some form → Each Sound (located_form q.0 form)

  own_inner : (at : Place) (part : Part) (form : Form) → class_of part ≡ Some form → Each Sound (located_form at form) → Inner (at, part)
  own_inner at part form e h other f = subst (λ x. Each Sound (located_form at x)) (some_same form other (sym e ∙ f)) h

  no_inner : (at : Place) (part : Part) → class_of part ≡ None → Inner (at, part)
  no_inner at part e other f = absurd (none_some other (sym e ∙ f))

  -- the parts of a class, and the part that has it
  after_inner : (at : Place) (part : Part) (form : Form) → class_of part ≡ Some form → Each Inner (located_form at form) → Each Sound (located_form at form ++ (at, part) ∷ []) →
      Each Inner (located_form at form ++ (at, part) ∷ [])
  after_inner at part form e inner h =
      each_append Inner (located_form at form) ((at, part) ∷ []) inner
      (own_inner at part form e (each_front Sound (located_form at form) ((at, part) ∷ []) h), tt)

  mutual
    inner_form : (at : Place) (form : Form) → Each Sound (located_form at form) → Each Inner (located_form at form)
    inner_form at (Struct name is align) h = inner_items at 0 is h
    inner_form at (Variant name tag is) h = inner_items at 0 is h
    inner_form at (Integer settings) h = tt
    inner_form at (Float settings) h = tt
    inner_form at (String settings) h = tt
    inner_form at (Enum name c labels) h = tt
    inner_form at (Named name tag) h = tt

    inner_item : (at : Place) (part : Part) (i : Item) → class_of part ≡ Some (form_in i) → Each Sound (located_item at part i) → Each Inner (located_item at part i)
    inner_item at part (Fields form ds) e h = after_inner at part form e (inner_form at form (each_front Sound (located_form at form) ((at, part) ∷ []) h)) h
    inner_item at part (Alias form words) e h = after_inner at part form e (inner_form at form (each_front Sound (located_form at form) ((at, part) ∷ []) h)) h
    inner_item at part (Definition form ds) e h = after_inner at part form e (inner_form at form (each_front Sound (located_form at form) ((at, part) ∷ []) h)) h
    inner_item at part (Compound form) e h = after_inner at part form e (inner_form at form (each_front Sound (located_form at form) ((at, part) ∷ []) h)) h

    inner_items : (block : Place) (n : ℕ) (is : Items) → Each Sound (located_items block n is) → Each Inner (located_items block n is)
    inner_items block n no_item h = tt
    inner_items block n (some_items i is) h =
        let here : List Located = located_item (n ∷ block) (of_body i) i in
        let after : List Located = located_items block (n + 1) is in
        each_append Inner here after
        (inner_item (n ∷ block) (of_body i) i refl (each_front Sound here after h))
        (inner_items block (n + 1) is (each_back Sound here after h))

  inner_entry : (at : Place) (e : BlockEntry) → Each Sound (located_entry at e) → Each Inner (located_entry at e)
  inner_entry at (Assigned setting) h = (no_inner at (of_block (Assigned setting)) refl, tt)
  inner_entry at (Classed words form) h =
      after_inner at (of_block (Classed words form)) form refl (inner_form at form (each_front Sound (located_form at form) ((at, of_block (Classed words form)) ∷ []) h)) h
  inner_entry at (Declared item) h = inner_item at (of_block (Declared item)) item refl h

  inner_entries : (block : Place) (n : ℕ) (es : List BlockEntry) → Each Sound (located_entries block n es) → Each Inner (located_entries block n es)
  inner_entries block n [] h = tt
  inner_entries block n (e ∷ es) h =
      let here : List Located = located_entry (n ∷ block) e in
      let after : List Located = located_entries block (n + 1) es in
      each_append Inner here after
      (inner_entry (n ∷ block) e (each_front Sound here after h))
      (inner_entries block (n + 1) es (each_back Sound here after h))

  inner_declaration : (at : Place) (d : Declaration) → Each Sound (located at d) → Each Inner (located at d)
  inner_declaration at (Block kind entries) h =
      each_append Inner (located_entries at 0 entries) ((at, of_text (Block kind entries)) ∷ [])
      (inner_entries at 0 entries (each_front Sound (located_entries at 0 entries) ((at, of_text (Block kind entries)) ∷ []) h))
      (no_inner at (of_text (Block kind entries)) refl, tt)
  inner_declaration at (Table kind settings) h = (no_inner at (of_text (Table kind settings)) refl, tt)
  inner_declaration at (Names item) h = inner_item at (of_text (Names item)) item refl h

  pub inner_from : (n : ℕ) (ds : List Declaration) → Each Sound (located_from n ds) → Each Inner (located_from n ds)
  inner_from n [] h = tt
  inner_from n (d ∷ ds) h =
      each_append Inner (located (n ∷ []) d) (located_from (n + 1) ds)
      (inner_declaration (n ∷ []) d (each_front Sound (located (n ∷ []) d) (located_from (n + 1) ds) h))
      (inner_from (n + 1) ds (each_back Sound (located (n ∷ []) d) (located_from (n + 1) ds) h))

  pub form_names : (at : Place) (form : Form) → Each Sound (located_form at form) →
      map (λ f. f.name) (fields_by (shape_named (entries_in text)) at 0 (items_of form)) ≡ flat_map field_names (body_of form)
  form_names at (Struct name is align) h = body_names at 0 is h
  form_names at (Variant name tag is) h = body_names at 0 is h
  form_names at (Integer settings) h = refl
  form_names at (Float settings) h = refl
  form_names at (String settings) h = refl
  form_names at (Enum name c labels) h = refl
  form_names at (Named name tag) h = refl

-- the one of a list that is between two others
each_between : {X : Type 0} (P : X → Type 0) (xs : List X) (x : X) (ys zs : List X) → zs ≡ xs ++ x ∷ ys → Each P zs → P x
each_between P xs x ys zs e h = (each_back P xs (x ∷ ys) (subst (Each P) e h)).0

no_fault_sound : (text : List Declaration) → flat_map (own_faults text) (numbered text) ≡ [] → Each (λ q. part_faults (entries_in text) q ≡ []) (located_from 0 text)
no_fault_sound text h =
    parts_each (λ q. part_faults (entries_in text) q ≡ []) 0 text
    (each_map (λ p. own_faults text p ≡ []) (λ p. Each (λ q. part_faults (entries_in text) q ≡ []) (located (p.0 ∷ []) p.1)) (own_sound text)
    (numbered text) (each_none (own_faults text) (numbered text) h))

pub each_has_shape : (text : List Declaration) → flat_map (own_faults text) (numbered text) ≡ [] → (earlier later : List Located) (p : Located) (form : Form) →
    located_from 0 text ≡ earlier ++ p ∷ later → class_of p.1 ≡ Some form → (shape : Shape) × (shape_of (entries_in text) p.0 form ≡ Some shape)
each_has_shape text h earlier later p form e here =
    let sound : Each (λ q. part_faults (entries_in text) q ≡ []) (located_from 0 text) = no_fault_sound text h in
    part_shaped text (text_shaped text sound) p form here (each_between (λ q. part_faults (entries_in text) q ≡ []) earlier p later (located_from 0 text) e sound)

pub keeps_members : (text : List Declaration) → flat_map (own_faults text) (numbered text) ≡ [] → (earlier later : List Located) (p : Located) (form : Form) →
    located_from 0 text ≡ earlier ++ p ∷ later → class_of p.1 ≡ Some form →
    map (λ f. f.name) (fields_by (shape_named (entries_in text)) p.0 0 (items_of form)) ≡ flat_map field_names (body_of form)
keeps_members text h earlier later p form e here =
    let sound : Each (λ q. part_faults (entries_in text) q ≡ []) (located_from 0 text) = no_fault_sound text h in
    let shaped : Each Shaped (entries_in text) = text_shaped text sound in
    form_names text shaped p.0 form (each_between (Inner text shaped) earlier p later (located_from 0 text) e (inner_from text shaped 0 text sound) form here)

not_below : (m n : ℕ) → nat_lt m n ≡ false → n ≤ m
not_below m n h = grind (arith, h)

pub depth_bounded : (text : List Declaration) → flat_map (own_faults text) (numbered text) ≡ [] → (earlier later : List Located) (p : Located) (form : Form) (shape : Shape) →
    located_from 0 text ≡ earlier ++ p ∷ later → class_of p.1 ≡ Some form → shape_of (entries_in text) p.0 form ≡ Some shape → depth_of shape ≤ most_deep
depth_bounded text h earlier later (at, part) form shape e here known =
    let all = entries_in text in
    let classes : List ResolveFault = option_map_or (class_faults all at) (class_of part) [] in
    let depths : List ResolveFault = depth_faults all (at, part) in
    let names : List ResolveFault = name_faults all (at, part) in
    let faults : classes ++ depths ++ names ++ minus_faults (settings_in part) ≡ [] =
    each_between (λ q. part_faults (entries_in text) q ≡ []) earlier (at, part) later (located_from 0 text) e (no_fault_sound text h) in
    let deep : depths ≡ [] = append_right classes depths (append_left (classes ++ depths) names (append_left (classes ++ depths ++ names) (minus_faults (settings_in part)) faults)) in
    let found : option_and_then (shape_of all at) (class_of part) ≡ Some shape = ap (option_and_then (shape_of all at)) here ∙ known in
    let tests : List (List Length) = [] ∷ map (λ g. g.lengths) (given_of part) in
    let none : when (list_any (is_deep all shape) tests) TooDeep ≡ [] =
    ap (λ o. option_map_or (λ s. when (list_any (is_deep all s) tests) TooDeep) o []) (sym found) ∙ deep in
    not_below most_deep (depth_of shape)
    (or_left (is_deep all shape []) (list_any (is_deep all shape) (map (λ g. g.lengths) (given_of part))) (when_not (list_any (is_deep all shape) tests) TooDeep none))
