-- Classes with their bodies: what is reported of them is what is wrong with the parts in them and with themselves, or
-- their shape.
use Rattle.std.proofs.Common.{◌≡◌, ℕ, ◌+◌, max, nat_lt, Bool, true, false, ◌||◌, inl, inr, List, [], ◌∷◌, ◌++◌, map, Option, Some, None, Ok, is_none, refl, ap, ap₂, sym, ◌∙◌, subst, append-nil, append_assoc, flat_map, option_map, Contains, arith}
use Rattle.std.proofs.lemmas.List.Folds.{list_any-append}
use Rattle.std.proofs.lemmas.List.Elements.{Contains-append_left, Contains-append_right, Contains-append_cases}
use Rattle.tsdl_tree.specs.declared.tree.Container.TheVariants as container
use Rattle.tsdl_tree.specs.declared.tree.Declarator.{Declarator}
use Rattle.tsdl_tree.specs.declared.tree.Label.{Label}
use Rattle.ctf_meaning.specs.declared.fault.ResolveFault.{ResolveFault}
use Rattle.ctf_meaning.specs.declared.fault.ResolveFault.TheVariants.{UnknownType, DeclaredTwice, TooDeep}
use Rattle.ctf_meaning.specs.declared.integer.DeclaredInteger.{DeclaredInteger}
use Rattle.ctf_meaning.specs.Name.{Word, Name, same_word}
use Rattle.ctf_meaning.specs.Written.{Form, Item, Items, Integer, Float, String, Struct, Variant, Enum, Named, Fields, Alias, Definition, Compound, no_item, some_items, items_in, form_in}
use Rattle.ctf_meaning.specs.Parts.{Place, Part, Located, of_body, class_of, given_of, given_in, settings_in, settings_in_form, located_form, located_item, located_items}
use Rattle.ctf_meaning.specs.Settings.{when, minus_faults, string_faults}
use Rattle.ctf_meaning.specs.Integers.{integer_faults, good_integer}
use Rattle.ctf_meaning.specs.Labels.{labels_of}
use Rattle.ctf_meaning.specs.Labels as labels
use Rattle.ctf_meaning.specs.Shapes.{Shape, Field, depth_of, depth_of_members, integer, float, string, enum, variant, structure, members_from, with_tag, container_at, declared, fields_by, fields_by_item}
use Rattle.ctf_meaning.specs.Names.{Entry, meaning, shape_named, shape_of, entries_after}
use Rattle.ctf_meaning.specs.Own.{most_deep, has_twins, field_names, unknown_faults, no_integer_faults, class_faults, align_faults}
use Rattle.ctf_meaning_steps.specs.Told.{Told, ◌>>=◌, unless}
use Rattle.ctf_meaning_steps.specs.Seen.{Seen, nothing_seen, within}
use Rattle.ctf_meaning_steps.specs.Classes.{named_told, container_told, compound_told, fields_told, has_deep, field_faults}
use Rattle.ctf_meaning_steps.specs.Items.{Made, shape_told, item_told, body_told}
use Rattle.ctf_meaning.proofs.Lists.{Each, each_map, append_left, append_right}
use Rattle.ctf_meaning.proofs.Members.{map-append}
use Rattle.ctf_meaning.proofs.Sees.{Under, here}
use Rattle.ctf_meaning.proofs.Seen.{entries_after-append, meaning-entries_after, ordered_after}
use Rattle.ctf_meaning.proofs.Order.{Unseen, NoneSees, Ordered, Below, Within, order_form, order_item, order_items}
use Rattle.ctf_meaning.proofs.Earlier.{SameAt, SameIn, shape_same}
use Rattle.ctf_meaning_steps.proofs.Telling.{Tells, TellsDeep, deep_as, deep_by, deep_after, deep_then, tells_then, tells_made, tells_unless, tells_same, tells_by, append_none}
use Rattle.ctf_meaning_steps.proofs.Seeing.{Holds, Sees, Clear, sees_within, sees_after, holds_nothing, holds_after, unseen_below, unseen_inside, clear_inside, clear_next, holds_next, Inside, unseen_deep}
use Rattle.ctf_meaning_steps.proofs.Leaves.{tells_two, integer_tells, named_tells, named_integer}
use Rattle.ctf_meaning_steps.proofs.Parts.{faults_after, faults_after-append, is_deep_in, part_tells}

three_nil : (xs : List ResolveFault) → ((xs ++ []) ++ []) ++ [] ≡ xs
three_nil xs = append-nil ((xs ++ []) ++ []) ∙ append-nil (xs ++ []) ∙ append-nil xs

five_nil : (xs : List ResolveFault) → ((((xs ++ []) ++ []) ++ []) ++ []) ++ [] ≡ xs
five_nil xs = append-nil ((((xs ++ []) ++ []) ++ []) ++ []) ∙ append-nil (((xs ++ []) ++ []) ++ []) ∙ three_nil xs

-- what is wrong with a class where it is written, beside its settings of no number
abbrev pub form_faults : List Entry → Place → Form → List ResolveFault
form_faults es at form = class_faults es at form ++ minus_faults (settings_in_form form)

-- an enumeration by its container
module _ (attributes minus after : List ResolveFault) where
  abbrev contained : List ResolveFault
  contained = (attributes ++ minus) ++ after

  abbrev written : List ResolveFault
  written = ((((attributes ++ []) ++ after) ++ [])) ++ minus

  written_none : contained ≡ [] → written ≡ []
  written_none h =
      let front : attributes ++ minus ≡ [] = append_left (attributes ++ minus) after h in
      append_none (((attributes ++ []) ++ after) ++ []) minus
      (append_none ((attributes ++ []) ++ after) [] (append_none (attributes ++ []) after (append_none attributes [] (append_left attributes minus front) refl) (append_right (attributes ++ minus) after h)) refl)
      (append_right attributes minus front)

  written_some : (f : ResolveFault) → Contains contained f → Contains written f
  written_some f h =
      elim (Contains-append_cases (attributes ++ minus) after f h) as (λ _. Contains written f) [
        | inl front ↦ elim (Contains-append_cases attributes minus f front) as (λ _. Contains written f) [
          | inl own ↦ Contains-append_left (((attributes ++ []) ++ after) ++ []) minus f (Contains-append_left ((attributes ++ []) ++ after) [] f
              (Contains-append_left (attributes ++ []) after f (Contains-append_left attributes [] f own)))
          | inr sign ↦ Contains-append_right (((attributes ++ []) ++ after) ++ []) minus f sign
        ]
        | inr label ↦ Contains-append_left (((attributes ++ []) ++ after) ++ []) minus f (Contains-append_left ((attributes ++ []) ++ after) [] f
            (Contains-append_right (attributes ++ []) after f label))
      ]

-- an enumeration, once its container is known
enum_tells : (c : Told DeclaredInteger) (F : List ResolveFault) (o : Option DeclaredInteger) (ls : List Label) → Tells (Unit {0}) c F (λ i. o ≡ Some i) →
    Tells (Unit {0}) (c >>= λ i. unless (labels.label_faults ls) (Ok (enum i (labels_of ls)))) (F ++ labels.label_faults ls) (λ shape. option_map (λ i. enum i (labels_of ls)) o ≡ Some shape)
enum_tells c F o ls h =
    tells_then (Unit {0}) c (λ i. unless (labels.label_faults ls) (Ok (enum i (labels_of ls)))) F (labels.label_faults ls) (λ i. o ≡ Some i) (λ shape. option_map (λ i. enum i (labels_of ls)) o ≡ Some shape) h
    (λ i e known. tells_same (Unit {0}) (unless (labels.label_faults ls) (Ok (enum i (labels_of ls)))) (labels.label_faults ls ++ []) (labels.label_faults ls) _ (append-nil (labels.label_faults ls))
    (tells_unless (Unit {0}) (labels.label_faults ls) (Ok (enum i (labels_of ls))) [] (λ shape. option_map (λ j. enum j (labels_of ls)) o ≡ Some shape)
    (λ f. (refl, ap (option_map (λ j. enum j (labels_of ls))) known))))

-- the faults of an enumeration with a container that is a name
named_listed : (u n l : List ResolveFault) → (u ++ n) ++ l ≡ (((((u ++ []) ++ []) ++ n) ++ l) ++ []) ++ []
named_listed u n l =
    ap (λ xs. (xs ++ n) ++ l) (sym (append-nil (u ++ []) ∙ append-nil u)) ∙ sym (append-nil (((((u ++ []) ++ []) ++ n) ++ l) ++ []) ∙ append-nil ((((u ++ []) ++ []) ++ n) ++ l))

-- the members of a body are those that are written, each by the entries as they are after the body
pub record Body (es : List Entry) (block : Place) (number : ℕ) (before : List Field) (is : Items) (all : List Field) : Type 0 where
  pub fields : all ≡ before ++ fields_by (shape_named (entries_after es (located_items block number is))) block number is
  pub names : map (λ f. f.name) all ≡ map (λ f. f.name) before ++ flat_map field_names (items_in is)

-- a class and the names after it
pub record MadeBy (es : List Entry) (block : Place) (number : ℕ) (part : Part) (i : Item) (made : Made) : Type 0 where
  pub shape : shape_of (entries_after es (located_form (number ∷ block) (form_in i))) (number ∷ block) (form_in i) ≡ Some made.shape
  pub holds : Holds (entries_after es (located_item (number ∷ block) part i)) block (number + 1) made.own

-- a structure, once its members are known
structure_tells : (es : List Entry) (at : Place) (name : Option Word) (is : Items) (align : Option ℕ) (fields : List Field) → Body es at 0 [] is fields →
    Tells (Unit {0}) (unless (align_faults (Struct name is align)) (compound_told fields (structure align fields))) (form_faults (entries_after es (located_items at 0 is)) at (Struct name is align))
    (λ shape. Some (structure align (fields_by (shape_named (entries_after es (located_items at 0 is))) at 0 is)) ≡ Some shape)
structure_tells es at name is align fields body =
    let aligned : List ResolveFault = align_faults (Struct name is align) in
    let twins : List ResolveFault = when (has_twins same_word (flat_map field_names (items_in is))) DeclaredTwice in
    let own : List ResolveFault = when (has_twins same_word (map (λ f. f.name) fields)) DeclaredTwice in
    let listed : twins ++ aligned ≡ ((((twins ++ []) ++ []) ++ []) ++ aligned) ++ [] =
    ap (λ xs. xs ++ aligned) (sym (three_nil twins)) ∙ sym (append-nil ((((twins ++ []) ++ []) ++ []) ++ aligned)) in
    tells_same (Unit {0}) (unless aligned (unless own (Ok (structure align fields)))) (own ++ aligned) (form_faults (entries_after es (located_items at 0 is)) at (Struct name is align)) _
    (ap (λ ns. when (has_twins same_word ns) DeclaredTwice ++ aligned) body.names ∙ listed)
    (tells_two aligned own (structure align fields) _ (λ e. ap (λ fs. Some (structure align fs)) (sym body.fields)))

variant_tells : (es : List Entry) (at : Place) (name : Option Word) (tag : Option (List Word)) (is : Items) (fields : List Field) → Body es at 0 [] is fields →
    Tells (Unit {0}) (compound_told fields (variant tag (members_from fields))) (form_faults (entries_after es (located_items at 0 is)) at (Variant name tag is))
    (λ shape. Some (variant tag (members_from (fields_by (shape_named (entries_after es (located_items at 0 is))) at 0 is))) ≡ Some shape)
variant_tells es at name tag is fields body =
    let twins : List ResolveFault = when (has_twins same_word (flat_map field_names (items_in is))) DeclaredTwice in
    let own : List ResolveFault = when (has_twins same_word (map (λ f. f.name) fields)) DeclaredTwice in
    tells_same (Unit {0}) (unless own (Ok (variant tag (members_from fields)))) (own ++ []) (form_faults (entries_after es (located_items at 0 is)) at (Variant name tag is)) _
    (append-nil own ∙ ap (λ ns. when (has_twins same_word ns) DeclaredTwice) body.names ∙ sym (five_nil twins))
    (tells_unless (Unit {0}) own (Ok (variant tag (members_from fields))) [] _ (λ e. (refl, ap (λ fs. Some (variant tag (members_from fs))) (sym body.fields))))

declared_names : (shape : Shape) (ds : List Declarator) → map (λ f. f.name) (declared (Some shape) ds) ≡ map (λ d. d.name) ds
declared_names shape [] = refl
declared_names shape (d ∷ ds) = ap (λ ns. d.name ∷ ns) (declared_names shape ds)

told_names : (i : Item) (shape : Shape) → map (λ f. f.name) (fields_told i shape) ≡ field_names i
told_names (Fields form ds) shape = declared_names shape ds
told_names (Alias form words) shape = refl
told_names (Definition form ds) shape = refl
told_names (Compound form) shape = refl

told_fields : (es : List Entry) (at : Place) (i : Item) (shape : Shape) → shape_of es at (form_in i) ≡ Some shape → fields_by_item (shape_named es) at i ≡ fields_told i shape
told_fields es at (Fields form ds) shape e = ap (λ o. declared o ds) e
told_fields es at (Alias form words) shape e = refl
told_fields es at (Definition form ds) shape e = refl
told_fields es at (Compound form) shape e = refl

item_parts : (at : Place) (part : Part) (i : Item) → located_item at part i ≡ located_form at (form_in i) ++ (at, part) ∷ []
item_parts at part (Fields form ds) = refl
item_parts at part (Alias form words) = refl
item_parts at part (Definition form ds) = refl
item_parts at part (Compound form) = refl

-- The class of an item is the same by the entries as they are after the items that follow.
shape_later : (es : List Entry) (block : Place) (number : ℕ) (i : Item) (is : Items) →
    shape_of (entries_after es (located_items block number (some_items i is))) (number ∷ block) (form_in i)
    ≡ shape_of (entries_after es (located_form (number ∷ block) (form_in i))) (number ∷ block) (form_in i)
shape_later es block number i is =
    let at : Place = number ∷ block in
    let inner : List Located = located_form at (form_in i) in
    let after : List Located = (at, of_body i) ∷ located_items block (number + 1) is in
    let parts : located_items block number (some_items i is) ≡ inner ++ after =
    ap (λ ps. ps ++ located_items block (number + 1) is) (item_parts at (of_body i) i) ∙ append_assoc inner ((at, of_body i) ∷ []) (located_items block (number + 1) is) in
    let later : Each (NoneSees at) after = ordered_after inner (at, of_body i) (located_items block (number + 1) is) (subst Ordered parts (order_items block number (some_items i is)).ordered) in
    let before : List Entry = entries_after es inner in
    let same : (y : Place) → Under at y → SameAt (entries_after before after) before y =
    λ y u name. meaning-entries_after after before y name (each_map (NoneSees at) (Unseen y) (λ q h. h y u) after later) in
    ap (λ ps. shape_of (entries_after es ps) at (form_in i)) parts
    ∙ ap (λ fs. shape_of fs at (form_in i)) (entries_after-append es inner after)
    ∙ shape_same (entries_after before after) before at (form_in i) (same at here)
    (each_map (Below at) (SameIn (entries_after before after) before) (λ q u. same q.0 u) inner (order_form at (form_in i)).below)

-- The entries of what is in a class change nothing for the block around it, before the class and after it.
pub holds_within : (es : List Entry) (block : Place) (number : ℕ) (own : Seen) (form : Form) → Holds es block number own → Holds (entries_after es (located_form (number ∷ block) form)) block number own
holds_within es block number own form holds =
    holds_after es block number own (located_form (number ∷ block) form) (unseen_below (number ∷ block) (located_form (number ∷ block) form) (order_form (number ∷ block) form).below) holds

pub inside_form : (at : Place) (form : Form) → Each (Inside at) (located_form at form)
inside_form at (Struct name is align) = each_map (Within at 0) (Inside at) (λ q w. (w.0, w.2)) (located_items at 0 is) (order_items at 0 is).within
inside_form at (Variant name tag is) = each_map (Within at 0) (Inside at) (λ q w. (w.0, w.2)) (located_items at 0 is) (order_items at 0 is).within
inside_form at (Integer settings) = tt
inside_form at (Float settings) = tt
inside_form at (String settings) = tt
inside_form at (Enum name c ls) = tt
inside_form at (Named name tag) = tt

pub holds_after_form : (es : List Entry) (block : Place) (number : ℕ) (own : Seen) (form : Form) → Clear es block number → Holds es block number own →
    Holds (entries_after es (located_form (number ∷ block) form)) block (number + 1) own
holds_after_form es block number own form clear holds =
    holds_after es block (number + 1) own (located_form (number ∷ block) form) (unseen_deep number (number + 1) block (located_form (number ∷ block) form) (inside_form (number ∷ block) form))
    (holds_next es block number own clear holds)

-- the members of an item before those of the others
body_more : (es : List Entry) (block : Place) (number : ℕ) (fields : List Field) (i : Item) (is : Items) (made : Made) (all : List Field) → MadeBy es block number (of_body i) i made →
    Body (entries_after es (located_item (number ∷ block) (of_body i) i)) block (number + 1) (fields ++ fields_told i made.shape) is all → Body es block number fields (some_items i is) all
body_more es block number fields i is made all good rest =
    let at : Place = number ∷ block in
    let ps : List Located = located_item at (of_body i) i in
    let qs : List Located = located_items block (number + 1) is in
    let after : List Field = fields_by (shape_named (entries_after es (ps ++ qs))) block (number + 1) is in
    let told : List Field = fields_told i made.shape in
    let entries : entries_after (entries_after es ps) qs ≡ entries_after es (ps ++ qs) = sym (entries_after-append es ps qs) in
    let first : fields_by_item (shape_named (entries_after es (ps ++ qs))) at i ≡ told = told_fields (entries_after es (ps ++ qs)) at i made.shape (shape_later es block number i is ∙ good.shape) in
    record {
      fields = rest.fields ∙ ap (λ fs. (fields ++ told) ++ fields_by (shape_named fs) block (number + 1) is) entries ∙ append_assoc fields told after ∙ ap (λ xs. fields ++ (xs ++ after)) (sym first);
      names = rest.names ∙ ap (λ ns. ns ++ flat_map field_names (items_in is)) (map-append (λ f. f.name) fields told ∙ ap (λ ns. map (λ f. f.name) fields ++ ns) (told_names i made.shape))
          ∙ append_assoc (map (λ f. f.name) fields) (field_names i) (flat_map field_names (items_in is));
    }

-- A compound is deeper than each of its members.
deep_first : (d m : ℕ) → nat_lt most_deep d ≡ true → nat_lt most_deep (max d m) ≡ true
deep_first d m h = grind (arith, h)

deep_other : (d m : ℕ) → nat_lt most_deep m ≡ true → nat_lt most_deep (max d m) ≡ true
deep_other d m h = grind (arith, h)

deep_around : (m : ℕ) → nat_lt most_deep m ≡ true → nat_lt most_deep (1 + m) ≡ true
deep_around m h = grind (arith, h)

deep_members : (fields : List Field) → has_deep fields ≡ true → nat_lt most_deep (depth_of_members (members_from fields)) ≡ true
deep_members [] h = absurd (grind (arith, h))
deep_members (f ∷ fs) h = by_case (nat_lt most_deep (depth_of f.shape)) refl (deep_members fs)
  where
    by_case : (b : Bool) → nat_lt most_deep (depth_of f.shape) ≡ b → (has_deep fs ≡ true → nat_lt most_deep (depth_of_members (members_from fs)) ≡ true) →
        nat_lt most_deep (depth_of_members (members_from (f ∷ fs))) ≡ true
    by_case true e more = deep_first (depth_of f.shape) (depth_of_members (members_from fs)) e
    by_case false e more = deep_other (depth_of f.shape) (depth_of_members (members_from fs)) (more (ap (λ b. b || has_deep fs) (sym e) ∙ h))

deep_compound : (fields : List Field) → has_deep fields ≡ true → nat_lt most_deep (1 + depth_of_members (members_from fields)) ≡ true
deep_compound fields h = deep_around (depth_of_members (members_from fields)) (deep_members fields h)

-- whether one of the members of a body is too deep, by the entries as they are after the body
abbrev deep_in_body : List Entry → Place → ℕ → Items → Bool
deep_in_body es block number is = has_deep (fields_by (shape_named (entries_after es (located_items block number is))) block number is)

or_left : (a b : Bool) → a ≡ true → (a || b) ≡ true
or_left a b h = ap (λ x. x || b) h

or_right : (a b : Bool) → b ≡ true → (a || b) ≡ true
or_right true b h = refl
or_right false b h = h

-- the members of an item, and those after it, are members of the body
module _ (es : List Entry) (block : Place) (number : ℕ) (i : Item) (is : Items) (made : Made) (good : MadeBy es block number (of_body i) i made) where
  abbrev next_entries : List Entry
  next_entries = entries_after es (located_item (number ∷ block) (of_body i) i)

  parted : deep_in_body es block number (some_items i is) ≡ (has_deep (fields_told i made.shape) || deep_in_body next_entries block (number + 1) is)
  parted =
      let ps : List Located = located_item (number ∷ block) (of_body i) i in
      let qs : List Located = located_items block (number + 1) is in
      let all : List Entry = entries_after es (ps ++ qs) in
      list_any-append (λ f. nat_lt most_deep (depth_of f.shape)) (fields_by_item (shape_named all) (number ∷ block) i) (fields_by (shape_named all) block (number + 1) is)
      ∙ ap₂ (λ a b. has_deep a || has_deep b)
      (told_fields all (number ∷ block) i made.shape (shape_later es block number i is ∙ good.shape))
      (ap (λ fs. fields_by (shape_named fs) block (number + 1) is) (entries_after-append es ps qs))

  deep_here : has_deep (fields_told i made.shape) ≡ true → deep_in_body es block number (some_items i is) ≡ true
  deep_here h = parted ∙ or_left (has_deep (fields_told i made.shape)) (deep_in_body next_entries block (number + 1) is) h

  deep_after_item : deep_in_body next_entries block (number + 1) is ≡ true → deep_in_body es block number (some_items i is) ≡ true
  deep_after_item h = parted ∙ or_right (has_deep (fields_told i made.shape)) (deep_in_body next_entries block (number + 1) is) h

-- a value, where no member before it is too deep
unless_deep : {A : Type 0} (t : Told A) (b c : Bool) (F : List ResolveFault) (Q : A → Type 0) → (b ≡ true → c ≡ true) → TellsDeep t F c Q → TellsDeep (unless (when b TooDeep) t) F c Q
unless_deep t true c F Q k h = inr (refl, k refl)
unless_deep t false c F Q k h = h

mutual
  pub shape_tells : (es : List Entry) (at : Place) (seen : Seen) (form : Form) → Clear es at 0 → Sees es at seen →
      TellsDeep (shape_told seen form) (faults_after es (located_form at form) ++ form_faults (entries_after es (located_form at form)) at form)
      (is_deep_in (shape_of (entries_after es (located_form at form)) at form))
      (λ shape. shape_of (entries_after es (located_form at form)) at form ≡ Some shape)
  shape_tells es at seen (Integer settings) clear sees =
      deep_as (shape_told seen (Integer settings)) _ (is_deep_in (shape_of es at (Integer settings))) _
      (tells_same (Unit {0}) (shape_told seen (Integer settings)) (integer_faults settings ++ minus_faults settings) (form_faults es at (Integer settings)) _
      (ap (λ xs. xs ++ minus_faults settings) (sym (three_nil (integer_faults settings))))
      (tells_made (Unit {0}) _ integer (integer_faults settings ++ minus_faults settings) (λ i. good_integer settings ≡ Some i) _ (integer_tells settings) (λ i e known. ap (option_map integer) known)))
  shape_tells es at seen (Float settings) clear sees =
      deep_as (shape_told seen (Float settings)) _ (is_deep_in (shape_of es at (Float settings))) _
      (tells_same (Unit {0}) (shape_told seen (Float settings)) (minus_faults settings ++ []) (form_faults es at (Float settings)) _ (append-nil (minus_faults settings))
      (tells_unless (Unit {0}) (minus_faults settings) (Ok float) [] _ (λ e. (refl, refl))))
  shape_tells es at seen (String settings) clear sees =
      deep_as (shape_told seen (String settings)) _ (is_deep_in (shape_of es at (String settings))) _
      (tells_same (Unit {0}) (shape_told seen (String settings)) (string_faults settings ++ minus_faults settings) (form_faults es at (String settings)) _
      (ap (λ xs. xs ++ minus_faults settings) (sym (three_nil (string_faults settings))))
      (tells_two (minus_faults settings) (string_faults settings) string _ (λ e. refl)))
  shape_tells es at seen (Struct name is align) clear sees =
      deep_then (body_told seen nothing_seen [] is) _ (faults_after es (located_items at 0 is)) (form_faults (entries_after es (located_items at 0 is)) at (Struct name is align))
      (deep_in_body es at 0 is) (is_deep_in (shape_of (entries_after es (located_items at 0 is)) at (Struct name is align)))
      (Body es at 0 [] is) _ (deep_compound (fields_by (shape_named (entries_after es (located_items at 0 is))) at 0 is))
      (body_tells es at 0 nothing_seen seen [] is clear (holds_nothing es at) sees)
      (λ fields e body. structure_tells es at name is align fields body)
  shape_tells es at seen (Variant name tag is) clear sees =
      deep_then (body_told seen nothing_seen [] is) _ (faults_after es (located_items at 0 is)) (form_faults (entries_after es (located_items at 0 is)) at (Variant name tag is))
      (deep_in_body es at 0 is) (is_deep_in (shape_of (entries_after es (located_items at 0 is)) at (Variant name tag is)))
      (Body es at 0 [] is) _ (deep_compound (fields_by (shape_named (entries_after es (located_items at 0 is))) at 0 is))
      (body_tells es at 0 nothing_seen seen [] is clear (holds_nothing es at) sees)
      (λ fields e body. variant_tells es at name tag is fields body)
  shape_tells es at seen (Enum name None ls) clear sees =
      deep_as (shape_told seen (Enum name None ls)) _ (is_deep_in (shape_of es at (Enum name None ls))) _
      (tells_same (Unit {0}) (shape_told seen (Enum name None ls)) _ (form_faults es at (Enum name None ls)) _
      (named_listed (unknown_faults es at (Enum name None ls)) (no_integer_faults es at (Enum name None ls)) (labels.label_faults ls))
      (enum_tells (container_told seen None) _ (container_at (shape_named es) at None) ls (named_integer es at seen sees _)))
  shape_tells es at seen (Enum name (Some (container.Named typename)) ls) clear sees =
      deep_as (shape_told seen (Enum name (Some (container.Named typename)) ls)) _ (is_deep_in (shape_of es at (Enum name (Some (container.Named typename)) ls))) _
      (tells_same (Unit {0}) (shape_told seen (Enum name (Some (container.Named typename)) ls)) _ (form_faults es at (Enum name (Some (container.Named typename)) ls)) _
      (named_listed (unknown_faults es at (Enum name (Some (container.Named typename)) ls)) (no_integer_faults es at (Enum name (Some (container.Named typename)) ls)) (labels.label_faults ls))
      (enum_tells (container_told seen (Some (container.Named typename))) _ (container_at (shape_named es) at (Some (container.Named typename))) ls (named_integer es at seen sees (Name.Plain typename.words))))
  shape_tells es at seen (Enum name (Some (container.Integer settings)) ls) clear sees =
      deep_as (shape_told seen (Enum name (Some (container.Integer settings)) ls)) _ (is_deep_in (shape_of es at (Enum name (Some (container.Integer settings)) ls))) _
      (tells_by (Unit {0}) (shape_told seen (Enum name (Some (container.Integer settings)) ls)) ((integer_faults settings ++ minus_faults settings) ++ labels.label_faults ls) (form_faults es at (Enum name (Some (container.Integer settings)) ls)) _
      (written_none (integer_faults settings) (minus_faults settings) (labels.label_faults ls)) (written_some (integer_faults settings) (minus_faults settings) (labels.label_faults ls))
      (enum_tells (container_told seen (Some (container.Integer settings))) _ (container_at (shape_named es) at (Some (container.Integer settings))) ls (integer_tells settings)))
  shape_tells es at seen (Named name tag) clear sees =
      deep_as (shape_told seen (Named name tag)) _ (is_deep_in (shape_of es at (Named name tag))) _
      (tells_same (Unit {0}) (shape_told seen (Named name tag)) (when (is_none (meaning es at name)) UnknownType) (form_faults es at (Named name tag)) _
      (sym (append-nil _ ∙ five_nil (when (is_none (meaning es at name)) UnknownType)))
      (tells_made (Unit {0}) (named_told seen name) (with_tag tag) (when (is_none (meaning es at name)) UnknownType) (λ shape. shape_named es at name ≡ Some shape) _ (named_tells es at seen sees name)
      (λ shape e known. ap (option_map (with_tag tag)) known)))

  pub item_tells : (es : List Entry) (block : Place) (number : ℕ) (own outer : Seen) (part : Part) (i : Item) →
      class_of part ≡ Some (form_in i) → settings_in part ≡ settings_in_form (form_in i) → given_of part ≡ given_in i →
      Clear es block number → Holds es block number own → Sees es block outer →
      Tells (Unit {0}) (item_told outer own i) (faults_after es (located_item (number ∷ block) part i)) (MadeBy es block number part i)
  item_tells es block number own outer part (Fields form ds) stands settled given clear holds sees =
      part_tells es block number (located_form (number ∷ block) form) part form (shape_told (within own outer) form) own (given_in (Fields form ds)) (λ shape after. record { shape = shape; own = after }) _ stands settled given
      (shape_tells es (number ∷ block) (within own outer) form (clear_inside es block number clear) (sees_within es block number own outer holds sees))
      (holds_within es block number own form holds) (holds_after_form es block number own form clear holds) (λ shape after known h. record { shape = known; holds = h })
  item_tells es block number own outer part (Alias form words) stands settled given clear holds sees =
      part_tells es block number (located_form (number ∷ block) form) part form (shape_told (within own outer) form) own (given_in (Alias form words)) (λ shape after. record { shape = shape; own = after }) _ stands settled given
      (shape_tells es (number ∷ block) (within own outer) form (clear_inside es block number clear) (sees_within es block number own outer holds sees))
      (holds_within es block number own form holds) (holds_after_form es block number own form clear holds) (λ shape after known h. record { shape = known; holds = h })
  item_tells es block number own outer part (Definition form ds) stands settled given clear holds sees =
      part_tells es block number (located_form (number ∷ block) form) part form (shape_told (within own outer) form) own (given_in (Definition form ds)) (λ shape after. record { shape = shape; own = after }) _ stands settled given
      (shape_tells es (number ∷ block) (within own outer) form (clear_inside es block number clear) (sees_within es block number own outer holds sees))
      (holds_within es block number own form holds) (holds_after_form es block number own form clear holds) (λ shape after known h. record { shape = known; holds = h })
  item_tells es block number own outer part (Compound form) stands settled given clear holds sees =
      part_tells es block number (located_form (number ∷ block) form) part form (shape_told (within own outer) form) own (given_in (Compound form)) (λ shape after. record { shape = shape; own = after }) _ stands settled given
      (shape_tells es (number ∷ block) (within own outer) form (clear_inside es block number clear) (sees_within es block number own outer holds sees))
      (holds_within es block number own form holds) (holds_after_form es block number own form clear holds) (λ shape after known h. record { shape = known; holds = h })

  pub body_tells : (es : List Entry) (block : Place) (number : ℕ) (own outer : Seen) (fields : List Field) (is : Items) → Clear es block number → Holds es block number own → Sees es block outer →
      TellsDeep (body_told outer own fields is) (faults_after es (located_items block number is)) (deep_in_body es block number is) (Body es block number fields is)
  body_tells es block number own outer fields no_item clear holds sees = (refl, record { fields = sym (append-nil fields); names = sym (append-nil (map (λ f. f.name) fields)) })
  body_tells es block number own outer fields (some_items i is) clear holds sees =
      let at : Place = number ∷ block in
      let ps : List Located = located_item at (of_body i) i in
      let qs : List Located = located_items block (number + 1) is in
      let next : List Entry = entries_after es ps in
      let below : Each (Below at) ps = (order_item at (of_body i) i).below in
      let deep : Bool = deep_in_body es block number (some_items i is) in
      deep_by (body_told outer own fields (some_items i is)) (faults_after es ps ++ faults_after next qs) (faults_after es (ps ++ qs)) deep deep
      (Body es block number fields (some_items i is)) (Body es block number fields (some_items i is)) (sym (faults_after-append es ps qs)) (λ h. h) (λ all h. h)
      (deep_after (item_told outer own i)
      (λ made. unless (field_faults (fields_told i made.shape)) (body_told outer made.own (fields ++ fields_told i made.shape) is)) (faults_after es ps) (faults_after next qs) deep
      (MadeBy es block number (of_body i) i) (Body es block number fields (some_items i is))
      (item_tells es block number own outer (of_body i) i refl refl refl clear holds sees)
      (λ made e good. unless_deep (body_told outer made.own (fields ++ fields_told i made.shape) is) (has_deep (fields_told i made.shape)) deep (faults_after next qs) (Body es block number fields (some_items i is))
      (deep_here es block number i is made good)
      (deep_by (body_told outer made.own (fields ++ fields_told i made.shape) is) (faults_after next qs) (faults_after next qs) (deep_in_body next block (number + 1) is) deep
      (Body next block (number + 1) (fields ++ fields_told i made.shape) is) (Body es block number fields (some_items i is)) refl (deep_after_item es block number i is made good)
      (λ all rest. body_more es block number fields i is made all good rest)
      (body_tells next block (number + 1) made.own outer (fields ++ fields_told i made.shape) is (clear_next es block number ps clear below) good.holds (sees_after es block outer ps (unseen_inside number block ps below) sees)))))
