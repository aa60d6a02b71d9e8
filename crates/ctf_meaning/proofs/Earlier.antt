-- The class that is written in a part, and the part's faults, depend on what is before the part alone.
use Rattle.std.proofs.Common.{◌≡◌, ℕ, ◌+◌, Bool, ◌||◌, List, [], ◌∷◌, ◌++◌, map, Option, Some, None, refl, ap, ◌∙◌}
use Rattle.std.specs.Prelude.{option_map, option_and_then, is_none, is_some}
use Rattle.std.specs.List.{list_any}
use Rattle.std.specs.Option.{option_map_or}
use Rattle.tsdl_tree.specs.declared.tree.Container.{Container}
use Rattle.tsdl_tree.specs.declared.tree.Container.TheVariants as container
use Rattle.ctf_meaning.specs.declared.fault.ResolveFault.TheVariants.{UnknownType, DeclaredTwice, Attribute, TooDeep}
use Rattle.ctf_meaning.specs.Name.{Name, same_name}
use Rattle.ctf_meaning.specs.Written.{Form, Item, Items, Declaration, Integer, Float, String, Struct, Variant, Enum, Named, Fields, Alias, Definition, Compound, no_item, some_items}
use Rattle.ctf_meaning.specs.Parts.{Place, Part, Located, Given, of_body, class_of, given_of, settings_in, located_form, located_item, located_items, located_from}
use Rattle.ctf_meaning.specs.Settings.{when, minus_faults}
use Rattle.ctf_meaning.specs.Labels.{labels_of}
use Rattle.ctf_meaning.specs.Shapes.{integer_in, enum, structure, variant, members_from, with_tag, container_at, declared, fields_by, fields_by_item}
use Rattle.ctf_meaning.specs.Names.{Entry, meaning, shape_named, shape_of, entries_after, entries_in}
use Rattle.ctf_meaning.specs.Own.{use_in, container_in, class_faults, member_faults, attribute_faults, no_integer_faults, unknown_faults, label_faults, align_faults, is_deep, depth_faults, is_taken, name_faults, part_faults, has_twins}
use Rattle.ctf_meaning.proofs.Lists.{Each, each_front, each_back, each_map}
use Rattle.ctf_meaning.proofs.Sees.{here}
use Rattle.ctf_meaning.proofs.Order.{Below, order_form}
use Rattle.ctf_meaning.proofs.Seen.{reads_under, takes_earlier}

module _ (all es : List Entry) where
  -- names mean the same at a place by both lists of entries
  abbrev pub SameAt : Place → Type 0
  SameAt at = (name : Name) → meaning all at name ≡ meaning es at name

  abbrev pub SameIn : Located → Type 0
  SameIn q = SameAt q.0

  shape_named_same : (at : Place) → SameAt at → (name : Name) → shape_named all at name ≡ shape_named es at name
  shape_named_same at same name = ap (option_and_then (λ e. e.shape)) (same name)

  container_same : (at : Place) → SameAt at → (c : Option Container) → container_at (shape_named all) at c ≡ container_at (shape_named es) at c
  container_same at same None = ap (option_and_then integer_in) (shape_named_same at same _)
  container_same at same (Some (container.Integer settings)) = refl
  container_same at same (Some (container.Named typename)) = ap (option_and_then integer_in) (shape_named_same at same _)

  mutual
    pub shape_same : (at : Place) (form : Form) → SameAt at → Each SameIn (located_form at form) → shape_of all at form ≡ shape_of es at form
    shape_same at (Integer settings) same h = refl
    shape_same at (Float settings) same h = refl
    shape_same at (String settings) same h = refl
    shape_same at (Struct name is align) same h = ap (λ fs. Some (structure align fs)) (fields_same at 0 is h)
    shape_same at (Variant name tag is) same h = ap (λ fs. Some (variant tag (members_from fs))) (fields_same at 0 is h)
    shape_same at (Enum name c labels) same h = ap (option_map (λ i. enum i (labels_of labels))) (container_same at same c)
    shape_same at (Named name tag) same h = ap (option_map (with_tag tag)) (shape_named_same at same name)

    item_same : (at : Place) (part : Part) (i : Item) → Each SameIn (located_item at part i) → fields_by_item (shape_named all) at i ≡ fields_by_item (shape_named es) at i
    item_same at part (Fields form ds) h =
        ap (λ o. declared o ds) (shape_same at form (each_back SameIn (located_form at form) ((at, part) ∷ []) h).0 (each_front SameIn (located_form at form) ((at, part) ∷ []) h))
    item_same at part (Alias form words) h = refl
    item_same at part (Definition form ds) h = refl
    item_same at part (Compound form) h = refl

    fields_same : (block : Place) (n : ℕ) (is : Items) → Each SameIn (located_items block n is) → fields_by (shape_named all) block n is ≡ fields_by (shape_named es) block n is
    fields_same block n no_item h = refl
    fields_same block n (some_items i is) h =
        let first : List Located = located_item (n ∷ block) (of_body i) i in
        let after : List Located = located_items block (n + 1) is in
        ap (λ fs. fs ++ fields_by (shape_named all) block (n + 1) is) (item_same (n ∷ block) (of_body i) i (each_front SameIn first after h))
        ∙ ap (λ fs. fields_by_item (shape_named es) (n ∷ block) i ++ fs) (fields_same block (n + 1) is (each_back SameIn first after h))

  unknown_same : (at : Place) → SameAt at → (o : Option Name) →
      option_map_or (λ name. when (is_none (meaning all at name)) UnknownType) o [] ≡ option_map_or (λ name. when (is_none (meaning es at name)) UnknownType) o []
  unknown_same at same None = refl
  unknown_same at same (Some name) = ap (λ m. when (is_none m) UnknownType) (same name)

  fitting_same : (at : Place) → SameAt at → (o : Option Name) →
      option_map_or (λ shape. when (is_none (integer_in shape)) Attribute) (option_and_then (shape_named all at) o) []
      ≡ option_map_or (λ shape. when (is_none (integer_in shape)) Attribute) (option_and_then (shape_named es at) o) []
  fitting_same at same None = refl
  fitting_same at same (Some name) = ap (λ s. option_map_or (λ shape. when (is_none (integer_in shape)) Attribute) s []) (shape_named_same at same name)

  class_faults_same : (at : Place) → SameAt at → (form : Form) → class_faults all at form ≡ class_faults es at form
  class_faults_same at same form =
      ap (λ u. u ++ member_faults form ++ attribute_faults form ++ no_integer_faults all at form ++ label_faults form ++ align_faults form) (unknown_same at same (use_in form))
      ∙ ap (λ n. unknown_faults es at form ++ member_faults form ++ attribute_faults form ++ n ++ label_faults form ++ align_faults form) (fitting_same at same (container_in form))

  classes_same : (at : Place) → SameAt at → (o : Option Form) → option_map_or (class_faults all at) o [] ≡ option_map_or (class_faults es at) o []
  classes_same at same None = refl
  classes_same at same (Some form) = class_faults_same at same form

any_same : {X : Type 0} (f g : X → Bool) → ((x : X) → f x ≡ g x) → (xs : List X) → list_any f xs ≡ list_any g xs
any_same f g h [] = refl
any_same f g h (x ∷ xs) = ap (λ b. b || list_any f xs) (h x) ∙ ap (λ b. g x || b) (any_same f g h xs)

module _ (text : List Declaration) (earlier later : List Located) where
  abbrev before : List Entry
  before = entries_after [] earlier

  pub shape_reads_earlier : (p : Located) (form : Form) → located_from 0 text ≡ earlier ++ p ∷ later → shape_of (entries_in text) p.0 form ≡ shape_of before p.0 form
  shape_reads_earlier p form e =
      shape_same (entries_in text) before p.0 form (reads_under text earlier later p e p.0 here)
      (each_map (Below p.0) (SameIn (entries_in text) before) (λ q u. reads_under text earlier later p e q.0 u) (located_form p.0 form) (order_form p.0 form).below)

  -- the shape of a part's class, where it has one
  part_same : (p : Located) (o : Option Form) → located_from 0 text ≡ earlier ++ p ∷ later → option_and_then (shape_of (entries_in text) p.0) o ≡ option_and_then (shape_of before p.0) o
  part_same p None e = refl
  part_same p (Some form) e = shape_reads_earlier p form e

  depth_same : (p : Located) → located_from 0 text ≡ earlier ++ p ∷ later → depth_faults (entries_in text) p ≡ depth_faults before p
  depth_same (at, part) e =
      ap (λ o. option_map_or (λ shape. when (list_any (is_deep before shape) ([] ∷ map (λ g. g.lengths) (given_of part))) TooDeep) o []) (part_same (at, part) (class_of part) e)

  taken_same : (p : Located) → located_from 0 text ≡ earlier ++ p ∷ later → (g : Given) → is_taken (entries_in text) p.0 g.name ≡ is_taken before p.0 g.name
  taken_same ([], part) e g = refl
  taken_same (number ∷ block, part) e g = ap is_some (takes_earlier text earlier later number block part g.name e)

  names_same : (p : Located) → located_from 0 text ≡ earlier ++ p ∷ later → name_faults (entries_in text) p ≡ name_faults before p
  names_same (at, part) e =
      ap (λ b. when (b || has_twins same_name (map (λ g. g.name) (given_of part))) DeclaredTwice)
      (any_same (λ g. is_taken (entries_in text) at g.name) (λ g. is_taken before at g.name) (taken_same (at, part) e) (given_of part))

  pub faults_read_earlier : (p : Located) → located_from 0 text ≡ earlier ++ p ∷ later → part_faults (entries_in text) p ≡ part_faults before p
  faults_read_earlier (at, part) e =
      ap (λ c. c ++ depth_faults (entries_in text) (at, part) ++ name_faults (entries_in text) (at, part) ++ minus_faults (settings_in part))
      (classes_same (entries_in text) before at (reads_under text earlier later (at, part) e at here) (class_of part))
      ∙ ap (λ d. option_map_or (class_faults before at) (class_of part) [] ++ d ++ name_faults (entries_in text) (at, part) ++ minus_faults (settings_in part)) (depth_same (at, part) e)
      ∙ ap (λ n. option_map_or (class_faults before at) (class_of part) [] ++ depth_faults before (at, part) ++ n ++ minus_faults (settings_in part)) (names_same (at, part) e)
