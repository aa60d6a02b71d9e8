-- Where there is no own fault, each name stands for a class, and each class that is written has a shape.
use Rattle.std.proofs.Common.{◌≡◌, ℕ, nat_lt, ◌&&◌, Bool, true, false, ◌⊎◌, inl, inr, if◌then◌else◌, List, [], ◌∷◌, ◌++◌, map, Option, Some, None, refl, ap, sym, ◌∙◌, subst, append_assoc, arith}
use Rattle.std.specs.Prelude.{option_and_then, is_none}
use Rattle.std.specs.Option.{option_or, option_map_or}
use Rattle.tsdl_tree.specs.declared.tree.Container.{Container}
use Rattle.tsdl_tree.specs.declared.tree.Container.TheVariants as container
use Rattle.tsdl_tree.specs.declared.tree.Setting.{Setting}
use Rattle.ctf_meaning.specs.declared.fault.ResolveFault.{ResolveFault}
use Rattle.ctf_meaning.specs.declared.fault.ResolveFault.TheVariants.{UnknownType, Attribute}
use Rattle.ctf_meaning.specs.Name.{Name, same_name}
use Rattle.ctf_meaning.specs.Written.{Form, Declaration, Integer, Float, String, Struct, Variant, Enum, Named, Assigned, Classed, Declared, Block, Table, Names}
use Rattle.ctf_meaning.specs.Parts.{Place, Part, Located, Given, of_text, of_block, of_body, class_of, given_of, located_from, settings_in}
use Rattle.ctf_meaning.specs.Settings.{when, minus_faults}
use Rattle.ctf_meaning.specs.declared.integer.DeclaredInteger.{DeclaredInteger}
use Rattle.ctf_meaning.specs.Integers.{integer_faults, integer_of, good_integer, is_none_wrong}
use Rattle.ctf_meaning.specs.Shapes.{integer_in, integer, enum, with_tag, arrays, container_name, container_at}
use Rattle.ctf_meaning.specs.Labels.{labels_of}
use Rattle.ctf_meaning.specs.Names.{Entry, same_place, earlier_entry, meaning, shape_named, shape_of, entries_of, entries_after, entries_in}
use Rattle.ctf_meaning.specs.Own.{class_faults, unknown_faults, member_faults, attribute_faults, no_integer_faults, label_faults, align_faults, depth_faults, name_faults, part_faults}
use Rattle.ctf_meaning.specs.Own as own
use Rattle.ctf_meaning.proofs.Lists.{Each, IsThere, each_append, each_made, append_left, append_right, find_either, there_unless, map_there, then_there}
use Rattle.ctf_meaning.proofs.Seen.{entries_after-append, reads_earlier}

abbrev pub Shaped : Entry → Type 0
Shaped e = IsThere e.shape

pub when_not : (b : Bool) (fault : ResolveFault) → when b fault ≡ [] → b ≡ false
when_not true fault h = grind (arith, h)
when_not false fault h = refl

pub earlier_either : (es : List Entry) → Each Shaped es → (block : Place) (number : ℕ) (name : Name) →
    (earlier_entry es block number name ≡ None) ⊎ ((e : Entry) × (earlier_entry es block number name ≡ Some e) × Shaped e)
earlier_either es h block number name = find_either Shaped (λ e. same_place e.block block && nat_lt e.number number && same_name e.name name) es h

-- What a name means is an entry of the list, so it has what each of them has.
pub meaning_either : (es : List Entry) → Each Shaped es → (at : Place) (name : Name) → (meaning es at name ≡ None) ⊎ ((e : Entry) × (meaning es at name ≡ Some e) × Shaped e)
meaning_either es h [] name = inl refl
meaning_either es h (number ∷ block) name =
    elim (earlier_either es h block number name) as (λ _. (meaning es (number ∷ block) name ≡ None) ⊎ ((e : Entry) × (meaning es (number ∷ block) name ≡ Some e) × Shaped e)) [
      | inl none ↦ subst (λ o. (option_or o (meaning es block name) ≡ None) ⊎ ((e : Entry) × (option_or o (meaning es block name) ≡ Some e) × Shaped e)) (sym none) (meaning_either es h block name)
      | inr found ↦ inr (found.0, ap (λ o. option_or o (meaning es block name)) found.1, found.2)
    ]

pub shape_named_there : (es : List Entry) → Each Shaped es → (at : Place) (name : Name) → is_none (meaning es at name) ≡ false → IsThere (shape_named es at name)
shape_named_there es h at name known =
    elim (meaning_either es h at name) as (λ _. IsThere (shape_named es at name)) [
      | inl none ↦ absurd (grind (arith, known, none))
      | inr found ↦ (found.2.0, ap (λ o. option_and_then (λ e. e.shape) o) found.1 ∙ found.2.1)
    ]

abbrev integer_unless : List ResolveFault → DeclaredInteger → Option DeclaredInteger
integer_unless faults i = if is_none_wrong faults then Some i else None

pub good_integer_there : (settings : List Setting) → integer_faults settings ≡ [] → IsThere (good_integer settings)
good_integer_there settings h = (integer_of settings, ap (λ faults. integer_unless faults (integer_of settings)) h)

-- the faults of a class one by one
module _ (all : List Entry) (at : Place) (form : Form) (h : class_faults all at form ≡ []) where
  abbrev to_members : List ResolveFault
  to_members = unknown_faults all at form ++ member_faults form

  abbrev to_attributes : List ResolveFault
  to_attributes = to_members ++ attribute_faults form

  abbrev to_integers : List ResolveFault
  to_integers = to_attributes ++ no_integer_faults all at form

  integers_none : to_integers ≡ []
  integers_none = append_left to_integers (label_faults form) (append_left (to_integers ++ label_faults form) (align_faults form) h)

  to_attributes_none : to_attributes ≡ []
  to_attributes_none = append_left to_attributes (no_integer_faults all at form) integers_none

  pub fitting_none : no_integer_faults all at form ≡ []
  fitting_none = append_right to_attributes (no_integer_faults all at form) integers_none

  pub attributes_none : attribute_faults form ≡ []
  attributes_none = append_right to_members (attribute_faults form) to_attributes_none

  pub unknown_none : unknown_faults all at form ≡ []
  unknown_none = append_left (unknown_faults all at form) (member_faults form) (append_left to_members (attribute_faults form) to_attributes_none)

-- A place at which names mean the same by two lists of entries, of which the second have shapes.
module _ (all es : List Entry) (at : Place) (same : (name : Name) → meaning all at name ≡ meaning es at name) (shaped : Each Shaped es) where
  pub known_there : (name : Name) → when (is_none (meaning all at name)) UnknownType ≡ [] → IsThere (shape_named es at name)
  known_there name known =
      shape_named_there es shaped at name
      (ap is_none (sym (same name)) ∙ when_not (is_none (meaning all at name)) UnknownType known)

  pub integer_there : (name : Name) → when (is_none (meaning all at name)) UnknownType ≡ [] →
      option_map_or (λ shape. when (is_none (integer_in shape)) Attribute) (shape_named all at name) [] ≡ [] → IsThere (option_and_then integer_in (shape_named es at name))
  integer_there name known fits =
      let named : IsThere (shape_named es at name) = known_there name known in
      let here : shape_named all at name ≡ Some named.0 = ap (λ o. option_and_then (λ e. e.shape) o) (same name) ∙ named.1 in
      let fits_here : when (is_none (integer_in named.0)) Attribute ≡ [] =
      ap (λ o. option_map_or (λ shape. when (is_none (integer_in shape)) Attribute) o []) (sym here) ∙ fits in
      then_there integer_in (shape_named es at name) named
      (there_unless (integer_in named.0) (when_not (is_none (integer_in named.0)) Attribute fits_here))

  pub container_there : (c : Option Container) →
      option_map_or (λ name. when (is_none (meaning all at name)) UnknownType) (container_name c) [] ≡ [] →
      own.container_faults c ≡ [] →
      option_map_or (λ shape. when (is_none (integer_in shape)) Attribute) (option_and_then (shape_named all at) (container_name c)) [] ≡ [] →
      IsThere (container_at (shape_named es) at c)
  container_there None known good fits = integer_there _ known fits
  container_there (Some (container.Integer settings)) known good fits = good_integer_there settings good
  container_there (Some (container.Named typename)) known good fits = integer_there _ known fits

  pub shape_there : (form : Form) → class_faults all at form ≡ [] → IsThere (shape_of es at form)
  shape_there (Integer settings) h = map_there integer (good_integer settings) (good_integer_there settings (attributes_none all at (Integer settings) h))
  shape_there (Float settings) h = (_, refl)
  shape_there (String settings) h = (_, refl)
  shape_there (Struct name is align) h = (_, refl)
  shape_there (Variant name tag is) h = (_, refl)
  shape_there (Enum name c labels) h =
      map_there (λ i. enum i (labels_of labels)) (container_at (shape_named es) at c)
      (container_there c (unknown_none all at (Enum name c labels) h) (attributes_none all at (Enum name c labels) h) (fitting_none all at (Enum name c labels) h))
  shape_there (Named name tag) h = map_there (with_tag tag) (shape_named es at name) (known_there name (unknown_none all at (Named name tag) h))

-- A part that gives names has a class.
pub class_or_no_names : (part : Part) → ((class_of part ≡ None) × (given_of part ≡ [])) ⊎ IsThere (class_of part)
class_or_no_names (of_text (Block kind entries)) = inl (refl, refl)
class_or_no_names (of_text (Table kind settings)) = inl (refl, refl)
class_or_no_names (of_text (Names item)) = inr (_, refl)
class_or_no_names (of_block (Assigned setting)) = inl (refl, refl)
class_or_no_names (of_block (Classed words form)) = inr (_, refl)
class_or_no_names (of_block (Declared item)) = inr (_, refl)
class_or_no_names (of_body item) = inr (_, refl)

-- the faults of the class that is written in a part
pub class_none : (all : List Entry) (p : Located) (form : Form) → class_of p.1 ≡ Some form → part_faults all p ≡ [] → class_faults all p.0 form ≡ []
class_none all (at, part) form e h =
    ap (λ o. option_map_or (class_faults all at) o []) (sym e) ∙ append_left (option_map_or (class_faults all at) (class_of part) []) (depth_faults all (at, part))
    (append_left (option_map_or (class_faults all at) (class_of part) [] ++ depth_faults all (at, part)) (name_faults all (at, part))
    (append_left (option_map_or (class_faults all at) (class_of part) [] ++ depth_faults all (at, part) ++ name_faults all (at, part)) (minus_faults (settings_in part)) h))

each_of_none : (f : Given → Entry) (gs : List Given) → gs ≡ [] → Each Shaped (map f gs)
each_of_none f [] h = tt
each_of_none f (g ∷ gs) h = absurd (grind (arith, h))

pub entries_shaped : (all es : List Entry) (p : Located) → ((name : Name) → meaning all p.0 name ≡ meaning es p.0 name) → Each Shaped es → part_faults all p ≡ [] →
    Each Shaped (entries_of es p)
entries_shaped all es ([], part) same shaped h = tt
entries_shaped all es (number ∷ block, part) same shaped h =
    elim (class_or_no_names part) as (λ _. Each Shaped (entries_of es (number ∷ block, part))) [
      | inl none ↦ each_of_none _ (given_of part) none.1
      | inr there ↦ each_made Shaped _
          (λ g. map_there (arrays g.lengths) _ (then_there (shape_of es (number ∷ block)) (class_of part) there
          (shape_there all es (number ∷ block) same shaped there.0 (class_none all (number ∷ block, part) there.0 there.1 h))))
          (given_of part)
    ]

-- All entries of a text whose parts have no fault have shapes.
pub all_shaped : (text : List Declaration) (before after : List Located) → located_from 0 text ≡ before ++ after →
    Each (λ p. part_faults (entries_in text) p ≡ []) after → Each Shaped (entries_after [] before) → Each Shaped (entries_after (entries_after [] before) after)
all_shaped text before [] e h shaped = shaped
all_shaped text before (p ∷ ps) e h shaped =
    let es : List Entry = entries_after [] before in
    let more : Each Shaped (es ++ entries_of es p) =
    each_append Shaped es (entries_of es p) shaped (entries_shaped (entries_in text) es p (λ name. reads_earlier text before ps p name e) shaped h.0) in
    let next : entries_after [] (before ++ p ∷ []) ≡ es ++ entries_of es p = entries_after-append [] before (p ∷ []) in
    subst (λ fs. Each Shaped (entries_after fs ps)) next
    (all_shaped text (before ++ p ∷ []) ps (e ∙ sym (append_assoc before (p ∷ []) ps)) h.1 (subst (Each Shaped) (sym next) more))

pub text_shaped : (text : List Declaration) → Each (λ p. part_faults (entries_in text) p ≡ []) (located_from 0 text) → Each Shaped (entries_in text)
text_shaped text h = all_shaped text [] (located_from 0 text) refl h tt

-- the class of a part without faults has a shape
pub part_shaped : (text : List Declaration) → Each Shaped (entries_in text) → (p : Located) (form : Form) → class_of p.1 ≡ Some form → part_faults (entries_in text) p ≡ [] →
    IsThere (shape_of (entries_in text) p.0 form)
part_shaped text shaped p form e h =
    shape_there (entries_in text) (entries_in text) p.0 (λ name. refl) shaped form (class_none (entries_in text) p form e h)
