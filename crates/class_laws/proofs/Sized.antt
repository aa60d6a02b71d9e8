-- Each integer of the classes of a text has 1 to 64 bits.
use Rattle.std.proofs.Common.{◌≡◌, ℕ, ℤ, pos, ◌+◌, ◌≤◌, Bool, true, false, not, ◌&&◌, cond, nat_le, List, [], ◌∷◌, ◌++◌, Option, Some, None, option_map, refl, sym, ◌∙◌, subst, arith}
use Rattle.std.specs.Prelude.{slice_get, option_and_then, flat_map, is_none, unwrap_or, codes}
use Rattle.std.specs.Option.{option_map_or, option_or}
use Rattle.std.proofs.lemmas.Option.{none-some, same_Some}
use lib.IntN.{negsuc}
use Rattle.tsdl_tree.specs.declared.tree.Container.{Container}
use Rattle.tsdl_tree.specs.declared.tree.Container.TheVariants as container
use Rattle.tsdl_tree.specs.declared.tree.Declarator.{Declarator}
use Rattle.tsdl_tree.specs.declared.tree.Length.{Length}
use Rattle.tsdl_tree.specs.declared.tree.Length.TheVariants.{Constant, Path}
use Rattle.tsdl_tree.specs.declared.tree.Setting.{Setting}
use Rattle.tsdl_tree.specs.declared.tree.Value.{Value}
use Rattle.ctf_class.specs.declared.route.Scope.{Scope}
use Rattle.ctf_class.specs.declared.route.Scope.TheVariants.{PacketHeader, PacketContext, EventHeader, StreamEventContext, EventContext, EventFields}
use Rattle.ctf_meaning.specs.declared.fault.ResolveFault.{ResolveFault}
use Rattle.ctf_meaning.specs.declared.fault.ResolveFault.TheVariants.{Attribute, SizeOrAlignment}
use Rattle.ctf_meaning.specs.declared.integer.DeclaredInteger.{DeclaredInteger}
use Rattle.ctf_meaning.specs.Name.{Words, Name}
use Rattle.ctf_meaning.specs.Written.{Declaration, Form, Item, Items, Integer, Float, String, Struct, Variant, Enum, Named, Fields, Alias, Definition, Compound, Block, Table, Names, no_item, some_items}
use Rattle.ctf_meaning.specs.Parts.{Place, Located, Given, class_of, given_of, located_from}
use Rattle.ctf_meaning.specs.Settings.{when, one, attribute, number_of, from_zero, count_of, is_text_of, known_as, wrong, repeated}
use Rattle.ctf_meaning.specs.Integers.{sign_of, order_of, base_of, clock_of, size_of, integer_of, is_size, is_alignment_number, outside, integer_words, integer_faults, is_none_wrong, good_integer}
use Rattle.ctf_meaning.specs.Labels.{labels_of}
use Rattle.ctf_meaning.specs.Shapes.{Shape, Field, Members, integer, float, string, enum, struct, variant, array, sequence, no_member, member, members_from, structure, arrays, declared, with_tag, integer_in, container_name, container_at, shape_by, fields_by_item, fields_by}
use Rattle.ctf_meaning.specs.Names.{Entry, earlier_entry, meaning, shape_named, shape_of, entries_of, entries_after, entries_in}
use Rattle.ctf_meaning.specs.Blocks.{same_kind, block_of, entry_name, class_entry}
use Rattle.ctf_meaning.specs.Scopes.{Home, missing_scope, in_home, scope_by, scope_at, scope_of}
use Rattle.ctf_meaning.proofs.Lists.{Each, each_append, each_mapped, append_left, append_right}
use Rattle.ctf_meaning.proofs.Shaped.{when_not}
use Rattle.ctf_packet.specs.Held.{IsWidth}
use Rattle.class_laws.proofs.Leading.{bound}
use Rattle.class_laws.proofs.Resolving.{find_each}
use Rattle.class_laws.proofs.Denoted.{mapped, each_all}

abbrev mutual
  -- each integer of a shape has 1 to 64 bits
  pub HasSizes : Shape → Type 0
  HasSizes (integer i) = IsWidth i.size
  HasSizes (enum i labels) = IsWidth i.size
  HasSizes (struct align members) = HaveSizes members
  HasSizes (variant tag options) = HaveSizes options
  HasSizes (array count element) = HasSizes element
  HasSizes (sequence path element) = HasSizes element
  HasSizes float = Unit {0}
  HasSizes string = Unit {0}

  pub HaveSizes : Members → Type 0
  HaveSizes no_member = Unit {0}
  HaveSizes (member word s more) = HasSizes s × HaveSizes more

-- the same of a shape that may not be known
abbrev pub IfSized : Option Shape → Type 0
IfSized o = (s : Shape) → o ≡ Some s → HasSizes s

size_in : (z : ℤ) → is_size z ≡ true → (n : ℕ) × (from_zero z ≡ Some n) × IsWidth n
size_in (pos n) h = (n, refl, (least n h, most n h))
  where
    least : (n : ℕ) → (nat_le 1 n && nat_le n 64) ≡ true → 1 ≤ n
    least n h = grind (arith, h)

    most : (n : ℕ) → (nat_le 1 n && nat_le n 64) ≡ true → n ≤ 64
    most n h = grind (arith, h)
size_in (negsuc n) h = absurd (grind (arith, h))

-- a size that is there, is a number and is in its range
attribute_sized : (o : Option Value) → when (is_none o) Attribute ≡ [] → wrong number_of o ≡ [] → outside is_size o ≡ [] → IsWidth (known_as count_of 0 o)
attribute_sized None a b c = absurd (grind (arith, a))
attribute_sized (Some v) a b c = by_number (number_of v) b c
  where
    by_number : (n : Option ℤ) → when (is_none n) Attribute ≡ [] → option_map_or (λ z. when (not (is_size z)) SizeOrAlignment) n [] ≡ [] → IsWidth (unwrap_or (option_and_then from_zero n) 0)
    by_number None b c = absurd (grind (arith, b))
    by_number (Some z) b c =
        let fits : is_size z ≡ true = grind (arith, when_not (not (is_size z)) SizeOrAlignment c) in
        let n = size_in z fits in
        subst (λ o. IsWidth (unwrap_or o 0)) (sym n.1) n.2

-- the second, third and fourth of some lists
abbrev AreNone : List ResolveFault → List ResolveFault → List ResolveFault → Type 0
AreNone b c d = (b ≡ []) × (c ≡ []) × (d ≡ [])

four_none : (a b c d : List ResolveFault) → a ++ b ++ c ++ d ≡ [] → AreNone b c d
four_none a b c d x =
    let front = append_left (a ++ b ++ c) d x in
    (append_right a b (append_left (a ++ b) c front), append_right (a ++ b) c front, append_right (a ++ b ++ c) d x)

some_none : (a b c d e f g h i j k : List ResolveFault) → a ++ b ++ c ++ d ++ e ++ f ++ g ++ h ++ i ++ j ++ k ≡ [] → AreNone b c d
some_none a b c d e f g h i j k x =
    four_none a b c d
    (append_left (a ++ b ++ c ++ d) e
    (append_left (a ++ b ++ c ++ d ++ e) f
    (append_left (a ++ b ++ c ++ d ++ e ++ f) g
    (append_left (a ++ b ++ c ++ d ++ e ++ f ++ g) h
    (append_left (a ++ b ++ c ++ d ++ e ++ f ++ g ++ h) i
    (append_left (a ++ b ++ c ++ d ++ e ++ f ++ g ++ h ++ i) j
    (append_left (a ++ b ++ c ++ d ++ e ++ f ++ g ++ h ++ i ++ j) k x)))))))

good_sized : (settings : List Setting) (i : DeclaredInteger) → good_integer settings ≡ Some i → IsWidth i.size
good_sized settings i e = by_case (integer_faults settings) refl e
  where
    sized : integer_faults settings ≡ [] → IsWidth (size_of settings)
    sized h =
        let size = attribute settings (one (codes "size")) in
        let align = attribute settings (one (codes "align")) in
        let none = some_none (flat_map (repeated settings) integer_words) (when (is_none size) Attribute) (wrong number_of size) (outside is_size size)
        (wrong number_of align) (outside is_alignment_number align) (wrong sign_of (attribute settings (one (codes "signed")))) (wrong base_of (attribute settings (one (codes "base"))))
        (wrong order_of (attribute settings (one (codes "byte_order")))) (wrong is_text_of (attribute settings (one (codes "encoding")))) (wrong clock_of (attribute settings (one (codes "map")))) h in
        attribute_sized size none.0 none.1 none.2

    by_case : (fs : List ResolveFault) → integer_faults settings ≡ fs → cond (is_none_wrong fs) (Some (integer_of settings)) None ≡ Some i → IsWidth i.size
    by_case [] h g = subst (λ (x : DeclaredInteger). IsWidth x.size) (same_Some (integer_of settings) i g) (sized h)
    by_case (f ∷ fs) h g = absurd (none-some i g)

abbrev FieldsSized : List Field → Type 0
FieldsSized = Each (λ f. HasSizes f.shape)

members_sized : (fs : List Field) → FieldsSized fs → HaveSizes (members_from fs)
members_sized [] h = tt
members_sized (f ∷ fs) h = (h.0, members_sized fs h.1)

arrays_sized : (ls : List Length) (s : Shape) → HasSizes s → HasSizes (arrays ls s)
arrays_sized [] s h = h
arrays_sized (Constant count ∷ ls) s h = arrays_sized ls s h
arrays_sized (Path path ∷ ls) s h = arrays_sized ls s h

declared_sized : (o : Option Shape) (ds : List Declarator) → IfSized o → FieldsSized (declared o ds)
declared_sized None ds h = tt
declared_sized (Some s) [] h = tt
declared_sized (Some s) (d ∷ ds) h = (arrays_sized d.lengths s (h s refl), declared_sized (Some s) ds h)

tagged_sized : (tag : Option Words) (s : Shape) → HasSizes s → HasSizes (with_tag tag s)
tagged_sized None s h = h
tagged_sized (Some tag) (variant old options) h = h
tagged_sized (Some tag) (integer i) h = h
tagged_sized (Some tag) float h = h
tagged_sized (Some tag) string h = h
tagged_sized (Some tag) (enum i labels) h = h
tagged_sized (Some tag) (struct align members) h = h
tagged_sized (Some tag) (array count element) h = h
tagged_sized (Some tag) (sequence path element) h = h

integer_sized : (s : Shape) (i : DeclaredInteger) → integer_in s ≡ Some i → HasSizes s → IsWidth i.size
integer_sized (integer j) i e h = subst (λ (x : DeclaredInteger). IsWidth x.size) (same_Some j i e) h
integer_sized float i e h = absurd (none-some i e)
integer_sized string i e h = absurd (none-some i e)
integer_sized (enum j labels) i e h = absurd (none-some i e)
integer_sized (struct align members) i e h = absurd (none-some i e)
integer_sized (variant tag options) i e h = absurd (none-some i e)
integer_sized (array count element) i e h = absurd (none-some i e)
integer_sized (sequence path element) i e h = absurd (none-some i e)

module _ (named : Place → Name → Option Shape) (known : (at : Place) (name : Name) → IfSized (named at name)) where
  named_integer : (at : Place) (o : Option Name) (i : DeclaredInteger) → option_and_then integer_in (option_and_then (named at) o) ≡ Some i → IsWidth i.size
  named_integer at o i e =
      let s = bound integer_in (option_and_then (named at) o) i e in
      let name = bound (named at) o s.0 s.1 in
      integer_sized s.0 i s.2 (known at name.0 s.0 name.2)

  container_sized : (at : Place) (c : Option Container) (i : DeclaredInteger) → container_at named at c ≡ Some i → IsWidth i.size
  container_sized at None i e = named_integer at (container_name None) i e
  container_sized at (Some (container.Named typename)) i e = named_integer at (container_name (Some (container.Named typename))) i e
  container_sized at (Some (container.Integer settings)) i e = good_sized settings i e

  mutual
    pub shape_sized : (at : Place) (f : Form) → IfSized (shape_by named at f)
    shape_sized at (Integer settings) s e =
        let i = mapped integer (good_integer settings) s e in subst HasSizes i.2 (good_sized settings i.0 i.1)
    shape_sized at (Float settings) s e = subst HasSizes (same_Some float s e) tt
    shape_sized at (String settings) s e = subst HasSizes (same_Some string s e) tt
    shape_sized at (Struct name is align) s e =
        subst HasSizes (same_Some (structure align (fields_by named at 0 is)) s e) (members_sized (fields_by named at 0 is) (items_sized at 0 is))
    shape_sized at (Variant name tag is) s e =
        subst HasSizes (same_Some (variant tag (members_from (fields_by named at 0 is))) s e) (members_sized (fields_by named at 0 is) (items_sized at 0 is))
    shape_sized at (Enum name c labels) s e =
        let i = mapped (λ i. enum i (labels_of labels)) (container_at named at c) s e in subst HasSizes i.2 (container_sized at c i.0 i.1)
    shape_sized at (Named name tag) s e =
        let x = mapped (with_tag tag) (named at name) s e in subst HasSizes x.2 (tagged_sized tag x.0 (known at name x.0 x.1))

    item_sized : (at : Place) (i : Item) → FieldsSized (fields_by_item named at i)
    item_sized at (Fields f ds) = declared_sized (shape_by named at f) ds (shape_sized at f)
    item_sized at (Alias f words) = tt
    item_sized at (Definition f ds) = tt
    item_sized at (Compound f) = tt

    items_sized : (block : Place) (n : ℕ) (is : Items) → FieldsSized (fields_by named block n is)
    items_sized block n no_item = tt
    items_sized block n (some_items i is) =
        each_append (λ f. HasSizes f.shape) (fields_by_item named (n ∷ block) i) (fields_by named block (n + 1) is) (item_sized (n ∷ block) i) (items_sized block (n + 1) is)

-- what names mean has such sizes
abbrev EntrySized : Entry → Type 0
EntrySized e = IfSized e.shape

meaning_sized : (es : List Entry) → Each EntrySized es → (at : Place) (name : Name) (e : Entry) → meaning es at name ≡ Some e → EntrySized e
meaning_sized es h [] name e g = absurd (none-some e g)
meaning_sized es h (number ∷ block) name e g = by_case (earlier_entry es block number name) refl g (λ k. meaning_sized es h block name e k)
  where
    by_case : (o : Option Entry) → earlier_entry es block number name ≡ o → option_or o (meaning es block name) ≡ Some e → (meaning es block name ≡ Some e → EntrySized e) → EntrySized e
    by_case None f k go = go k
    by_case (Some x) f k go = find_each EntrySized _ es h e (f ∙ k)

named_sized : (es : List Entry) → Each EntrySized es → (at : Place) (name : Name) → IfSized (shape_named es at name)
named_sized es h at name s e =
    let x = bound (λ (e : Entry). e.shape) (meaning es at name) s e in meaning_sized es h at name x.0 x.1 s x.2

part_sized : (es : List Entry) → Each EntrySized es → (p : Located) → Each EntrySized (entries_of es p)
part_sized es h ([], part) = tt
part_sized es h (number ∷ block, part) = each_mapped EntrySized _ (given_of part) (each_all _ (λ g. given_sized g) (given_of part))
  where
    given_sized : (g : Given) → IfSized (option_map (arrays g.lengths) (option_and_then (shape_of es (number ∷ block)) (class_of part)))
    given_sized g s e =
        let x = mapped (arrays g.lengths) (option_and_then (shape_of es (number ∷ block)) (class_of part)) s e in
        let f = bound (shape_of es (number ∷ block)) (class_of part) x.0 x.1 in
        subst HasSizes x.2 (arrays_sized g.lengths x.0 (shape_sized (shape_named es) (λ at name. named_sized es h at name) (number ∷ block) f.0 x.0 f.2))

parts_sized : (es : List Entry) (ps : List Located) → Each EntrySized es → Each EntrySized (entries_after es ps)
parts_sized es [] h = h
parts_sized es (p ∷ ps) h = parts_sized (es ++ entries_of es p) ps (each_append EntrySized es (entries_of es p) h (part_sized es h p))

module _ (text : List Declaration) where
  written_sized : (at : Place) (f : Form) → IfSized (shape_of (entries_in text) at f)
  written_sized at f = shape_sized (shape_named (entries_in text)) (λ p name. named_sized (entries_in text) (parts_sized [] (located_from 0 text) tt) p name) at f

  missing_sized : (scope : Scope) → IfSized (missing_scope scope)
  missing_sized EventFields s e = subst HasSizes (same_Some (struct 1 no_member) s e) tt
  missing_sized PacketHeader s e = absurd (none-some s e)
  missing_sized PacketContext s e = absurd (none-some s e)
  missing_sized EventHeader s e = absurd (none-some s e)
  missing_sized StreamEventContext s e = absurd (none-some s e)
  missing_sized EventContext s e = absurd (none-some s e)

  block_sized : (k : ℕ) (scope : Scope) (d : Declaration) → IfSized (scope_by text k scope d)
  block_sized k scope (Block which entries) s e = by_case (same_kind which (block_of scope)) e
    where
      by_entry : (o : Option (ℕ × Form)) → option_map_or (λ p. shape_of (entries_in text) (p.0 ∷ k ∷ []) p.1) o (missing_scope scope) ≡ Some s → HasSizes s
      by_entry None h = missing_sized scope s h
      by_entry (Some p) h = written_sized (p.0 ∷ k ∷ []) p.1 s h

      by_case : (b : Bool) → cond b (option_map_or (λ p. shape_of (entries_in text) (p.0 ∷ k ∷ []) p.1) (class_entry entries (entry_name scope)) (missing_scope scope)) None ≡ Some s → HasSizes s
      by_case true h = by_entry (class_entry entries (entry_name scope)) h
      by_case false h = absurd (none-some s h)
  block_sized k scope (Table kind settings) s e = absurd (none-some s e)
  block_sized k scope (Names item) s e = absurd (none-some s e)

  -- the class of a scope
  pub scope_of_sized : (home : Home) (scope : Scope) → IfSized (scope_of text home scope)
  scope_of_sized home scope s e =
      let k = bound (λ k. scope_at text k scope) (in_home home (block_of scope)) s e in
      let d = bound (scope_by text k.0 scope) (slice_get text k.0) s k.2 in
      block_sized k.0 scope d.0 s d.2
