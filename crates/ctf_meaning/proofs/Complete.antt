-- A text without faults has a trace class.
use Rattle.std.proofs.Common.{◌≡◌, ℕ, ◌+◌, false, List, [], ◌∷◌, Option, Some, None, refl, ap, sym, ◌∙◌, subst, arith}
use Rattle.std.specs.Prelude.{slice_get, flat_map, option_and_then, not}
use Rattle.std.specs.List.{enumerate_from}
use Rattle.std.specs.Option.{option_map_or}
use Rattle.tsdl_tree.specs.declared.tree.BlockKind.{BlockKind}
use Rattle.ctf_bits.specs.declared.number.Order.{Order}
use Rattle.ctf_class.specs.declared.route.Scope.{Scope}
use Rattle.ctf_meaning.specs.declared.fault.ResolveFault.TheVariants.{Attribute, FloatingPoint}
use Rattle.ctf_meaning.specs.Name.{Words, same_words}
use Rattle.ctf_meaning.specs.Written.{Form, BlockEntry, Declaration, Assigned, Classed, Declared, Block}
use Rattle.ctf_meaning.specs.Parts.{Place, Located, of_text, of_block, located_form, located_entry, located_entries}
use Rattle.ctf_meaning.specs.Settings.{when}
use Rattle.ctf_meaning.specs.Shapes.{Shape, struct, no_member, has_float}
use Rattle.ctf_meaning.specs.Names.{entries_in, shape_of}
use Rattle.ctf_meaning.specs.Own.{part_faults}
use Rattle.ctf_meaning.specs.There.{first}
use Rattle.ctf_meaning.specs.Links.{link_faults_at, class_at}
use Rattle.ctf_meaning.specs.Blocks.{class_by, class_entries, classes_in, own_scopes, clocks_of}
use Rattle.ctf_meaning.specs.Scopes.{Home, is_structure, scope_faults, scope_by, scope_at, scope_of, spot_of}
use Rattle.ctf_meaning.specs.Faults.{scope_links}
use Rattle.ctf_meaning.specs.Denotes.{scope_class}
use Rattle.ctf_meaning.proofs.Lists.{Each, IsThere, each_front, each_back, each_none, each_flat_map, each_filter_map, filtered_each, append_right, if_there_each, some_same, chosen_first}
use Rattle.ctf_meaning.proofs.Shaped.{Shaped, when_not, part_shaped}
use Rattle.ctf_meaning.proofs.Linked.{linked_there}
use Rattle.ctf_meaning.proofs.Clean.{Clean}

-- the classes that are under a name in a block

module _ (text : List Declaration) (shaped : Each Shaped (entries_in text)) where
  abbrev pub HasShape : Place → ℕ × Form → Type 0
  HasShape block p = IsThere (shape_of (entries_in text) (p.0 ∷ block) p.1)

  abbrev pub Sound : Located → Type 0
  Sound q = part_faults (entries_in text) q ≡ []

  entry_class : (block : Place) (n : ℕ) (e : BlockEntry) (name : Words) → Each Sound (located_entry (n ∷ block) e) → (p : ℕ × Form) → class_by name (n, e) ≡ Some p → HasShape block p
  entry_class block n (Assigned setting) name h p found = absurd (grind (arith, found))
  entry_class block n (Declared item) name h p found = absurd (grind (arith, found))
  entry_class block n (Classed words form) name h p found =
      subst (HasShape block) (chosen_first (same_words words name) (n, form) p found)
      (part_shaped text shaped (n ∷ block, of_block (Classed words form)) form refl
      (each_back Sound (located_form (n ∷ block) form) ((n ∷ block, of_block (Classed words form)) ∷ []) h).0)

  entries_classes : (block : Place) (n : ℕ) (es : List BlockEntry) (name : Words) → Each Sound (located_entries block n es) →
      Each (λ q. (p : ℕ × Form) → class_by name q ≡ Some p → HasShape block p) (enumerate_from n es)
  entries_classes block n [] name h = tt
  entries_classes block n (e ∷ es) name h = (
    entry_class block n e name (each_front Sound (located_entry (n ∷ block) e) (located_entries block (n + 1) es) h),
    entries_classes block (n + 1) es name (each_back Sound (located_entry (n ∷ block) e) (located_entries block (n + 1) es) h),
  )

  pub classes_shaped : (k : ℕ) (which : BlockKind) (es : List BlockEntry) → Clean text (k, Block which es) → (name : Words) → Each (HasShape (k ∷ [])) (class_entries es name)
  classes_shaped k which es c name =
      filtered_each (HasShape (k ∷ [])) (class_by name) (enumerate_from 0 es)
      (entries_classes (k ∷ []) 0 es name (each_front Sound (located_entries (k ∷ []) 0 es) ((k ∷ [], of_text (Block which es)) ∷ []) c.parts))

-- of a scope's class the first that is under its name, or what is there where none is
module _ (make : ℕ × Form → Option Shape) where
  pub first_there : (ps : List (ℕ × Form)) (missing : Option Shape) → Each (λ p. IsThere (make p)) ps → IsThere missing → IsThere (option_map_or make (first ps) missing)
  first_there [] missing h m = m
  first_there (p ∷ ps) missing h m = h.0

  pub first_solid : (ps : List (ℕ × Form)) (missing : Option Shape) → Each (λ p. (s : Shape) → make p ≡ Some s → scope_faults s ≡ []) ps →
      ((s : Shape) → missing ≡ Some s → has_float s ≡ false) → (s : Shape) → option_map_or make (first ps) missing ≡ Some s → has_float s ≡ false
  first_solid [] missing h m s e = m s e
  first_solid (p ∷ ps) missing h m s e =
      when_not (has_float s) FloatingPoint (append_right (when (not (is_structure s)) Attribute) (when (has_float s) FloatingPoint) (h.0 s e))

pub none_solid : (s : Shape) → None ≡ Some s → has_float s ≡ false
none_solid s e = absurd (grind (arith, e))

pub fields_solid : (s : Shape) → Some (struct 1 no_member) ≡ Some s → has_float s ≡ false
fields_solid s e = ap has_float (sym (some_same (struct 1 no_member) s e))

module _ (text : List Declaration) where
  abbrev pub shape_in : ℕ → ℕ × Form → Option Shape
  shape_in k p = shape_of (entries_in text) (p.0 ∷ k ∷ []) p.1

  -- the classes of a block's scopes hold no floats
  pub names_solid : (k : ℕ) (which : BlockKind) (es : List BlockEntry) → Clean text (k, Block which es) →
      Each (λ name. Each (λ p. (s : Shape) → shape_in k p ≡ Some s → scope_faults s ≡ []) (class_entries es name)) (classes_in which)
  names_solid k which es c =
      each_flat_map (λ p. (s : Shape) → shape_in k p ≡ Some s → scope_faults s ≡ []) (class_entries es) (classes_in which)
      (each_filter_map (λ s. scope_faults s ≡ []) (shape_in k) (flat_map (class_entries es) (classes_in which)) c.scopes)

  -- the class of a scope that is declared by this declaration
  pub scope_of-block : (k : ℕ) (d : Declaration) (scope : Scope) → slice_get text k ≡ Some d → scope_at text k scope ≡ scope_by text k scope d
  scope_of-block k d scope e = ap (option_and_then (scope_by text k scope)) e

  pub scope_there : (order : Order) (home : Home) (scope : Scope) → ((s : Shape) → scope_of text home scope ≡ Some s → has_float s ≡ false) →
      option_map_or (link_faults_at (clocks_of text) (spot_of text home scope)) (scope_of text home scope) [] ≡ [] → IsThere (scope_class text order home scope)
  scope_there order home scope solid links =
      if_there_each (class_at order (clocks_of text) (spot_of text home scope)) (scope_of text home scope)
      (λ s e. linked_there order (clocks_of text) (spot_of text home scope) s (solid s e)
      (ap (λ o. option_map_or (link_faults_at (clocks_of text) (spot_of text home scope)) o []) (sym e) ∙ links))

  pub links_each : (home : Home) (which : BlockKind) → scope_links text home which ≡ [] →
      Each (λ scope. option_map_or (link_faults_at (clocks_of text) (spot_of text home scope)) (scope_of text home scope) [] ≡ []) (own_scopes which)
  links_each home which h =
      each_none (λ scope. option_map_or (link_faults_at (clocks_of text) (spot_of text home scope)) (scope_of text home scope) []) (own_scopes which) h
