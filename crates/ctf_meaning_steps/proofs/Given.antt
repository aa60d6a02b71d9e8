-- The names that a part gives to its class: each is new, and no class is too deep; else one of the part's faults is
-- reported.
use Rattle.std.proofs.Common.{◌≡◌, ℕ, ◌+◌, nat_lt, Bool, true, false, ◌&&◌, ◌||◌, if◌then◌else◌, List, [], ◌∷◌, ◌++◌, map, Option, Some, None, is_some, refl, ap, ap₂, sym, ◌∙◌, subst, append-nil, append_assoc, option_map, arith}
use Rattle.std.specs.List.{list_any}
use Rattle.std.specs.Option.{option_or}
use Rattle.std.proofs.lemmas.List.Folds.{find-append}
use Rattle.std.proofs.lemmas.List.Elements.{Contains-append_left, Contains-append_right}
use Rattle.ctf_meaning.specs.declared.fault.ResolveFault.TheVariants.{DeclaredTwice, TooDeep}
use Rattle.ctf_meaning.specs.Name.{Name, same_name}
use Rattle.ctf_meaning.specs.Parts.{Place, Given}
use Rattle.ctf_meaning.specs.Settings.{when}
use Rattle.ctf_meaning.specs.Shapes.{Shape, arrays, depth_of}
use Rattle.ctf_meaning.specs.Names.{Entry, same_place, earlier_entry}
use Rattle.ctf_meaning.specs.Own.{most_deep, has_twins}
use Rattle.ctf_meaning_steps.specs.Told.{Told, unless}
use Rattle.ctf_meaning_steps.specs.Seen.{Seen, with_name, depth_fault, declare_each, declare}
use Rattle.ctf_meaning_steps.proofs.Telling.{Tells, contains_when, tells_same}
use Rattle.ctf_meaning_steps.proofs.Same.{name_same, place_itself}
use Rattle.ctf_meaning_steps.proofs.Seeing.{Holds, some_or_none, alone}

-- what a part's name stands for
abbrev pub entry_by : Place → ℕ → Shape → Given → Entry
entry_by block number shape g = record { block = block; number = number; name = g.name; shape = Some (arrays g.lengths shape) }

abbrev pub is_too_deep : Shape → Given → Bool
is_too_deep shape g = nat_lt most_deep (depth_of (arrays g.lengths shape))

-- some of the names are declared before, or twice
abbrev pub is_taken : Seen → List Given → Bool
is_taken own gs = list_any (λ g. is_some (own g.name)) gs || has_twins same_name (map (λ g. g.name) gs)

or_moved : (a b c : Bool) → (a || (b || c)) ≡ ((a || b) || c)
or_moved true b c = refl
or_moved false b c = refl

or_crossed : (a b c d : Bool) → ((a || b) || (c || d)) ≡ ((a || c) || (b || d))
or_crossed true b c d = refl
or_crossed false true true d = refl
or_crossed false true false d = refl
or_crossed false false c d = refl

is_some_with : (own : Seen) (name : Name) (shape : Shape) (other : Name) → is_some (with_name own name shape other) ≡ (is_some (own other) || same_name name other)
is_some_with own name shape other = by_case (same_name name other) (own other)
  where
    by_case : (b : Bool) (o : Option Shape) → is_some (if b then Some shape else o) ≡ (is_some o || b)
    by_case true (Some s) = refl
    by_case true None = refl
    by_case false (Some s) = refl
    by_case false None = refl

any_with : (own : Seen) (name : Name) (shape : Shape) (gs : List Given) →
    list_any (λ g. is_some (with_name own name shape g.name)) gs ≡ (list_any (λ g. is_some (own g.name)) gs || list_any (same_name name) (map (λ g. g.name) gs))
any_with own name shape [] = refl
any_with own name shape (g ∷ gs) =
    ap₂ (λ a b. a || b) (is_some_with own name shape g.name) (any_with own name shape gs)
    ∙ or_crossed (is_some (own g.name)) (same_name name g.name) (list_any (λ h. is_some (own h.name)) gs) (list_any (same_name name) (map (λ h. h.name) gs))

-- One name more is taken.
taken_with : (own : Seen) (name : Name) (shape : Shape) (gs : List Given) →
    is_taken (with_name own name shape) gs ≡ (list_any (λ g. is_some (own g.name)) gs || (list_any (same_name name) (map (λ g. g.name) gs) || has_twins same_name (map (λ g. g.name) gs)))
taken_with own name shape gs =
    ap (λ b. b || has_twins same_name (map (λ g. g.name) gs)) (any_with own name shape gs)
    ∙ sym (or_moved (list_any (λ g. is_some (own g.name)) gs) (list_any (same_name name) (map (λ g. g.name) gs)) (has_twins same_name (map (λ g. g.name) gs)))

unless_some : (o : Option Shape) → is_some o ≡ false → o ≡ None
unless_some None h = refl
unless_some (Some s) h = absurd (grind (arith, h))

-- the entry of one name more
holds_with : (es : List Entry) (block : Place) (number : ℕ) (own : Seen) (shape : Shape) (g : Given) → is_some (own g.name) ≡ false → Holds es block (number + 1) own →
    Holds (es ++ entry_by block number shape g ∷ []) block (number + 1) (with_name own g.name (arrays g.lengths shape))
holds_with es block number own shape g new h name =
    ap (option_map (λ e. e.shape)) (find-append (λ e. same_place e.block block && nat_lt e.number (number + 1) && same_name e.name name) es (entry_by block number shape g ∷ []))
    ∙ ap (λ t. option_map (λ e. e.shape) (option_or (earlier_entry es block (number + 1) name) (if t then Some (entry_by block number shape g) else None))) here
    ∙ by_case (same_name g.name name) refl
  where
    both : (a b c : Bool) → a ≡ true → b ≡ true → (a && b && c) ≡ c
    both a b c e f = ap₂ (λ x y. x && y && c) e f

    here : (same_place block block && nat_lt number (number + 1) && same_name g.name name) ≡ same_name g.name name
    here = both (same_place block block) (nat_lt number (number + 1)) (same_name g.name name) (place_itself block) (grind arith)

    first : (o : Option Entry) (x : Option Shape) → option_map (λ e. e.shape) o ≡ option_map (λ s. Some s) x → x ≡ None →
        option_map (λ e. e.shape) (option_or o (Some (entry_by block number shape g))) ≡ Some (Some (arrays g.lengths shape))
    first None x k n = refl
    first (Some e) x k n = absurd (some_or_none e.shape (k ∙ ap (option_map (λ s. Some s)) n))

    by_case : (b : Bool) → same_name g.name name ≡ b →
        option_map (λ e. e.shape) (option_or (earlier_entry es block (number + 1) name) (if b then Some (entry_by block number shape g) else None))
        ≡ option_map (λ s. Some s) (if b then Some (arrays g.lengths shape) else own name)
    by_case true e = first (earlier_entry es block (number + 1) name) (own name) (h name) (ap own (sym (name_same g.name name e)) ∙ unless_some (own g.name) new)
    by_case false e = ap (option_map (λ x. x.shape)) (alone (earlier_entry es block (number + 1) name)) ∙ h name

-- One name before others.
module _ (block : Place) (number : ℕ) (shape : Shape) (es : List Entry) (own : Seen) (g : Given) (gs : List Given) where
  abbrev deep : Bool
  deep = list_any (is_too_deep shape) gs

  abbrev others : Bool
  others = list_any (λ x. is_some (own x.name)) gs

  abbrev twins : Bool
  twins = list_any (same_name g.name) (map (λ x. x.name) gs) || has_twins same_name (map (λ x. x.name) gs)

  abbrev After : Seen → Type 0
  After after = Holds (es ++ map (entry_by block number shape) (g ∷ gs)) block (number + 1) after

  abbrev rest : Told Seen
  rest = declare_each (with_name own g.name (arrays g.lengths shape)) shape gs

  -- what is reported of the others
  abbrev Others : Type 0
  Others = is_some (own g.name) ≡ false → Tells (Unit {0}) rest (when deep TooDeep ++ when (is_taken (with_name own g.name (arrays g.lengths shape)) gs) DeclaredTwice)
      (λ after. Holds (es ++ entry_by block number shape g ∷ [] ++ map (entry_by block number shape) gs) block (number + 1) after)

  by_depth : Others → (d : Bool) → is_some (own g.name) ≡ false →
      Tells (Unit {0}) (unless (when d TooDeep) rest) (when (d || deep) TooDeep ++ when (others || twins) DeclaredTwice) After
  by_depth h true new = λ u. Contains-append_left (when true TooDeep) (when (others || twins) DeclaredTwice) TooDeep (contains_when true TooDeep refl)
  by_depth h false new =
      subst (λ fs. Tells (Unit {0}) rest (when deep TooDeep ++ when (others || twins) DeclaredTwice) (λ after. Holds fs block (number + 1) after))
      (append_assoc es (entry_by block number shape g ∷ []) (map (entry_by block number shape) gs))
      (tells_same (Unit {0}) rest (when deep TooDeep ++ when (is_taken (with_name own g.name (arrays g.lengths shape)) gs) DeclaredTwice) (when deep TooDeep ++ when (others || twins) DeclaredTwice) _
      (ap (λ b. when deep TooDeep ++ when b DeclaredTwice) (taken_with own g.name (arrays g.lengths shape) gs)) (h new))

  by_name : Others → (b : Bool) → is_some (own g.name) ≡ b →
      Tells (Unit {0}) (unless (when b DeclaredTwice) (unless (depth_fault (arrays g.lengths shape)) rest))
      (when (is_too_deep shape g || deep) TooDeep ++ when ((b || others) || twins) DeclaredTwice) After
  by_name h true e = λ u. Contains-append_right (when (is_too_deep shape g || deep) TooDeep) (when true DeclaredTwice) DeclaredTwice (contains_when true DeclaredTwice refl)
  by_name h false e = by_depth h (is_too_deep shape g) e

module _ (block : Place) (number : ℕ) (shape : Shape) where
  pub each_tells : (es : List Entry) (own : Seen) (gs : List Given) → Holds es block (number + 1) own →
      Tells (Unit {0}) (declare_each own shape gs) (when (list_any (is_too_deep shape) gs) TooDeep ++ when (is_taken own gs) DeclaredTwice)
      (λ after. Holds (es ++ map (entry_by block number shape) gs) block (number + 1) after)
  each_tells es own [] h = (refl, subst (λ fs. Holds fs block (number + 1) own) (sym (append-nil es)) h)
  each_tells es own (g ∷ gs) h =
      by_name block number shape es own g gs
      (λ new. each_tells (es ++ entry_by block number shape g ∷ []) (with_name own g.name (arrays g.lengths shape)) gs (holds_with es block number own shape g new h))
      (is_some (own g.name)) refl

  pub declare_tells : (es : List Entry) (own : Seen) (gs : List Given) → Holds es block (number + 1) own →
      Tells (Unit {0}) (declare own shape gs) (when (nat_lt most_deep (depth_of shape) || list_any (is_too_deep shape) gs) TooDeep ++ when (is_taken own gs) DeclaredTwice)
      (λ after. Holds (es ++ map (entry_by block number shape) gs) block (number + 1) after)
  declare_tells es own gs h = by_depth (nat_lt most_deep (depth_of shape))
    where
      by_depth : (d : Bool) → Tells (Unit {0}) (unless (when d TooDeep) (declare_each own shape gs)) (when (d || list_any (is_too_deep shape) gs) TooDeep ++ when (is_taken own gs) DeclaredTwice)
          (λ after. Holds (es ++ map (entry_by block number shape) gs) block (number + 1) after)
      by_depth true = λ u. Contains-append_left (when true TooDeep) (when (is_taken own gs) DeclaredTwice) TooDeep (contains_when true TooDeep refl)
      by_depth false = each_tells es own gs h
