-- A part that has a class: what is reported of the class, and of the names that it is given, is what is wrong with the
-- part.
use Rattle.std.proofs.Common.{◌≡◌, ℕ, ◌+◌, nat_lt, Bool, true, false, ◌||◌, inl, inr, List, [], ◌∷◌, ◌++◌, map, Option, Some, None, Ok, is_some, refl, ap, ap₂, sym, ◌∙◌, subst, append_assoc, option_map, option_and_then, Contains, arith}
use Rattle.std.specs.List.{list_any}
use Rattle.std.specs.Option.{option_map_or}
use Rattle.std.proofs.lemmas.List.Elements.{Contains-append_left, Contains-append_right, Contains-append_cases}
use Rattle.ctf_meaning.specs.declared.fault.ResolveFault.{ResolveFault}
use Rattle.ctf_meaning.specs.declared.fault.ResolveFault.TheVariants.{DeclaredTwice, TooDeep}
use Rattle.ctf_meaning.specs.Name.{same_name}
use Rattle.ctf_meaning.specs.Written.{Form}
use Rattle.ctf_meaning.specs.Parts.{Place, Part, Located, Given, class_of, given_of, settings_in, settings_in_form}
use Rattle.ctf_meaning.specs.Settings.{when, minus_faults}
use Rattle.ctf_meaning.specs.Shapes.{Shape, arrays, depth_of}
use Rattle.ctf_meaning.specs.Names.{Entry, earlier_entry, shape_of, entries_of, entries_after}
use Rattle.ctf_meaning.specs.Own.{most_deep, has_twins, class_faults, is_deep, depth_faults, name_faults, part_faults}
use Rattle.ctf_meaning_steps.specs.Told.{Told, ◌>>=◌}
use Rattle.ctf_meaning_steps.specs.Seen.{Seen, declare}
use Rattle.ctf_meaning.proofs.Lists.{append_left, append_right}
use Rattle.ctf_meaning.proofs.Seen.{entries_after-append}
use Rattle.ctf_meaning_steps.proofs.Telling.{Tells, TellsDeep, then_deep, tells_made, tells_same, tells_by, append_none, contains_when}
use Rattle.ctf_meaning_steps.proofs.Seeing.{Holds, some_both}
use Rattle.ctf_meaning_steps.proofs.Given.{entry_by, is_too_deep, is_taken, declare_tells}

-- the faults of some parts, each by the entries before it
abbrev pub faults_after : List Entry → List Located → List ResolveFault
faults_after es [] = []
faults_after es (p ∷ ps) = part_faults es p ++ faults_after (es ++ entries_of es p) ps

pub faults_after-append : (es : List Entry) (ps qs : List Located) → faults_after es (ps ++ qs) ≡ faults_after es ps ++ faults_after (entries_after es ps) qs
faults_after-append es [] qs = refl
faults_after-append es (p ∷ ps) qs =
    ap (λ fs. part_faults es p ++ fs) (faults_after-append (es ++ entries_of es p) ps qs)
    ∙ sym (append_assoc (part_faults es p) (faults_after (es ++ entries_of es p) ps) (faults_after (entries_after (es ++ entries_of es p) ps) qs))

any_mapped : {X Y : Type 0} (test : Y → Bool) (f : X → Y) (xs : List X) → list_any test (map f xs) ≡ list_any (λ x. test (f x)) xs
any_mapped test f [] = refl
any_mapped test f (x ∷ xs) = ap (λ b. test (f x) || b) (any_mapped test f xs)

any_same : {X : Type 0} (f g : X → Bool) → ((x : X) → f x ≡ g x) → (xs : List X) → list_any f xs ≡ list_any g xs
any_same f g h [] = refl
any_same f g h (x ∷ xs) = ap₂ (λ a b. a || b) (h x) (any_same f g h xs)

-- the faults of a part in the order in which they are reported
module _ (i c m d n : List ResolveFault) where
  abbrev told : List ResolveFault
  told = (i ++ (c ++ m)) ++ (d ++ n)

  abbrev listed : List ResolveFault
  listed = i ++ ((((c ++ d) ++ n) ++ m) ++ [])

  pub listed_none : told ≡ [] → listed ≡ []
  listed_none h =
      let front : i ++ (c ++ m) ≡ [] = append_left (i ++ (c ++ m)) (d ++ n) h in
      let after : d ++ n ≡ [] = append_right (i ++ (c ++ m)) (d ++ n) h in
      let two : c ++ m ≡ [] = append_right i (c ++ m) front in
      append_none i ((((c ++ d) ++ n) ++ m) ++ []) (append_left i (c ++ m) front)
      (append_none (((c ++ d) ++ n) ++ m) [] (append_none ((c ++ d) ++ n) m (append_none (c ++ d) n (append_none c d (append_left c m two) (append_left d n after)) (append_right d n after)) (append_right c m two)) refl)

  inner_listed : (f : ResolveFault) → Contains i f → Contains listed f
  inner_listed f h = Contains-append_left i ((((c ++ d) ++ n) ++ m) ++ []) f h

  own_listed : (f : ResolveFault) → Contains (((c ++ d) ++ n) ++ m) f → Contains listed f
  own_listed f h = Contains-append_right i ((((c ++ d) ++ n) ++ m) ++ []) f (Contains-append_left (((c ++ d) ++ n) ++ m) [] f h)

  given_listed : (f : ResolveFault) → Contains ((c ++ d) ++ n) f → Contains listed f
  given_listed f h = own_listed f (Contains-append_left ((c ++ d) ++ n) m f h)

  pub listed_some : (f : ResolveFault) → Contains told f → Contains listed f
  listed_some f h =
      elim (Contains-append_cases (i ++ (c ++ m)) (d ++ n) f h) as (λ _. Contains listed f) [
        | inl front ↦ elim (Contains-append_cases i (c ++ m) f front) as (λ _. Contains listed f) [
          | inl inner ↦ inner_listed f inner
          | inr two ↦ elim (Contains-append_cases c m f two) as (λ _. Contains listed f) [
            | inl class ↦ given_listed f (Contains-append_left (c ++ d) n f (Contains-append_left c d f class))
            | inr minus ↦ own_listed f (Contains-append_right ((c ++ d) ++ n) m f minus)
          ]
        ]
        | inr after ↦ elim (Contains-append_cases d n f after) as (λ _. Contains listed f) [
          | inl deep ↦ given_listed f (Contains-append_left (c ++ d) n f (Contains-append_right c d f deep))
          | inr names ↦ given_listed f (Contains-append_right (c ++ d) n f names)
        ]
      ]

-- whether a class is deeper than the limit, where it has a shape
abbrev pub is_deep_in : Option Shape → Bool
is_deep_in o = option_map_or (λ shape. nat_lt most_deep (depth_of shape)) o false

-- A part with its class, by the entries before it.
module _ (es : List Entry) (block : Place) (number : ℕ) (part : Part) (form : Form) (here : class_of part ≡ Some form) where
  shape_here : (shape : Shape) → shape_of es (number ∷ block) form ≡ Some shape → option_and_then (shape_of es (number ∷ block)) (class_of part) ≡ Some shape
  shape_here shape known = ap (option_and_then (shape_of es (number ∷ block))) here ∙ known

  depth_here : (shape : Shape) → shape_of es (number ∷ block) form ≡ Some shape →
      when (nat_lt most_deep (depth_of shape) || list_any (is_too_deep shape) (given_of part)) TooDeep ≡ depth_faults es (number ∷ block, part)
  depth_here shape known =
      ap (λ b. when (nat_lt most_deep (depth_of shape) || b) TooDeep) (sym (any_mapped (is_deep es shape) (λ g. g.lengths) (given_of part)))
      ∙ ap (λ o. option_map_or (λ s. when (list_any (is_deep es s) ([] ∷ map (λ g. g.lengths) (given_of part))) TooDeep) o []) (sym (shape_here shape known))

  deep_here : (o : Option Shape) → shape_of es (number ∷ block) form ≡ o → is_deep_in o ≡ true → Contains (depth_faults es (number ∷ block, part)) TooDeep
  deep_here (Some shape) known h =
      subst (λ fs. Contains fs TooDeep) (depth_here shape known)
      (contains_when (nat_lt most_deep (depth_of shape) || list_any (is_too_deep shape) (given_of part)) TooDeep (ap (λ b. b || list_any (is_too_deep shape) (given_of part)) h))
  deep_here None known h = absurd (grind (arith, h))

  names_here : (own : Seen) → Holds es block number own → when (is_taken own (given_of part)) DeclaredTwice ≡ name_faults es (number ∷ block, part)
  names_here own holds =
      ap (λ b. when (b || has_twins same_name (map (λ g. g.name) (given_of part))) DeclaredTwice)
      (any_same (λ g. is_some (own g.name)) (λ g. is_some (earlier_entry es block number g.name)) (λ g. sym (some_both (earlier_entry es block number g.name) (own g.name) (holds g.name))) (given_of part))

  entries_here : (shape : Shape) → shape_of es (number ∷ block) form ≡ Some shape → map (entry_by block number shape) (given_of part) ≡ entries_of es (number ∷ block, part)
  entries_here shape known =
      ap (λ o. map (λ g. record { block = block; number = number; name = g.name; shape = option_map (arrays g.lengths) o }) (given_of part)) (sym (shape_here shape known))

  given_tells : (own : Seen) (shape : Shape) → shape_of es (number ∷ block) form ≡ Some shape → Holds es block number own → Holds es block (number + 1) own →
      Tells (Unit {0}) (declare own shape (given_of part)) (depth_faults es (number ∷ block, part) ++ name_faults es (number ∷ block, part))
      (λ after. Holds (es ++ entries_of es (number ∷ block, part)) block (number + 1) after)
  given_tells own shape known holds next =
      subst (λ fs. Tells (Unit {0}) (declare own shape (given_of part)) (depth_faults es (number ∷ block, part) ++ name_faults es (number ∷ block, part)) (λ after. Holds (es ++ fs) block (number + 1) after))
      (entries_here shape known)
      (tells_same (Unit {0}) (declare own shape (given_of part))
      (when (nat_lt most_deep (depth_of shape) || list_any (is_too_deep shape) (given_of part)) TooDeep ++ when (is_taken own (given_of part)) DeclaredTwice)
      (depth_faults es (number ∷ block, part) ++ name_faults es (number ∷ block, part)) _
      (ap₂ (λ a b. a ++ b) (depth_here shape known) (names_here own holds))
      (declare_tells block number shape es own (given_of part) next))

-- What is reported of a part: of the parts in it, of its class, and of the names that it gives.
pub part_tells : {B : Type 0} (es : List Entry) (block : Place) (number : ℕ) (inner : List Located) (part : Part) (form : Form) (t : Told Shape) (own : Seen) (gs : List Given) (make : Shape → Seen → B)
    (R : B → Type 0) →
    class_of part ≡ Some form → settings_in part ≡ settings_in_form form → given_of part ≡ gs →
    TellsDeep t (faults_after es inner ++ (class_faults (entries_after es inner) (number ∷ block) form ++ minus_faults (settings_in_form form)))
    (is_deep_in (shape_of (entries_after es inner) (number ∷ block) form))
    (λ shape. shape_of (entries_after es inner) (number ∷ block) form ≡ Some shape) →
    Holds (entries_after es inner) block number own → Holds (entries_after es inner) block (number + 1) own →
    ((shape : Shape) (after : Seen) → shape_of (entries_after es inner) (number ∷ block) form ≡ Some shape → Holds (entries_after es (inner ++ (number ∷ block, part) ∷ [])) block (number + 1) after → R (make shape after)) →
    Tells (Unit {0}) (t >>= λ shape. declare own shape gs >>= λ after. Ok (make shape after)) (faults_after es (inner ++ (number ∷ block, part) ∷ [])) R
part_tells es block number inner part form t own gs make R here settled given told holds next made =
    let at : Place = number ∷ block in
    let before : List Entry = entries_after es inner in
    let first : List ResolveFault = faults_after es inner in
    let classes : List ResolveFault = class_faults before at form in
    let minus : List ResolveFault = minus_faults (settings_in_form form) in
    let depths : List ResolveFault = depth_faults before (at, part) in
    let names : List ResolveFault = name_faults before (at, part) in
    let whole : part_faults before (at, part) ≡ ((classes ++ depths) ++ names) ++ minus =
    ap₂ (λ o s. option_map_or (class_faults before at) o [] ++ depths ++ names ++ minus_faults s) here settled in
    let all : first ++ ((((classes ++ depths) ++ names) ++ minus) ++ []) ≡ faults_after es (inner ++ (at, part) ∷ []) =
    ap (λ fs. first ++ (fs ++ [])) (sym whole) ∙ sym (faults_after-append es inner ((at, part) ∷ [])) in
    let entries : entries_after es (inner ++ (at, part) ∷ []) ≡ before ++ entries_of before (at, part) = entries_after-append es inner ((at, part) ∷ []) in
    subst (λ xs. Tells (Unit {0}) (t >>= λ shape. declare own shape xs >>= λ after. Ok (make shape after)) (faults_after es (inner ++ (at, part) ∷ [])) R) given
    (tells_same (Unit {0}) (t >>= λ shape. declare own shape (given_of part) >>= λ after. Ok (make shape after)) (first ++ ((((classes ++ depths) ++ names) ++ minus) ++ [])) (faults_after es (inner ++ (at, part) ∷ [])) R all
    (tells_by (Unit {0}) (t >>= λ shape. declare own shape (given_of part) >>= λ after. Ok (make shape after)) ((first ++ (classes ++ minus)) ++ (depths ++ names)) (first ++ ((((classes ++ depths) ++ names) ++ minus) ++ [])) R
    (listed_none first classes minus depths names) (listed_some first classes minus depths names)
    (then_deep t (λ shape. declare own shape (given_of part) >>= λ after. Ok (make shape after)) (first ++ (classes ++ minus)) (depths ++ names)
    (is_deep_in (shape_of before at form)) (λ shape. shape_of before at form ≡ Some shape) R
    (λ h. Contains-append_left depths names TooDeep (deep_here before block number part form here (shape_of before at form) refl h)) told
    (λ shape e known. tells_made (Unit {0}) (declare own shape (given_of part)) (make shape) (depths ++ names) (λ after. Holds (before ++ entries_of before (at, part)) block (number + 1) after) R
    (given_tells before block number part form here own shape known holds next)
    (λ after f h. made shape after known (subst (λ fs. Holds fs block (number + 1) after) (sym entries) h))))))
