-- What the names of a block and those around a class stand for, by the parts that have ended.
use Rattle.std.proofs.Common.{◌≡◌, ℕ, ◌+◌, ◌≤◌, ◌<◌, nat_lt, Bool, true, false, ◌&&◌, cond, List, [], ◌∷◌, ◌++◌, length, Option, Some, None, is_none, is_some, refl, ap, ◌∙◌, subst, find, option_map, option_and_then, arith}
use Rattle.std.specs.Option.{option_or}
use Rattle.ctf_meaning.specs.Name.{Name, same_name}
use Rattle.ctf_meaning.specs.Parts.{Place, Located, given_of}
use Rattle.ctf_meaning.specs.Shapes.{Shape}
use Rattle.ctf_meaning.specs.Names.{Entry, same_place, earlier_entry, meaning, entries_of, entries_after}
use Rattle.ctf_meaning_steps.specs.Seen.{Seen, nothing_seen, within}
use Rattle.ctf_meaning.proofs.Lists.{Each, each_append, each_map, each_made, or_both, and_left, and_right, and_three, some_same, none_some, find-append}
use Rattle.ctf_meaning.proofs.Sees.{Under, here, down, under_outer, under_length, sees, longer_differs, sees-own, sees-longer, apart}
use Rattle.ctf_meaning.proofs.Seen.{meaning-entries_after, earlier_entry-entries_after}
use Rattle.ctf_meaning.proofs.Order.{Unseen, Below}
use Rattle.ctf_meaning_steps.proofs.Same.{place_same, place_itself}

-- what each name of a block stands for before the part of a number
abbrev pub Holds : List Entry → Place → ℕ → Seen → Type 0
Holds es block number own = (name : Name) → option_map (λ e. e.shape) (earlier_entry es block number name) ≡ option_map (λ s. Some s) (own name)

-- what each name stands for at a place
abbrev pub Sees : List Entry → Place → Seen → Type 0
Sees es at seen = (name : Name) → option_map (λ e. e.shape) (meaning es at name) ≡ option_map (λ s. Some s) (seen name)

pub some_or_none : {X : Type 0} (x : X) → Some x ≡ None → ⊥
some_or_none x h = grind (arith, h)

-- an entry, and the shape that is seen of it
pub either_same : (a b : Option Entry) (x y : Option Shape) →
    option_map (λ e. e.shape) a ≡ option_map (λ s. Some s) x → option_map (λ e. e.shape) b ≡ option_map (λ s. Some s) y →
    option_map (λ e. e.shape) (option_or a b) ≡ option_map (λ s. Some s) (option_or x y)
either_same None b None y h k = k
either_same (Some e) b (Some s) y h k = h
either_same None b (Some s) y h k = absurd (none_some (Some s) h)
either_same (Some e) b None y h k = absurd (some_or_none e.shape h)

pub none_same : (a : Option Entry) (x : Option Shape) → option_map (λ e. e.shape) a ≡ option_map (λ s. Some s) x → is_none a ≡ is_none x
none_same None None h = refl
none_same (Some e) (Some s) h = refl
none_same None (Some s) h = absurd (none_some (Some s) h)
none_same (Some e) None h = absurd (some_or_none e.shape h)

pub some_both : (a : Option Entry) (x : Option Shape) → option_map (λ e. e.shape) a ≡ option_map (λ s. Some s) x → is_some a ≡ is_some x
some_both None None h = refl
some_both (Some e) (Some s) h = refl
some_both None (Some s) h = absurd (none_some (Some s) h)
some_both (Some e) None h = absurd (some_or_none e.shape h)

pub shape_same : (a : Option Entry) (x : Option Shape) → option_map (λ e. e.shape) a ≡ option_map (λ s. Some s) x → option_and_then (λ e. e.shape) a ≡ x
shape_same None None h = refl
shape_same (Some e) (Some s) h = some_same e.shape (Some s) h
shape_same None (Some s) h = absurd (none_some (Some s) h)
shape_same (Some e) None h = absurd (some_or_none e.shape h)

pub alone : {X : Type 0} (o : Option X) → option_or o None ≡ o
alone None = refl
alone (Some x) = refl

-- The names of a block, and after them those around it.
pub sees_within : (es : List Entry) (block : Place) (number : ℕ) (own outer : Seen) → Holds es block number own → Sees es block outer → Sees es (number ∷ block) (within own outer)
sees_within es block number own outer h k name = either_same (earlier_entry es block number name) (meaning es block name) (own name) (outer name) (h name) (k name)

pub sees_nothing : (es : List Entry) → Sees es [] nothing_seen
sees_nothing es name = refl

pub sees_text : (es : List Entry) (number : ℕ) (own : Seen) → Holds es [] number own → Sees es (number ∷ []) own
sees_text es number own h name = ap (option_map (λ e. e.shape)) (alone (earlier_entry es [] number name)) ∙ h name

each_of : {X : Type 0} (P : X → Type 0) → ((x : X) → P x) → (xs : List X) → Each P xs
each_of P h [] = tt
each_of P h (x ∷ xs) = (h x, each_of P h xs)

-- Before its first part a block has no names.
pub holds_nothing : (es : List Entry) (block : Place) → Holds es block 0 nothing_seen
holds_nothing es block name =
    ap (option_map (λ e. e.shape)) (find-append (λ e. same_place e.block block && nat_lt e.number 0 && same_name e.name name) [] es
    (each_of (λ e. (same_place e.block block && nat_lt e.number 0 && same_name e.name name) ≡ false)
    (λ e. and_three (same_place e.block block) (nat_lt e.number 0) (same_name e.name name) (and_right (same_place e.block block) (nat_lt e.number 0) (grind arith))) es))

-- What no place of a class sees changes nothing there.
pub sees_after : (es : List Entry) (at : Place) (seen : Seen) (ps : List Located) → Each (Unseen at) ps → Sees es at seen → Sees (entries_after es ps) at seen
sees_after es at seen ps u h name = ap (option_map (λ e. e.shape)) (meaning-entries_after ps es at name u) ∙ h name

pub holds_after : (es : List Entry) (block : Place) (number : ℕ) (own : Seen) (ps : List Located) → Each (Unseen (number ∷ block)) ps → Holds es block number own →
    Holds (entries_after es ps) block number own
holds_after es block number own ps u h name = ap (option_map (λ e. e.shape)) (earlier_entry-entries_after ps es block number name u) ∙ h name

-- A place sees nothing that lies in its own part,
unseen_under : (at y : Place) → Under at y → sees at y ≡ false
unseen_under at y here = sees-own at at here
unseen_under at y (down n {x = x} u) = let long : length at ≤ length x = under_length at x u in sees-longer at (n ∷ x) (grind (arith, long))

pub unseen_below : (at : Place) (ps : List Located) → Each (Below at) ps → Each (Unseen at) ps
unseen_below at ps h = each_map (Below at) (Unseen at) (λ q u. unseen_under at q.0 u) ps h

-- and a block nothing that lies in its parts.
pub unseen_inside : (number : ℕ) (block : Place) (ps : List Located) → Each (Below (number ∷ block)) ps → Each (Unseen block) ps
unseen_inside number block ps h =
    each_map (Below (number ∷ block)) (Unseen block)
    (λ q u. sees-longer block q.0 (let long : length (number ∷ block) ≤ length q.0 = under_length (number ∷ block) q.0 u in grind (arith, long))) ps h

-- parts that lie in the parts of a place
abbrev pub Inside : Place → Located → Type 0
Inside at q = (j : ℕ) × Under (j ∷ at) q.0

-- A place beside sees none of them.
deep_unseen : (m : ℕ) (block y : Place) → length block + 1 < length y → sees (m ∷ block) y ≡ false
deep_unseen m block [] h = grind (arith, h)
deep_unseen m block (k ∷ b) h =
    or_both (same_place b block && nat_lt k m) (sees block (k ∷ b))
    (and_left (same_place b block) (nat_lt k m) (longer_differs b block (grind (arith, h))))
    (sees-longer block (k ∷ b) (grind (arith, h)))

pub unseen_deep : (number m : ℕ) (block : Place) (ps : List Located) → Each (Inside (number ∷ block)) ps → Each (Unseen (m ∷ block)) ps
unseen_deep number m block ps h =
    each_map (Inside (number ∷ block)) (Unseen (m ∷ block))
    (λ q w. deep_unseen m block q.0 (let long : length (w.0 ∷ number ∷ block) ≤ length q.0 = under_length (w.0 ∷ number ∷ block) q.0 w.1 in grind (arith, long))) ps h

-- no place in the parts of a block from a number on
abbrev pub Before : Place → ℕ → Place → Type 0
Before block number y = (j : ℕ) → number ≤ j → Under (j ∷ block) y → ⊥

-- no entry of such a part
abbrev pub Clear : List Entry → Place → ℕ → Type 0
Clear es block number = Each (λ e. Before block number (e.number ∷ e.block)) es

pub clear_inside : (es : List Entry) (block : Place) (number : ℕ) → Clear es block number → Clear es (number ∷ block) 0
clear_inside es block number h =
    each_map (λ e. Before block number (e.number ∷ e.block)) (λ e. Before (number ∷ block) 0 (e.number ∷ e.block))
    (λ e b j le u. b number (omega arith) (under_outer j (number ∷ block) (e.number ∷ e.block) u)) es h

entries_before : (es : List Entry) (block : Place) (number : ℕ) (p : Located) → Before block number p.0 → Each (λ e. Before block number (e.number ∷ e.block)) (entries_of es p)
entries_before es block number ([], part) h = tt
entries_before es block number (m ∷ b, part) h = each_made (λ e. Before block number (e.number ∷ e.block)) _ (λ g. h) (given_of part)

clear_after : (es : List Entry) (block : Place) (number : ℕ) (ps : List Located) → Clear es block number → Each (λ q. Before block number q.0) ps → Clear (entries_after es ps) block number
clear_after es block number [] h k = h
clear_after es block number (p ∷ ps) h k =
    clear_after (es ++ entries_of es p) block number ps
    (each_append (λ e. Before block number (e.number ∷ e.block)) es (entries_of es p) h (entries_before es block number p k.0)) k.1

before_next : (block : Place) (number : ℕ) (y : Place) → Under (number ∷ block) y → Before block (number + 1) y
before_next block number y under j le u =
    let differ : same_place y y ≡ false = apart number j block y y (grind (arith, le)) under u in
    let same : same_place y y ≡ true = place_itself y in
    grind (arith, differ, same)

pub clear_next : (es : List Entry) (block : Place) (number : ℕ) (ps : List Located) → Clear es block number → Each (Below (number ∷ block)) ps → Clear (entries_after es ps) block (number + 1)
clear_next es block number ps h k =
    clear_after es block (number + 1) ps
    (each_map (λ e. Before block number (e.number ∷ e.block)) (λ e. Before block (number + 1) (e.number ∷ e.block)) (λ e b j le u. b j (grind (arith, le)) u) es h)
    (each_map (Below (number ∷ block)) (λ q. Before block (number + 1) q.0) (λ q u. before_next block number q.0 u) ps k)

less_next : (m n : ℕ) → (n ≤ m → ⊥) → nat_lt m (n + 1) ≡ nat_lt m n
less_next m n h = by_case (nat_lt m n) refl
  where
    by_case : (b : Bool) → nat_lt m n ≡ b → nat_lt m (n + 1) ≡ nat_lt m n
    by_case true e = grind (arith, e)
    by_case false e = absurd (h (grind (arith, e)))

number_next : (b block : Place) (m n : ℕ) → Before block n (m ∷ b) → (same_place b block && nat_lt m (n + 1)) ≡ (same_place b block && nat_lt m n)
number_next b block m n h = by_case (same_place b block) refl
  where
    by_case : (t : Bool) → same_place b block ≡ t → (t && nat_lt m (n + 1)) ≡ (t && nat_lt m n)
    by_case true e = less_next m n (λ le. h m le (subst (λ x. Under (m ∷ x) (m ∷ b)) (place_same b block e) here))
    by_case false e = refl

find_same : {X : Type 0} (f g : X → Bool) (xs : List X) → Each (λ x. f x ≡ g x) xs → find f xs ≡ find g xs
find_same f g [] h = refl
find_same f g (x ∷ xs) h = ap (λ b. cond b (Some x) (find f xs)) h.0 ∙ ap (λ o. cond (g x) (Some x) o) (find_same f g xs h.1)

-- Where no entry of the part is there yet, the names before it are those before the next.
pub holds_next : (es : List Entry) (block : Place) (number : ℕ) (own : Seen) → Clear es block number → Holds es block number own → Holds es block (number + 1) own
holds_next es block number own c h name =
    ap (option_map (λ e. e.shape))
    (find_same (λ e. same_place e.block block && nat_lt e.number (number + 1) && same_name e.name name) (λ e. same_place e.block block && nat_lt e.number number && same_name e.name name) es
    (each_map (λ e. Before block number (e.number ∷ e.block))
    (λ e. (same_place e.block block && nat_lt e.number (number + 1) && same_name e.name name) ≡ (same_place e.block block && nat_lt e.number number && same_name e.name name))
    (λ e b. ap (λ t. t && same_name e.name name) (number_next e.block block e.number number b)) es c))
    ∙ h name
