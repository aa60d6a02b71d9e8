-- Facts on each element of a list, and on lists that are empty.
use Rattle.std.proofs.Common.{◌≡◌, Bool, true, false, ◌&&◌, ◌||◌, cond, List, [], ◌∷◌, ◌++◌, map, Option, Some, None, refl, ap, sym, ◌∙◌, subst, arith}
use Rattle.std.specs.Prelude.{find, flat_map, filter_map, unwrap_or, option_map, option_and_then, is_none, ◌⊎◌, if◌then◌else◌}
use Rattle.std.specs.List.{cons_option}
use Rattle.std.proofs.Common.{inl, inr}
use Rattle.ctf_meaning.specs.There.{first, all_there, if_there}

-- P of each element
abbrev pub Each : {X : Type 0} → (X → Type 0) → List X → Type 0
Each P [] = Unit {0}
Each P (x ∷ xs) = P x × Each P xs

pub each_append : {X : Type 0} (P : X → Type 0) (xs ys : List X) → Each P xs → Each P ys → Each P (xs ++ ys)
each_append P [] ys hs ks = ks
each_append P (x ∷ xs) ys hs ks = (hs.0, each_append P xs ys hs.1 ks)

pub each_map : {X : Type 0} (P Q : X → Type 0) → ((x : X) → P x → Q x) → (xs : List X) → Each P xs → Each Q xs
each_map P Q f [] hs = tt
each_map P Q f (x ∷ xs) hs = (f x hs.0, each_map P Q f xs hs.1)

pub each_made : {X Y : Type 0} (P : Y → Type 0) (f : X → Y) → ((x : X) → P (f x)) → (xs : List X) → Each P (map f xs)
each_made P f h [] = tt
each_made P f h (x ∷ xs) = (h x, each_made P f h xs)

pub or_left : (a b : Bool) → (a || b) ≡ false → a ≡ false
or_left true b h = h
or_left false b h = refl

pub or_right : (a b : Bool) → (a || b) ≡ false → b ≡ false
or_right true b h = grind (arith, h)
or_right false b h = h

pub or_both : (a b : Bool) → a ≡ false → b ≡ false → (a || b) ≡ false
or_both true b h k = h
or_both false b h k = k

pub and_left : (a b : Bool) → a ≡ false → (a && b) ≡ false
and_left true b h = grind (arith, h)
and_left false b h = refl

pub and_right : (a b : Bool) → b ≡ false → (a && b) ≡ false
and_right true b h = h
and_right false b h = refl

pub and_three : (a b c : Bool) → (a && b) ≡ false → (a && b && c) ≡ false
and_three true true c h = grind (arith, h)
and_three true false c h = refl
and_three false b c h = refl

-- A test that fails on all elements added at the end finds the same as before.
pub find-append : {X : Type 0} (test : X → Bool) (xs ys : List X) → Each (λ y. test y ≡ false) ys → find test (xs ++ ys) ≡ find test xs
find-append test [] [] hs = refl
find-append test [] (y ∷ ys) hs = rw hs.0 (find-append test [] ys hs.1)
find-append test (x ∷ xs) ys hs = ap (λ o. cond (test x) (Some x) o) (find-append test xs ys hs)

-- the value is there
abbrev pub IsThere : {X : Type 0} → Option X → Type 0
IsThere {X} o = (x : X) × (o ≡ Some x)

pub append_left : {X : Type 0} (xs ys : List X) → xs ++ ys ≡ [] → xs ≡ []
append_left [] ys h = refl
append_left (x ∷ xs) ys h = grind (arith, h)

pub append_right : {X : Type 0} (xs ys : List X) → xs ++ ys ≡ [] → ys ≡ []
append_right [] ys h = h
append_right (x ∷ xs) ys h = grind (arith, h)

pub each_none : {X Y : Type 0} (f : X → List Y) (xs : List X) → flat_map f xs ≡ [] → Each (λ x. f x ≡ []) xs
each_none f [] h = tt
each_none f (x ∷ xs) h = (append_left (f x) (flat_map f xs) h, each_none f xs (append_right (f x) (flat_map f xs) h))

pub each_front : {X : Type 0} (P : X → Type 0) (xs ys : List X) → Each P (xs ++ ys) → Each P xs
each_front P [] ys h = tt
each_front P (x ∷ xs) ys h = (h.0, each_front P xs ys h.1)

pub each_back : {X : Type 0} (P : X → Type 0) (xs ys : List X) → Each P (xs ++ ys) → Each P ys
each_back P [] ys h = h
each_back P (x ∷ xs) ys h = each_back P xs ys h.1

pub each_flat_map : {X Y : Type 0} (P : Y → Type 0) (f : X → List Y) (xs : List X) → Each P (flat_map f xs) → Each (λ x. Each P (f x)) xs
each_flat_map P f [] h = tt
each_flat_map P f (x ∷ xs) h = (each_front P (f x) (flat_map f xs) h, each_flat_map P f xs (each_back P (f x) (flat_map f xs) h))

pub some_same : {X : Type 0} (x y : X) → Some x ≡ Some y → x ≡ y
some_same x y h = ap (λ o. unwrap_or o x) h

pub each_filter_map : {X Y : Type 0} (P : Y → Type 0) (f : X → Option Y) (xs : List X) → Each P (filter_map f xs) → Each (λ x. (y : Y) → f x ≡ Some y → P y) xs
each_filter_map P f [] h = tt
each_filter_map {X} {Y} P f (x ∷ xs) h = by_case (f x) refl h (λ k. each_filter_map P f xs k)
  where
    by_case : (o : Option Y) → f x ≡ o → Each P (cons_option o (filter_map f xs)) → (Each P (filter_map f xs) → Each (λ x. (y : Y) → f x ≡ Some y → P y) xs) → Each (λ x. (y : Y) → f x ≡ Some y → P y) (x ∷ xs)
    by_case None e k go = ((λ y s. grind (arith, e, s)), go k)
    by_case (Some z) e k go = ((λ y s. subst P (some_same z y (sym e ∙ s)) k.0), go k.1)

pub filtered_each : {X Y : Type 0} (P : Y → Type 0) (f : X → Option Y) (xs : List X) → Each (λ x. (y : Y) → f x ≡ Some y → P y) xs → Each P (filter_map f xs)
filtered_each P f [] h = tt
filtered_each {X} {Y} P f (x ∷ xs) h = by_case (f x) h.0 (filtered_each P f xs h.1)
  where
    by_case : (o : Option Y) → ((y : Y) → o ≡ Some y → P y) → Each P (filter_map f xs) → Each P (cons_option o (filter_map f xs))
    by_case None k rest = rest
    by_case (Some z) k rest = (k z refl, rest)

pub first_each : {X : Type 0} (P : X → Type 0) (xs : List X) → Each P xs → (x : X) → first xs ≡ Some x → P x
first_each P [] h x e = grind (arith, e)
first_each P (y ∷ ys) h x e = subst P (some_same y x e) h.0

-- A fact that holds of each found element: there is none, or one of which it holds.
pub find_either : {X : Type 0} (P : X → Type 0) (test : X → Bool) (xs : List X) → Each P xs → (find test xs ≡ None) ⊎ ((x : X) × (find test xs ≡ Some x) × P x)
find_either P test [] h = inl refl
find_either {X} P test (x ∷ xs) h = by_case (test x) (find_either P test xs h.1)
  where
    by_case : (b : Bool) → ((find test xs ≡ None) ⊎ ((y : X) × (find test xs ≡ Some y) × P y)) → (cond b (Some x) (find test xs) ≡ None) ⊎ ((y : X) × (cond b (Some x) (find test xs) ≡ Some y) × P y)
    by_case true rest = inr (x, refl, h.0)
    by_case false rest = rest

pub all_there_each : {X : Type 0} (os : List (Option X)) → Each IsThere os → IsThere (all_there os)
all_there_each [] h = ([], refl)
all_there_each (None ∷ os) h = grind (arith, h.0.1)
all_there_each (Some x ∷ os) h = let rest = all_there_each os h.1 in (x ∷ rest.0, ap (option_map (λ xs. x ∷ xs)) rest.1)

pub there_unless : {X : Type 0} (o : Option X) → is_none o ≡ false → IsThere o
there_unless None h = grind (arith, h)
there_unless (Some x) h = (x, refl)

pub each_mapped : {X Y : Type 0} (P : Y → Type 0) (f : X → Y) (xs : List X) → Each (λ x. P (f x)) xs → Each P (map f xs)
each_mapped P f [] h = tt
each_mapped P f (x ∷ xs) h = (h.0, each_mapped P f xs h.1)

pub each_unmapped : {X Y : Type 0} (P : Y → Type 0) (f : X → Y) (xs : List X) → Each P (map f xs) → Each (λ x. P (f x)) xs
each_unmapped P f [] h = tt
each_unmapped P f (x ∷ xs) h = (h.0, each_unmapped P f xs h.1)

pub each_both : {X : Type 0} (P Q : X → Type 0) (xs : List X) → Each P xs → Each Q xs → Each (λ x. P x × Q x) xs
each_both P Q [] h k = tt
each_both P Q (x ∷ xs) h k = ((h.0, k.0), each_both P Q xs h.1 k.1)

-- What is made of a value that is there is there.
pub map_there : {X Y : Type 0} (f : X → Y) (o : Option X) → IsThere o → IsThere (option_map f o)
map_there f o t = (f t.0, ap (option_map f) t.1)

pub then_there : {X Y : Type 0} (f : X → Option Y) (o : Option X) (t : IsThere o) → IsThere (f t.0) → IsThere (option_and_then f o)
then_there f o t u = (u.0, ap (option_and_then f) t.1 ∙ u.1)

pub if_there_each : {X Y : Type 0} (f : X → Option Y) (o : Option X) → ((x : X) → o ≡ Some x → IsThere (f x)) → IsThere (if_there f o)
if_there_each f None h = (None, refl)
if_there_each f (Some x) h = map_there (λ y. Some y) (f x) (h x refl)

pub none_some : {X : Type 0} (x : X) → None ≡ Some x → ⊥
none_some x h = grind (arith, h)

-- a choice that gave a value gave its first
pub chosen_first : {X : Type 0} (b : Bool) (x y : X) → (if b then Some x else None) ≡ Some y → x ≡ y
chosen_first true x y h = some_same x y h
chosen_first false x y h = absurd (grind (arith, h))
