-- What follows where an `Option` is known to be a `Some`.
use Rattle.std.proofs.Common.{◌≡◌, Bool, true, false, cond, Option, Some, None, refl, ◌⊎◌, inl, inr}
use Rattle.std.specs.Option.{option_map, option_map_or}

pub none_or : {A : Type 0} (b : Bool) (v x : A) → cond b None (Some v) ≡ Some x → (b ≡ false) × (v ≡ x)
none_or true v x e = absurd cc
none_or false v x e = (refl, cc)

pub either_way : {A : Type 0} (b : Bool) (u v : Option A) (x : A) → cond b u v ≡ Some x → ((b ≡ true) × (u ≡ Some x)) ⊎ ((b ≡ false) × (v ≡ Some x))
either_way true u v x e = inl (refl, e)
either_way false u v x e = inr (refl, e)

-- the same for a chain of tests, each of which leads to what is wanted
pub by_arm : {A : Type 0} (b : Bool) (u v : Option A) (x : A) {P : Type 0} → (b ≡ true → u ≡ Some x → P) → (v ≡ Some x → P) → cond b u v ≡ Some x → P
by_arm true u v x here later e = here refl e
by_arm false u v x here later e = later e

pub map_some : {A B : Type 0} (f : A → B) (o : Option A) (y : B) → option_map f o ≡ Some y → (x : A) × (o ≡ Some x) × (f x ≡ y)
map_some f None y e = absurd cc
map_some f (Some x) y e = (x, refl, cc)

pub map_or_some : {A B : Type 0} (f : A → Option B) (o : Option A) (d : Option B) (x : B) → option_map_or f o d ≡ Some x → ((y : A) × (o ≡ Some y) × (f y ≡ Some x)) ⊎ ((o ≡ None) × (d ≡ Some x))
map_or_some f None d x e = inr (refl, e)
map_or_some f (Some y) d x e = inl (y, refl, e)
