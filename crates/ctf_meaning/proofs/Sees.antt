-- Which parts a place sees: those that are before it in a block around it.
use Rattle.std.proofs.Common.{◌≡◌, ℕ, ◌<◌, ◌≤◌, nat_eq, nat_lt, Bool, false, ◌&&◌, ◌||◌, [], ◌∷◌, length, refl, arith}
use Rattle.ctf_meaning.specs.Parts.{Place}
use Rattle.ctf_meaning.specs.Names.{same_place}
use Rattle.ctf_meaning.proofs.Lists.{or_both, and_left, and_right}

-- the part of this place is in the block, before the part of this number
abbrev pub is_before : ℕ → Place → Place → Bool
is_before number block [] = false
is_before number block (m ∷ b) = same_place b block && nat_lt m number

abbrev pub sees : Place → Place → Bool
sees [] place = false
sees (number ∷ block) place = is_before number block place || sees block place

-- the second place is the first, or lies under it
pub data Under (top : Place) : Place → Type 0 where
  here : Under top top
  down : (n : ℕ) {x : Place} → Under top x → Under top (n ∷ x)

pub under_outer : (n : ℕ) (top : Place) (x : Place) → Under (n ∷ top) x → Under top x
under_outer n top x here = down n here
under_outer n top x (down m u) = down m (under_outer n top _ u)

pub under_under : (top x y : Place) → Under top x → Under x y → Under top y
under_under top x y u here = u
under_under top x y u (down n {x = z} v) = down n (under_under top x z u v)

pub under_length : (top x : Place) → Under top x → length top ≤ length x
under_length top x here = omega arith
under_length top x (down m {x = y} u) = let below : length top ≤ length y = under_length top y u in grind (arith, below)

pub shorter_differs : (p q : Place) → length p < length q → same_place p q ≡ false
shorter_differs [] [] h = grind (arith, h)
shorter_differs [] (m ∷ q) h = refl
shorter_differs (n ∷ p) [] h = refl
shorter_differs (n ∷ p) (m ∷ q) h = and_right (nat_eq n m) (same_place p q) (shorter_differs p q (grind (arith, h)))

pub longer_differs : (p q : Place) → length q < length p → same_place p q ≡ false
longer_differs [] [] h = grind (arith, h)
longer_differs [] (m ∷ q) h = refl
longer_differs (n ∷ p) [] h = refl
longer_differs (n ∷ p) (m ∷ q) h = and_right (nat_eq n m) (same_place p q) (longer_differs p q (grind (arith, h)))

-- A place sees none that is longer.
pub sees-longer : (b y : Place) → length b < length y → sees b y ≡ false
sees-longer [] y h = refl
sees-longer (n ∷ b) [] h = grind (arith, h)
sees-longer (n ∷ b) (m ∷ y) h =
    or_both (same_place y b && nat_lt m n) (sees b (m ∷ y))
    (and_left (same_place y b) (nat_lt m n) (longer_differs y b (grind (arith, h))))
    (sees-longer b (m ∷ y) (grind (arith, h)))

pub apart : (a j : ℕ) (block x y : Place) → a < j → Under (a ∷ block) x → Under (j ∷ block) y → same_place y x ≡ false
apart a j block x y less here here = and_left (nat_eq j a) (same_place block block) (grind (arith, less))
apart a j block x y less (down n {x = u} under) here =
    let long : length (a ∷ block) ≤ length u = under_length (a ∷ block) u under in
    and_right (nat_eq j n) (same_place block u) (shorter_differs block u (grind (arith, long)))
apart a j block x y less here (down m {x = v} under) =
    let long : length (j ∷ block) ≤ length v = under_length (j ∷ block) v under in
    and_right (nat_eq m a) (same_place v block) (longer_differs v block (grind (arith, long)))
apart a j block x y less (down n {x = u} under) (down m {x = v} below) =
    and_right (nat_eq m n) (same_place v u) (apart a j block u v less under below)

-- A place sees neither the part in which it lies,
pub sees-own : (top x : Place) → Under top x → sees x top ≡ false
sees-own [] x here = refl
sees-own (n ∷ b) x here =
    or_both (same_place b b && nat_lt n n) (sees b (n ∷ b))
    (and_right (same_place b b) (nat_lt n n) (grind arith))
    (sees-longer b (n ∷ b) (grind arith))
sees-own [] x (down n {x = u} under) = sees-own [] u under
sees-own (m ∷ b) x (down n {x = u} under) =
    let long : length (m ∷ b) ≤ length u = under_length (m ∷ b) u under in
    or_both (same_place b u && nat_lt m n) (sees u (m ∷ b))
    (and_left (same_place b u) (nat_lt m n) (shorter_differs b u (grind (arith, long))))
    (sees-own (m ∷ b) u under)

-- nor what lies in a later part of a block around it.
pub sees-later : (a j : ℕ) (block x y : Place) → a < j → Under (a ∷ block) x → Under (j ∷ block) y → sees x y ≡ false
sees-later a j block x y less here here =
    or_both (same_place block block && nat_lt j a) (sees block (j ∷ block))
    (and_right (same_place block block) (nat_lt j a) (grind (arith, less)))
    (sees-longer block (j ∷ block) (grind arith))
sees-later a j block x y less here (down m {x = v} under) =
    let long : length (j ∷ block) ≤ length v = under_length (j ∷ block) v under in
    or_both (same_place v block && nat_lt m a) (sees block (m ∷ v))
    (and_left (same_place v block) (nat_lt m a) (longer_differs v block (grind (arith, long))))
    (sees-longer block (m ∷ v) (grind (arith, long)))
sees-later a j block x y less (down n {x = u} under) here =
    let long : length (a ∷ block) ≤ length u = under_length (a ∷ block) u under in
    or_both (same_place block u && nat_lt j n) (sees u (j ∷ block))
    (and_left (same_place block u) (nat_lt j n) (shorter_differs block u (grind (arith, long))))
    (sees-later a j block u (j ∷ block) less under here)
sees-later a j block x y less (down n {x = u} under) (down m {x = v} below) =
    or_both (same_place v u && nat_lt m n) (sees u (m ∷ v))
    (and_left (same_place v u) (nat_lt m n) (apart a j block u v less under below))
    (sees-later a j block u (m ∷ v) less under (down m below))
