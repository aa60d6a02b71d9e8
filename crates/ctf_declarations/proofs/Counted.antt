-- How many classes scopes have, one scope more, and against the limit.
use Rattle.std.proofs.Common.{◌≡◌, ℕ, ◌+◌, ◌-◌, ◌^◌, ◌<◌, ◌≤◌, List, [], ◌∷◌, ◌++◌, map, take, length, get_or, Ok, Err, ap, sym, ◌∙◌, subst, arith}
use Rattle.std.specs.Prelude.{true, false, min, sum, nat_lt, flat_map}
use Rattle.std.proofs.lemmas.List.{map-append, take_more}
use Rattle.std.proofs.lemmas.List.Sums.{sum_by_push}
use Rattle.std.proofs.lemmas.Bool.Decides.{nat_tests}
use Rattle.ctf_meaning.specs.declared.fault.ResolveFault.{ResolveFault}
use Rattle.ctf_meaning.specs.declared.fault.ResolveFault.TheVariants.{TooDeep}
use Rattle.ctf_meaning.specs.Settings.{when}
use Rattle.ctf_meaning.specs.Faults.{most_nodes}
use Rattle.ctf_meaning.specs.Scopes.{scope_faults}
use Rattle.ctf_meaning.specs.Shapes.{nodes_of}
use Rattle.ctf_meaning_steps.specs.Told.{Told, unless}
use Rattle.ctf_meaning_steps.specs.Blocks.{Walked, Placed, scopes_told}

lt_true : (m n : ℕ) → m < n → nat_lt m n ≡ true
lt_true m n h = grind (arith, nat_tests)

lt_false : (m n : ℕ) → n ≤ m → nat_lt m n ≡ false
lt_false m n h = grind (arith, nat_tests)

sum_more : (xs : List ℕ) (y : ℕ) → sum (xs ++ y ∷ []) ≡ sum xs + y
sum_more xs y = sum_by_push (λ (n : ℕ). n) xs y

pub one_more : {X Y : Type 0} (f : Y → ℕ) (v : X → Y) (xs : List X) (i : ℕ) (x : X) → x ≡ get_or xs i x → i < length xs → sum (map f (map v (take (i + 1) xs))) ≡ sum (map f (map v (take i xs))) + f (v x)
one_more f v xs i x is h =
    ap (λ l. sum (map f (map v l))) (take_more xs i x h ∙ ap (λ y. take i xs ++ y ∷ []) (sym is))
    ∙ ap (λ l. sum (map f l)) (map-append v (take i xs) (x ∷ [])) ∙ ap sum (map-append f (map v (take i xs)) (v x ∷ [])) ∙ sum_more (map f (map v (take i xs))) (f (v x))

pub too_many : (total all : ℕ) → total ≡ min all (2 ^ 32 - 1) → 1048576 < total → unless (when (nat_lt most_nodes all) TooDeep) (Ok all) ≡ Err TooDeep
too_many total all e h = let l : 1048576 < all = omega arith in ap (λ b. unless (when b TooDeep) (Ok all)) (lt_true 1048576 all l)

pub few_enough : (total all : ℕ) → total ≡ min all (2 ^ 32 - 1) → total ≤ 1048576 → unless (when (nat_lt most_nodes all) TooDeep) (Ok all) ≡ Ok total
few_enough total all e h =
    let l : all ≤ 1048576 = omega arith in
    let s : all ≡ total = omega arith in
    ap (λ b. unless (when b TooDeep) (Ok all)) (lt_false 1048576 all l) ∙ ap Ok s

pub stopped_more : (total before node next : ℕ) → total ≡ min before (2 ^ 32 - 1) → next ≡ min (total + min node (2 ^ 32 - 1)) (2 ^ 32 - 1) → next ≡ min (before + node) (2 ^ 32 - 1)
stopped_more total before node next t n = omega arith

unless_fails : {A B : Type 0} (faults : List ResolveFault) (a : A) (t : Told B) (f : ResolveFault) → Err f ≡ unless faults (Ok a) → unless faults t ≡ Err f
unless_fails [] a t f h = absurd (cc)
unless_fails (g ∷ gs) a t f h = cc

unless_none : {A : Type 0} (faults : List ResolveFault) (t u : Told A) → faults ≡ [] → t ≡ u → unless faults t ≡ u
unless_none faults t u e h = subst (λ fs. unless fs t ≡ u) (sym e) h

-- where the count of the classes fails, the scopes do
pub scopes_fail : (w : Walked) (scopes : List Placed) (f : ResolveFault) → flat_map (λ p. scope_faults p.1) scopes ≡ [] →
    (let all = w.nodes + sum (map (λ p. nodes_of p.1) scopes) in Err f ≡ unless (when (nat_lt most_nodes all) TooDeep) (Ok all)) →
    scopes_told w scopes ≡ Err f
scopes_fail w scopes f none told = unless_none _ _ (Err f) none (unless_fails _ _ _ f told)
