-- Turns as the leaves of a tree.
use Rattle.std.proofs.Common.{◌≡◌, ◌≢◌, ℕ, zero, suc, ◌+◌, ◌*◌, ◌-◌, ◌/◌, ◌%◌, ◌^◌, ◌≤◌, ◌<◌, ◌⊎◌, inl, inr, min, Bool, true, false, cond, eqb, List, [], ◌∷◌, length, map, set, get_or, take, drop, ◌++◌, replicate, slice_get, Option, Some, None, IfSome, IfNone, refl, sym, ap, ◌∙◌, subst, arith}
use Rattle.std.proofs.Math.Nat.{min-le_left, min-le_right, min-eq_left, min-eq_right}
use Rattle.std.proofs.lemmas.Bool.{cases_lt}
use Rattle.std.proofs.lemmas.Grind.{get_or_default_zero, common_steps}
use Rattle.std.proofs.lemmas.Bool.Decides.{eqb_tells}
use Rattle.std.proofs.lemmas.List as lists
use Rattle.std.proofs.lemmas.List.{get_or-drop, get_or-map, get_or-set_same, get_or-set_other, drop-set-lt, drop-set-add, length-map, length-set}
use Rattle.std.proofs.lemmas.Option.{slice_get-get_or}
use Rattle.std.specs.List.{AllByRecursion}
use Rattle.std.specs.Ordering.{is_lt}
use Rattle.ctf_merge.specs.Keys.{turn_of_key, IsTimed}
use Rattle.ctf_merge.specs.Turns.{Turn, turn_cmp}
use Rattle.ctf_merge.specs.Trees.{nothing, turn_in, node, IsTree, IsNode, AreNodes, IsLow, IsFirst}
use Rattle.ctf_merge.proofs.Keys.{keys_cmp}
use Rattle.ctf_merge.proofs.Turning.{not_less_number}

-- ---- the first node is the least

below : (leaves i j : ℕ) (nodes : List ℕ) → IsTree leaves nodes → 1 ≤ i → i < leaves → (j ≡ i + i) ⊎ (j ≡ i + i + 1) → node i nodes ≤ node j nodes
below leaves i j nodes tree from to (inl e) =
    subst (λ (k : ℕ). node i nodes ≤ node k nodes) (sym e)
    (subst (λ (m : ℕ). m ≤ node (i + i) nodes) (sym (tree.lesser i from to (λ z. omega (arith, z, from)))) (min-le_left (node (i + i) nodes) (node (i + i + 1) nodes)))
below leaves i j nodes tree from to (inr e) =
    subst (λ (k : ℕ). node i nodes ≤ node k nodes) (sym e)
    (subst (λ (m : ℕ). m ≤ node (i + i + 1) nodes) (sym (tree.lesser i from to (λ z. omega (arith, z, from)))) (min-le_right (node (i + i) nodes) (node (i + i + 1) nodes)))

half : (j : ℕ) → (j ≡ j / 2 + j / 2) ⊎ (j ≡ j / 2 + j / 2 + 1)
half j = by_rest (cases_lt (j / 2 + j / 2) j)
  where
    by_rest : (j / 2 + j / 2 < j) ⊎ (j ≤ j / 2 + j / 2) → (j ≡ j / 2 + j / 2) ⊎ (j ≡ j / 2 + j / 2 + 1)
    by_rest (inl odd) = inr (omega (arith, odd))
    by_rest (inr even) = inl (omega (arith, even))

low_step : (leaves j : ℕ) (nodes : List ℕ) → IsTree leaves nodes → 1 ≤ j → j < leaves + leaves → (1 ≤ j / 2 → j / 2 < leaves + leaves → node 1 nodes ≤ node (j / 2) nodes) → node 1 nodes ≤ node j nodes
low_step leaves j nodes tree first within above = by_first (cases_lt 1 j)
  where
    by_first : (1 < j) ⊎ (j ≤ 1) → node 1 nodes ≤ node j nodes
    by_first (inl more) =
        let up = above (omega (arith, more)) (omega (arith, within)) in
        let down = below leaves (j / 2) j nodes tree (omega (arith, more)) (omega (arith, within)) (half j) in
        omega (arith, up, down)
    by_first (inr one) =
        let same : j ≡ 1 = omega (arith, one, first) in
        let e = ap (λ (k : ℕ). node k nodes) same in
        omega (arith, e)

low_by : (fuel leaves j : ℕ) (nodes : List ℕ) → IsTree leaves nodes → j ≤ fuel → 1 ≤ j → j < leaves + leaves → node 1 nodes ≤ node j nodes
low_by zero leaves j nodes tree short first within = absurd (omega (arith, short, first))
low_by (suc fuel) leaves j nodes tree short first within =
    low_step leaves j nodes tree first within (λ from to. low_by fuel leaves (j / 2) nodes tree (omega (arith, short, first)) from to)

pub low : (leaves j : ℕ) (nodes : List ℕ) → IsTree leaves nodes → 1 ≤ j → j < leaves + leaves → node 1 nodes ≤ node j nodes
low leaves j nodes tree first within = low_by j leaves j nodes tree (omega arith) first within

-- it is a leaf
min_picks : (a b : ℕ) → (min a b ≡ a) ⊎ (min a b ≡ b)
min_picks a b = by_order (cases_lt a b)
  where
    by_order : (a < b) ⊎ (b ≤ a) → (min a b ≡ a) ⊎ (min a b ≡ b)
    by_order (inl lt) = inl (min-eq_left (omega (arith, lt)))
    by_order (inr le) = inr (min-eq_right le)

abbrev HasLeaf : ℕ → List ℕ → ℕ → Type 0
HasLeaf leaves nodes key = (m : ℕ) × (m < leaves) × (node (leaves + m) nodes ≡ key)

leaf_step : (leaves j : ℕ) (nodes : List ℕ) → IsTree leaves nodes → 1 ≤ j → j < leaves + leaves
    → ((i : ℕ) → j < i → i < leaves + leaves → HasLeaf leaves nodes (node i nodes)) → HasLeaf leaves nodes (node j nodes)
leaf_step leaves j nodes tree first within others = by_level (cases_lt j leaves)
  where
    by_pick : j < leaves → (min (node (j + j) nodes) (node (j + j + 1) nodes) ≡ node (j + j) nodes) ⊎ (min (node (j + j) nodes) (node (j + j + 1) nodes) ≡ node (j + j + 1) nodes) → HasLeaf leaves nodes (node j nodes)
    by_pick inner (inl e) =
        subst (λ (k : ℕ). HasLeaf leaves nodes k) (sym (tree.lesser j first inner (λ z. omega (arith, z, first)) ∙ e)) (others (j + j) (omega (arith, first)) (omega (arith, inner)))
    by_pick inner (inr e) =
        subst (λ (k : ℕ). HasLeaf leaves nodes k) (sym (tree.lesser j first inner (λ z. omega (arith, z, first)) ∙ e)) (others (j + j + 1) (omega (arith, first)) (omega (arith, inner)))

    by_level : (j < leaves) ⊎ (leaves ≤ j) → HasLeaf leaves nodes (node j nodes)
    by_level (inl inner) = by_pick inner (min_picks (node (j + j) nodes) (node (j + j + 1) nodes))
    by_level (inr outer) =
        let at : leaves + (j - leaves) ≡ j = omega (arith, outer) in
        (j - leaves, omega (arith, outer, within), ap (λ (k : ℕ). node k nodes) at)

leaf_by : (fuel leaves j : ℕ) (nodes : List ℕ) → IsTree leaves nodes → leaves + leaves ≤ fuel + j → 1 ≤ j → j < leaves + leaves → HasLeaf leaves nodes (node j nodes)
leaf_by zero leaves j nodes tree far first within = absurd (omega (arith, far, within))
leaf_by (suc fuel) leaves j nodes tree far first within =
    leaf_step leaves j nodes tree first within (λ i later to. leaf_by fuel leaves i nodes tree (omega (arith, far, later)) (omega (arith, later)) to)

pub leaf : (leaves j : ℕ) (nodes : List ℕ) → IsTree leaves nodes → 1 ≤ j → j < leaves + leaves → HasLeaf leaves nodes (node j nodes)
leaf leaves j nodes tree first within = leaf_by (leaves + leaves) leaves j nodes tree (omega arith) first within

-- ---- the leaves are turns

pub nodes_at : (from m : ℕ) (keys : List ℕ) → AreNodes from keys → m < length keys → IsNode (from + m) (get_or keys m 0)
nodes_at from m [] each lt = absurd (omega (arith, lt))
nodes_at from zero (k ∷ ks) each lt = subst (λ (n : ℕ). IsNode n k) (let q : from ≡ from + 0 = omega arith in q) each.0
nodes_at from (suc m) (k ∷ ks) each lt =
    subst (λ (n : ℕ). IsNode n (get_or ks m 0)) (let q : suc from + m ≡ from + suc m = omega arith in q) (nodes_at (suc from) m ks each.1 (omega (arith, lt)))

pub nodes_set : (from n m key : ℕ) (keys : List ℕ) → AreNodes from keys → n ≡ from + m → IsNode n key → AreNodes from (set keys m key)
nodes_set from n m key [] each at is = tt
nodes_set from n zero key (k ∷ ks) each at is = (subst (λ (i : ℕ). IsNode i key) (let q : n ≡ from = omega (arith, at) in q) is, each.1)
nodes_set from n (suc m) key (k ∷ ks) each at is = (each.0, nodes_set (suc from) n m key ks each.1 (omega (arith, at)) is)

pub nodes_nothing : (from n : ℕ) → AreNodes from (replicate n nothing)
nodes_nothing from zero = tt
nodes_nothing from (suc n) = (inl refl, nodes_nothing (suc from) n)

pub no_turns_in : (n : ℕ) → map turn_in (replicate n nothing) ≡ replicate n None
no_turns_in zero = refl
no_turns_in (suc n) = λ i. None ∷ no_turns_in n i

pub turn_is : (key : ℕ) → key % 2 ^ 63 + 1 < 2 ^ 63 → turn_in key ≡ Some (turn_of_key key)
turn_is key short = by_key (eqb_tells key nothing)
  where
    by_key : ((eqb key nothing ≡ true) × (key ≡ nothing)) ⊎ ((eqb key nothing ≡ false) × (key ≢ nothing)) → turn_in key ≡ Some (turn_of_key key)
    by_key (inl same) = absurd (let e = same.1 in omega (arith, e, short))
    by_key (inr other) = ap (λ (b : Bool). cond b None (Some (turn_of_key key))) other.0

timed : (number key : ℕ) → IsNode number key → IsTimed (key / 2 ^ 63)
timed number key (inl e) = inr (ap (λ (k : ℕ). k / 2 ^ 63 % 2) e)
timed number key (inr both) = both.0.timed

low_turn : (root key : ℕ) → IsTimed (root / 2 ^ 63) → IsTimed (key / 2 ^ 63) → root ≤ key → IfSome (turn_in key) (λ v. is_lt (turn_cmp v (turn_of_key root)) ≡ false)
low_turn root key first own le = by_key (eqb key nothing)
  where
    by_key : (b : Bool) → IfSome (cond b None (Some (turn_of_key key))) (λ v. is_lt (turn_cmp v (turn_of_key root)) ≡ false)
    by_key true = tt
    by_key false = ap is_lt (keys_cmp key root own first) ∙ not_less_number key root le

low_turns : (root from : ℕ) (keys : List ℕ) → IsTimed (root / 2 ^ 63) → AreNodes from keys → ((m : ℕ) → m < length keys → root ≤ get_or keys m 0) → IsLow (turn_of_key root) (map turn_in keys)
low_turns root from [] first each le = tt
low_turns root from (k ∷ ks) first each le =
    (low_turn root k first (timed from k each.0) (le 0 (omega arith)), low_turns root (suc from) ks first each.1 (λ m lt. le (suc m) (omega (arith, lt))))

leaves_long : (leaves : ℕ) (nodes : List ℕ) → IsTree leaves nodes → length (drop leaves nodes) ≡ leaves
leaves_long leaves nodes tree = let sized = tree.sized in let left = lists.length-drop leaves nodes in omega (arith, sized, left)

each_low : (leaves : ℕ) (nodes : List ℕ) → IsTree leaves nodes → (m : ℕ) → m < length (drop leaves nodes) → node 1 nodes ≤ get_or (drop leaves nodes) m 0
each_low leaves nodes tree m lt =
    let long = leaves_long leaves nodes tree in
    subst (λ (k : ℕ). node 1 nodes ≤ k) (sym (get_or-drop leaves nodes m 0)) (low leaves (leaves + m) nodes tree (omega (arith, lt, long)) (omega (arith, lt, long)))

own : (m key : ℕ) → IsNode m key → key % 2 ^ 63 + 1 < 2 ^ 63 → key % 2 ^ 63 ≡ m
own m key (inl e) short = absurd (omega (arith, e, short))
own m key (inr both) short = both.1

first_by : (leaves number m : ℕ) (nodes : List ℕ) → IsTree leaves nodes → AreNodes 0 (drop leaves nodes) → node 1 nodes % 2 ^ 63 + 1 < 2 ^ 63 → number ≡ node 1 nodes % 2 ^ 63
    → m < leaves → node (leaves + m) nodes ≡ node 1 nodes → IsFirst (map turn_in (drop leaves nodes)) number
first_by leaves number m nodes tree each short is lt found =
    let long = leaves_long leaves nodes tree in
    let within : m < length (drop leaves nodes) = omega (arith, lt, long) in
    let key_is : get_or (drop leaves nodes) m 0 ≡ node 1 nodes = get_or-drop leaves nodes m 0 ∙ found in
    let its : IsNode m (node 1 nodes) = subst (λ (k : ℕ). IsNode m k) key_is
    (subst (λ (j : ℕ). IsNode j (get_or (drop leaves nodes) m 0)) (let q : 0 + m ≡ m = omega arith in q) (nodes_at 0 m (drop leaves nodes) each within)) in
    let at : slice_get (map turn_in (drop leaves nodes)) m ≡ Some (Some (turn_of_key (node 1 nodes))) =
    slice_get-get_or (map turn_in (drop leaves nodes)) m None (let mapped = length-map (drop leaves nodes) turn_in in omega (arith, within, mapped))
    ∙ ap (λ (t : Option Turn). Some t) (get_or-map turn_in (drop leaves nodes) m 0 None within ∙ (ap turn_in key_is ∙ turn_is (node 1 nodes) short)) in
    record {
      turn = turn_of_key (node 1 nodes);
      at = subst (λ (n : ℕ). slice_get (map turn_in (drop leaves nodes)) n ≡ Some (Some (turn_of_key (node 1 nodes)))) (sym (is ∙ own m (node 1 nodes) its short)) at;
      low = low_turns (node 1 nodes) 0 (drop leaves nodes) (timed m (node 1 nodes) its) each (each_low leaves nodes tree);
    }

-- the first node names the stream with the least turn
pub first_is : (leaves number : ℕ) (nodes : List ℕ) → IsTree leaves nodes → AreNodes 0 (drop leaves nodes) → 1 < length nodes → node 1 nodes % 2 ^ 63 + 1 < 2 ^ 63 → number ≡ node 1 nodes % 2 ^ 63
    → IsFirst (map turn_in (drop leaves nodes)) number
first_is leaves number nodes tree each some short is =
    let found = leaf leaves 1 nodes tree (omega arith) (let sized = tree.sized in omega (arith, sized, some)) in
    first_by leaves number found.0 nodes tree each short is found.1 found.2

no_turn_by : (keys : List ℕ) (from : ℕ) → AreNodes from keys → ((m : ℕ) → m < length keys → nothing ≤ get_or keys m 0) → AllByRecursion (λ t. t ≡ None) (map turn_in keys)
no_turn_by [] from each far = tt
no_turn_by (k ∷ ks) from each far = (none each.0 (far 0 (omega arith)), no_turn_by ks (suc from) each.1 (λ m lt. far (suc m) (omega (arith, lt))))
  where
    none : IsNode from k → nothing ≤ k → turn_in k ≡ None
    none (inl e) far = ap turn_in e
    none (inr both) far = absurd (let short = both.0.short in let numbered = both.0.numbered in omega (arith, short, numbered, far))

pub none_is : (leaves : ℕ) (nodes : List ℕ) → IsTree leaves nodes → AreNodes 0 (drop leaves nodes) → node 1 nodes % 2 ^ 63 + 1 ≡ 2 ^ 63 → AllByRecursion (λ t. t ≡ None) (map turn_in (drop leaves nodes))
none_is leaves nodes tree each far = no_turn_by (drop leaves nodes) 0 each last
  where
    by_node : (m : ℕ) → IsNode m (node 1 nodes) → nothing ≤ node 1 nodes
    by_node m (inl e) = omega (arith, e)
    by_node m (inr both) = absurd (let numbered = both.0.numbered in omega (arith, numbered, far))

    last : (m : ℕ) → m < length (drop leaves nodes) → nothing ≤ get_or (drop leaves nodes) m 0
    last m lt =
        let long = leaves_long leaves nodes tree in
        let le = each_low leaves nodes tree m lt in
        let found = leaf leaves 1 nodes tree (omega arith) (omega (arith, lt, long)) in
        let within : found.0 < length (drop leaves nodes) = let its = found.1 in omega (arith, its, long) in
        let key_is : get_or (drop leaves nodes) found.0 0 ≡ node 1 nodes = get_or-drop leaves nodes found.0 0 ∙ found.2 in
        let first = by_node (0 + found.0) (subst (λ (k : ℕ). IsNode (0 + found.0) k) key_is (nodes_at 0 found.0 (drop leaves nodes) each within)) in
        omega (arith, le, first)

-- ---- at the start

pub tree_of_nothing : (leaves : ℕ) → IsTree leaves (replicate (leaves + leaves) nothing)
tree_of_nothing leaves = record {
  sized = lists.length-replicate (leaves + leaves) nothing;
  lesser = λ i first inner apart.
      same (i) (omega (arith, inner)) ∙ λ j. min (sym (same (i + i) (omega (arith, inner))) j) (sym (same (i + i + 1) (omega (arith, inner))) j);
}
  where
    same : (i : ℕ) → i < leaves + leaves → node i (replicate (leaves + leaves) nothing) ≡ nothing
    same i lt = lists.get_or-replicate (leaves + leaves) i nothing 0 lt

-- ---- what a look at the first node gives

-- the first node, as it is read
pub root_is : (read nodes : List ℕ) (v : ℕ) → read ≡ nodes → 1 < length read → v ≡ get_or read 1 v → v ≡ node 1 nodes
root_is read nodes v same some is = is ∙ (get_or_default_zero read 1 v some ∙ ap (node 1) same)

pub first_found : (result : Option ℕ) (leaves root : ℕ) (nodes : List ℕ) → IsTree leaves nodes → AreNodes 0 (drop leaves nodes) → 1 < length nodes → root ≡ node 1 nodes
    → IfSome result (λ n. n ≡ root % 2 ^ 63) → IfSome result (λ n. n + 1 < 2 ^ 63) → IfSome result (IsFirst (map turn_in (drop leaves nodes)))
first_found None leaves root nodes tree each some at named short = tt
first_found (Some n) leaves root nodes tree each some at named short =
    let is : n ≡ node 1 nodes % 2 ^ 63 = named ∙ ap (λ (k : ℕ). k % 2 ^ 63) at in
    first_is leaves n nodes tree each some (subst (λ (k : ℕ). k + 1 < 2 ^ 63) is short) is

pub none_found : (result : Option ℕ) (leaves root : ℕ) (nodes : List ℕ) → IsTree leaves nodes → AreNodes 0 (drop leaves nodes) → root ≡ node 1 nodes
    → IfNone result (root % 2 ^ 63 + 1 ≡ 2 ^ 63) → IfNone result (AllByRecursion (λ t. t ≡ None) (map turn_in (drop leaves nodes)))
none_found None leaves root nodes tree each at far = none_is leaves nodes tree each (sym (ap (λ (k : ℕ). k % 2 ^ 63 + 1) at) ∙ far)
none_found (Some n) leaves root nodes tree each at far = tt

-- ---- no stream has a turn

pub started : (count places : ℕ) (nodes : List ℕ) → places ≡ count * 2 → nodes ≡ replicate places nothing → IsTree count nodes × AreNodes 0 (drop count nodes)
started count places nodes twice is =
    let all : nodes ≡ replicate (count + count) nothing = is ∙ ap (λ (n : ℕ). replicate n nothing) (let e : places ≡ count + count = omega (arith, twice) in e) in
    let half : (count + count) - count ≡ count = omega arith in
    subst (λ (ks : List ℕ). IsTree count ks × AreNodes 0 (drop count ks)) (sym all)
    (tree_of_nothing count, subst (AreNodes 0) (sym (lists.drop-replicate count (count + count) nothing ∙ ap (λ (n : ℕ). replicate n nothing) half)) (nodes_nothing 0 count))

pub started_turns : (count places : ℕ) (nodes : List ℕ) → places ≡ count * 2 → nodes ≡ replicate places nothing → map turn_in (drop count nodes) ≡ replicate count None
started_turns count places nodes twice is =
    let all : nodes ≡ replicate (count + count) nothing = is ∙ ap (λ (n : ℕ). replicate n nothing) (let e : places ≡ count + count = omega (arith, twice) in e) in
    let half : (count + count) - count ≡ count = omega arith in
    ap (λ (ks : List ℕ). map turn_in (drop count ks)) all
    ∙ (ap (map turn_in) (lists.drop-replicate count (count + count) nothing ∙ ap (λ (n : ℕ). replicate n nothing) half) ∙ no_turns_in count)

-- ---- a stream has another turn

pub put_again : (leaves number key : ℕ) (old read new : List ℕ) → read ≡ old → AreNodes 0 (drop leaves old) → IsNode number key → IsTree leaves new → drop leaves new ≡ set (drop leaves read) number key
    → IsTree leaves new × AreNodes 0 (drop leaves new)
put_again leaves number key old read new same each own_key tree kept =
    (tree, subst (AreNodes 0) (sym (kept ∙ ap (λ (ks : List ℕ). set (drop leaves ks) number key) same)) (nodes_set 0 number number key (drop leaves old) each (omega arith) own_key))

pub put_turns : (leaves number key : ℕ) (turn : Option Turn) (old read new : List ℕ) → read ≡ old → turn_in key ≡ turn → drop leaves new ≡ set (drop leaves read) number key
    → map turn_in (drop leaves new) ≡ set (map turn_in (drop leaves old)) number turn
put_turns leaves number key turn old read new same is kept =
    ap (map turn_in) (kept ∙ ap (λ (ks : List ℕ). set (drop leaves ks) number key) same)
    ∙ (lists.map-set turn_in (drop leaves old) number key ∙ ap (λ (t : Option Turn). set (map turn_in (drop leaves old)) number t) is)

-- what is written to a list as long as it is there then
pub rewritten : (leaves : ℕ) (old new : List ℕ) (n : ℕ) → n ≡ length old → IsTree leaves old → IsTree leaves new → take n (new ++ drop (length new) old) ≡ new
rewritten leaves old new n long before after =
    let had = before.sized in
    let has = after.sized in
    as_long old new n long (omega (arith, had, has))
  where
    as_long : (xs ys : List ℕ) (n : ℕ) → n ≡ length xs → length ys ≡ length xs → take n (ys ++ drop (length ys) xs) ≡ ys
    as_long xs ys n e l = grind (arith, common_steps)
