-- The merged list, one item after the other.
use Rattle.std.proofs.Common.{◌≡◌, ℕ, zero, suc, ◌+◌, ◌⊎◌, inl, inr, Bool, true, false, cond, List, [], ◌∷◌, length, map, set, Option, Some, None, refl, sym, ap, ◌∙◌, arith}
use Rattle.std.specs.List.{AllZip}
use Rattle.ctf_packet.specs.Classes.{Classes}
use Rattle.ctf_packet.specs.Items.{Run, Item}
use Rattle.ctf_packet.specs.declared.fault.StreamFault.{StreamFault}
use Rattle.ctf_packet.specs.declared.fault.StreamFault.TheVariants as faults
use Rattle.ctf_packet.specs.ItemTimes.{time_of}
use Rattle.ctf_stream.specs.Reader as reader
use Rattle.ctf_stream.specs.Reader.{OrRefused}
use Rattle.stream_laws.specs.Times.{is_before}
use Rattle.ctf_merge.specs.Merged.{Merged, First, item, broken, nothing, later, least, with_first, first_of, head_of, head_by, run_at, advance, without_first, count, ends, then, merged, merged_by}
use Rattle.ctf_merge.specs.Merges.{MergedOrRefused}
use Rattle.ctf_merge.specs.declared.fault.MergeFault.TheVariants.{Stream}

-- ---- what the first of several heads is

pub later_item : (f : First) (i : ℕ) (x : Item Classes) → later f ≡ item i x → (m : ℕ) × ((i ≡ suc m) × (f ≡ item m x))
later_item (item k z) i x e = (k, (sym (number_is (suc k) i z x e), ap (item k) (item_is (suc k) i z x e)))
  where
    number_is : (k i : ℕ) (z x : Item Classes) → item k z ≡ item i x → k ≡ i
    number_is k i z x e = cc

    item_is : (k i : ℕ) (z x : Item Classes) → item k z ≡ item i x → z ≡ x
    item_is k i z x e = cc
later_item (broken k g) i x e = absurd cc
later_item nothing i x e = absurd cc

pub least_item : (y : Item Classes) (f : First) (i : ℕ) (x : Item Classes) → least y f ≡ item i x → (i ≡ 0) ⊎ (f ≡ item i x)
least_item y (item j z) i x e = either (is_before (time_of z) (time_of y)) e
  where
    number_is : (k i : ℕ) (z x : Item Classes) → item k z ≡ item i x → i ≡ k
    number_is k i z x e = cc

    either : (b : Bool) → cond b (item j z) (item 0 y) ≡ item i x → (i ≡ 0) ⊎ (item j z ≡ item i x)
    either true h = inr h
    either false h = inl (number_is 0 i y x h)
least_item y (broken k g) i x e = absurd cc
least_item y nothing i x e = inl (number_is 0 i y x e)
  where
    number_is : (k i : ℕ) (z x : Item Classes) → item k z ≡ item i x → i ≡ k
    number_is k i z x e = cc

-- the number of items falls by one, of the first run or of a later one
count_by : (r : Run Classes) (rs : List (Run Classes)) (i : ℕ) (x : Item Classes) → ((m : ℕ) → first_of (map head_of rs) ≡ item m x → count rs ≡ suc (count (advance m rs)))
    → first_of (map head_of (r ∷ rs)) ≡ item i x → count (r ∷ rs) ≡ suc (count (advance i (r ∷ rs)))
count_by r rs i x others e = by_items r.items r.fault e
  where
    one_more : (n : ℕ) (m : ℕ) → first_of (map head_of rs) ≡ item m x → n + count rs ≡ suc (n + count (advance m rs))
    one_more n m h = let falls = others m h in omega (arith, falls)

    after : (items : List (Item Classes)) → later (first_of (map head_of rs)) ≡ item i x → length items + count rs ≡ suc (count (advance i (record r { items = items } ∷ rs)))
    after items h =
        let before_it = later_item (first_of (map head_of rs)) i x h in
        rw before_it.1.0 (one_more (length items) before_it.0 before_it.1.1)

    here : (y : Item Classes) (ys : List (Item Classes)) → i ≡ 0 → length (y ∷ ys) + count rs ≡ suc (count (advance i (record r { items = y ∷ ys } ∷ rs)))
    here y ys zero_is = rw zero_is (omega arith)

    by_items : (items : List (Item Classes)) (fault : Option StreamFault) → with_first (head_by items fault) (later (first_of (map head_of rs))) ≡ item i x
        → length items + count rs ≡ suc (count (advance i (record r { items = items } ∷ rs)))
    by_items [] None h = after [] h
    by_items [] (Some f) h = absurd cc
    by_items (y ∷ ys) fault h = elim (least_item y (later (first_of (map head_of rs))) i x h) [ inl z ↦ here y ys z | inr k ↦ after (y ∷ ys) k ]

pub item-count : (rs : List (Run Classes)) (i : ℕ) (x : Item Classes) → first_of (map head_of rs) ≡ item i x → count rs ≡ suc (count (advance i rs))
item-count [] i x e = absurd cc
item-count (r ∷ rs) i x e = count_by r rs i x (λ m h. item-count rs m x h) e

-- the merged list begins with the first item
pub merged-item : (rs : List (Run Classes)) (i : ℕ) (x : Item Classes) → first_of (map head_of rs) ≡ item i x → merged rs ≡ then (record { number = i; item = x }) (merged (advance i rs))
unfolding merged
merged-item rs i x e = rw (item-count rs i x e, e) refl

pub merged-broken : (rs : List (Run Classes)) (i : ℕ) (f : StreamFault) → first_of (map head_of rs) ≡ broken i f → merged rs ≡ ends (Some (Stream i f))
unfolding merged
merged-broken rs i f e = by_count (count rs)
  where
    by_count : (n : ℕ) → merged_by n rs ≡ ends (Some (Stream i f))
    by_count zero = rw e refl
    by_count (suc n) = rw e refl

pub merged-nothing : (rs : List (Run Classes)) → first_of (map head_of rs) ≡ nothing → merged rs ≡ ends None
unfolding merged
merged-nothing rs e = by_count (count rs)
  where
    by_count : (n : ℕ) → merged_by n rs ≡ ends None
    by_count zero = rw e refl
    by_count (suc n) = rw e refl

-- ---- one reader went on

pub advance-set : (rs : List (Run Classes)) (n : ℕ) → set rs n (without_first (run_at n rs)) ≡ advance n rs
advance-set [] n = refl
advance-set (r ∷ rs) zero = refl
advance-set (r ∷ rs) (suc n) = ap (λ (t : List (Run Classes)). r ∷ t) (advance-set rs n)

pub head-refused : (run : Run Classes) → run.items ≡ [] → run.fault ≡ Some faults.NoMemory → head_of run ≡ reader.fault faults.NoMemory
head-refused run none fault = rw (none, fault) refl

-- a refused growth in the stream that was taken from is what comes next
refused_by : (r : Run Classes) (rs : List (Run Classes)) (n : ℕ) (x : Item Classes) (run : Run Classes) → head_of run ≡ reader.fault faults.NoMemory
    → ((m : ℕ) → first_of (map head_of rs) ≡ item m x → first_of (map head_of (set rs m run)) ≡ broken m faults.NoMemory)
    → first_of (map head_of (r ∷ rs)) ≡ item n x → first_of (map head_of (set (r ∷ rs) n run)) ≡ broken n faults.NoMemory
refused_by r rs zero x run is others e = rw is refl
refused_by r rs (suc m) x run is others e = by_head (head_of r) e
  where
    number_is : (k : ℕ) → suc m ≡ suc k → k ≡ m
    number_is k h = omega (arith, h)

    after : later (first_of (map head_of rs)) ≡ item (suc m) x → first_of (map head_of (set rs m run)) ≡ broken m faults.NoMemory
    after h =
        let before_it = later_item (first_of (map head_of rs)) (suc m) x h in
        others m (before_it.1.1 ∙ ap (λ (k : ℕ). item k x) (number_is before_it.0 before_it.1.0))

    by_head : (h : reader.Peeked) → with_first h (later (first_of (map head_of rs))) ≡ item (suc m) x
        → with_first h (later (first_of (map head_of (set rs m run)))) ≡ broken (suc m) faults.NoMemory
    by_head reader.start k = rw (after k) refl
    by_head (reader.item y) k = elim (least_item y (later (first_of (map head_of rs))) (suc m) x k) [ inl z ↦ absurd cc | inr j ↦ rw (after j) refl ]
    by_head reader.ended k = rw (after k) refl
    by_head (reader.fault f) k = absurd cc

pub refused-first : (rs : List (Run Classes)) (n : ℕ) (x : Item Classes) (run : Run Classes) → head_of run ≡ reader.fault faults.NoMemory
    → first_of (map head_of rs) ≡ item n x → first_of (map head_of (set rs n run)) ≡ broken n faults.NoMemory
refused-first [] n x run is e = absurd cc
refused-first (r ∷ rs) n x run is e = refused_by r rs n x run is (λ m h. refused-first rs m x run is h) e

-- What is to come once the stream of the first item went on: the rest of the merged list, or a growth was refused.
pub gone_on : (rs : List (Run Classes)) (n : ℕ) (x : Item Classes) (run : Run Classes) → first_of (map head_of rs) ≡ item n x
    → OrRefused (without_first (run_at n rs)) run → MergedOrRefused (merged (advance n rs)) (merged (set rs n run))
gone_on rs n x run e (inl same) = inl (ap merged (ap (λ (t : Run Classes). set rs n t) same ∙ advance-set rs n))
gone_on rs n x run e (inr none) =
    let told = merged-broken (set rs n run) n faults.NoMemory (refused-first rs n x run (head-refused run none.0 none.1) e) in
    inr (ap (λ (m : Merged). m.items) told, (Stream n faults.NoMemory, ap (λ (m : Merged). m.fault) told, refl))

-- ---- several streams were fetched

-- What several streams begin with, where growths may have been refused: the same runs, a refusal, or the same fault.
pub data Begins (rs actual : List (Run Classes)) : Type 0 where
  same : actual ≡ rs → Begins rs actual
  refused : (i : ℕ) → first_of (map head_of actual) ≡ broken i faults.NoMemory → Begins rs actual
  faulty : (i : ℕ) (f : StreamFault) → first_of (map head_of actual) ≡ broken i f → first_of (map head_of rs) ≡ broken i f → Begins rs actual

with_broken : (h : reader.Peeked) (f : First) (i : ℕ) (g : StreamFault) → f ≡ broken i g
    → (with_first h (later f) ≡ broken (suc i) g) ⊎ ((k : StreamFault) × (h ≡ reader.fault k))
with_broken reader.start f i g e = rw e (inl refl)
with_broken (reader.item x) f i g e = rw e (inl refl)
with_broken reader.ended f i g e = rw e (inl refl)
with_broken (reader.fault k) f i g e = inr (k, refl)

begins_more : (r s : Run Classes) (rs ss : List (Run Classes)) → OrRefused r s → Begins rs ss → Begins (r ∷ rs) (s ∷ ss)
begins_more r s rs ss (inr none) b = refused 0 (rw (head-refused s none.0 none.1) refl)
begins_more r s rs ss (inl e) (same es) = same (λ i. e i ∷ es i)
begins_more r s rs ss (inl e) (refused i b) = by_head (with_broken (head_of s) (first_of (map head_of ss)) i faults.NoMemory b)
  where
    by_head : (with_first (head_of s) (later (first_of (map head_of ss))) ≡ broken (suc i) faults.NoMemory) ⊎ ((k : StreamFault) × (head_of s ≡ reader.fault k)) → Begins (r ∷ rs) (s ∷ ss)
    by_head (inl h) = refused (suc i) h
    by_head (inr k) = faulty 0 k.0 (rw k.1 refl) (rw (sym (ap head_of e) ∙ k.1) refl)
begins_more r s rs ss (inl e) (faulty i f b c) = by_head (with_broken (head_of s) (first_of (map head_of ss)) i f b)
  where
    by_head : (with_first (head_of s) (later (first_of (map head_of ss))) ≡ broken (suc i) f) ⊎ ((k : StreamFault) × (head_of s ≡ reader.fault k)) → Begins (r ∷ rs) (s ∷ ss)
    by_head (inl h) = faulty (suc i) f h (ap (λ (h : reader.Peeked). with_first h (later (first_of (map head_of rs)))) (sym (ap head_of e)) ∙ both)
      where
        both : with_first (head_of s) (later (first_of (map head_of rs))) ≡ broken (suc i) f
        both = ap (λ (g : First). with_first (head_of s) (later g)) (c ∙ sym b) ∙ h
    by_head (inr k) = faulty 0 k.0 (rw k.1 refl) (rw (sym (ap head_of e) ∙ k.1) refl)

pub begins : (rs actual : List (Run Classes)) → AllZip OrRefused rs actual → Begins rs actual
begins [] [] each = same refl
begins [] (s ∷ ss) each = absurd each
begins (r ∷ rs) [] each = absurd each
begins (r ∷ rs) (s ∷ ss) each = begins_more r s rs ss each.0 (begins rs ss each.1)

-- what is to come once each stream was fetched
pub all_fetched : (rs actual : List (Run Classes)) → AllZip OrRefused rs actual → MergedOrRefused (merged rs) (merged actual)
all_fetched rs actual each = by_begin (begins rs actual each)
  where
    by_begin : Begins rs actual → MergedOrRefused (merged rs) (merged actual)
    by_begin (same e) = inl (ap merged e)
    by_begin (refused i b) =
        let told = merged-broken actual i faults.NoMemory b in
        inr (ap (λ (m : Merged). m.items) told, (Stream i faults.NoMemory, ap (λ (m : Merged). m.fault) told, refl))
    by_begin (faulty i f b c) = inl (merged-broken actual i f b ∙ sym (merged-broken rs i f c))
