-- The merged list is all items in order, up to the cut.
use Rattle.std.proofs.Common.{◌≡◌, ◌≢◌, ℤ, ℕ, zero, suc, ◌+◌, ◌<◌, ◌⊎◌, inl, inr, Bool, true, false, cond, eqb, List, [], ◌∷◌, map, Option, Some, None, refl, sym, ap, ◌∙◌, subst, arith}
use Rattle.std.specs.List.{AllByRecursion}
use Rattle.std.specs.Ordering.{is_lt}
use Rattle.std.proofs.lemmas.Bool.Decides.{eqb_tells}
use Rattle.ctf_packet.specs.Classes.{Classes}
use Rattle.ctf_packet.specs.Items.{Run, Item}
use Rattle.ctf_packet.specs.declared.fault.StreamFault.{StreamFault}
use Rattle.ctf_packet.specs.ItemTimes.{time_of}
use Rattle.ctf_stream.specs.Peeked.{told}
use Rattle.ctf_stream.specs.Reader as reader
use Rattle.stream_laws.specs.Times.{is_before, Rises}
use Rattle.ctf_merge.specs.Merged.{Merged, Placed, First, item, broken, nothing, later, least, with_first, first_of, head_of, head_by, run_at, of_stream, advance, after_first, count, ends, then, merged, InOrder, IsPlacedBefore, IsMerged, IsCut, whole, at_once, after}
use Rattle.ctf_merge.specs.Turns.{Turn, turn_cmp, turns_from, fault_at}
use Rattle.ctf_merge.specs.declared.fault.MergeFault.TheVariants.{Stream}
use Rattle.ctf_merge.proofs.Merging.{item-count, merged-item, merged-broken, merged-nothing}
use Rattle.ctf_merge.proofs.Going.{front_by, next_by}
use Rattle.ctf_merge.specs.Trees.{IsLow}
use Rattle.ctf_merge.proofs.Turning.{lows, turn_of, not_before, not_less_along, later_number, tied}
use Rattle.ctf_merge.proofs.Lining.{not_broken}
use Rattle.ctf_merge.proofs.Rising.{low_heads}

-- ---- one item less of one stream

after_item : (items : List (Item Classes)) (fault : Option StreamFault) (x : Item Classes) → head_by items fault ≡ reader.item x → items ≡ x ∷ after_first items
after_item [] None x e = absurd cc
after_item [] (Some f) x e = absurd cc
after_item (y ∷ ys) fault x e = ap (λ (z : Item Classes). z ∷ ys) (let same : y ≡ x = cc in same)

at_same : (runs : List (Run Classes)) (n : ℕ) (x : Item Classes) → first_of (map head_of runs) ≡ item n x → (run_at n runs).items ≡ x ∷ (run_at n (advance n runs)).items
at_same [] n x e = absurd cc
at_same (r ∷ rs) zero x e = after_item r.items r.fault x (front_by (head_of r) (first_of (map head_of rs)) x e)
at_same (r ∷ rs) (suc m) x e = at_same rs m x (next_by (head_of r) (first_of (map head_of rs)) m x e)

at_other : (runs : List (Run Classes)) (n i : ℕ) → n ≢ i → run_at i (advance n runs) ≡ run_at i runs
at_other [] n i other = refl
at_other (r ∷ rs) zero zero other = absurd (other refl)
at_other (r ∷ rs) zero (suc k) other = refl
at_other (r ∷ rs) (suc m) zero other = refl
at_other (r ∷ rs) (suc m) (suc k) other = at_other rs m k (λ e. other (ap suc e))

same_fault : (runs : List (Run Classes)) (n i : ℕ) → (run_at i (advance n runs)).fault ≡ (run_at i runs).fault
same_fault [] n i = refl
same_fault (r ∷ rs) zero zero = refl
same_fault (r ∷ rs) zero (suc k) = refl
same_fault (r ∷ rs) (suc m) zero = refl
same_fault (r ∷ rs) (suc m) (suc k) = same_fault rs m k

-- ---- all items of all streams

abbrev Faultless : List (Run Classes) → Type 0
Faultless runs = AllByRecursion (λ r. r.fault ≡ None) runs

faultless_on : (runs : List (Run Classes)) (n : ℕ) → Faultless runs → Faultless (advance n runs)
faultless_on [] n all = tt
faultless_on (r ∷ rs) zero all = (all.0, all.1)
faultless_on (r ∷ rs) (suc m) all = (all.0, faultless_on rs m all.1)

faultless_head : (items : List (Item Classes)) (fault : Option StreamFault) → fault ≡ None → fault_at (told (head_by items fault)) ≡ None
faultless_head [] None e = refl
faultless_head [] (Some f) e = absurd cc
faultless_head (x ∷ xs) fault e = refl

faultless_heads : (runs : List (Run Classes)) → Faultless runs → AllByRecursion (λ h. fault_at (told h) ≡ None) (map head_of runs)
faultless_heads [] all = tt
faultless_heads (r ∷ rs) all = (faultless_head r.items r.fault all.0, faultless_heads rs all.1)

not_least : (y : Item Classes) (f : First) → least y f ≡ nothing → ⊥
not_least y (item i z) e = either (is_before (time_of z) (time_of y)) e
  where
    either : (b : Bool) → cond b (item i z) (item 0 y) ≡ nothing → ⊥
    either true h = absurd cc
    either false h = absurd cc
not_least y (broken i f) e = absurd cc
not_least y nothing e = absurd cc

later_nothing : (f : First) → later f ≡ nothing → f ≡ nothing
later_nothing (item i x) e = absurd cc
later_nothing (broken i f) e = absurd cc
later_nothing nothing e = refl

ended_by : (items : List (Item Classes)) (fault : Option StreamFault) (f : First) → with_first (head_by items fault) (later f) ≡ nothing → (items ≡ []) × (fault ≡ None) × (f ≡ nothing)
ended_by [] None f e = (refl, refl, later_nothing f e)
ended_by [] (Some g) f e = absurd cc
ended_by (x ∷ xs) fault f e = absurd (not_least x (later f) e)

all_ended : (runs : List (Run Classes)) (i : ℕ) → first_of (map head_of runs) ≡ nothing → ((run_at i runs).items ≡ []) × ((run_at i runs).fault ≡ None)
all_ended [] i e = (refl, refl)
all_ended (r ∷ rs) zero e = let here = ended_by r.items r.fault (first_of (map head_of rs)) e in (here.0, here.1)
all_ended (r ∷ rs) (suc k) e = all_ended rs k (ended_by r.items r.fault (first_of (map head_of rs)) e).2

each_step : (runs : List (Run Classes)) (n i : ℕ) (x : Item Classes) (rest : List Placed) → first_of (map head_of runs) ≡ item n x → of_stream i rest ≡ (run_at i (advance n runs)).items
    → of_stream i (record { number = n; item = x } ∷ rest) ≡ (run_at i runs).items
each_step runs n i x rest e others = by_test (eqb_tells n i)
  where
    by_test : ((eqb n i ≡ true) × (n ≡ i)) ⊎ ((eqb n i ≡ false) × (n ≢ i)) → of_stream i (record { number = n; item = x } ∷ rest) ≡ (run_at i runs).items
    by_test (inl t) =
        let here : (run_at i runs).items ≡ x ∷ (run_at i (advance n runs)).items = subst (λ (k : ℕ). (run_at k runs).items ≡ x ∷ (run_at k (advance n runs)).items) t.1 (at_same runs n x e) in
        ap (λ (b : Bool). cond b (x ∷ of_stream i rest) (of_stream i rest)) t.0 ∙ (ap (λ (l : List (Item Classes)). x ∷ l) others ∙ sym here)
    by_test (inr f) =
        ap (λ (b : Bool). cond b (x ∷ of_stream i rest) (of_stream i rest)) f.0 ∙ (others ∙ ap (λ (r : Run Classes). r.items) (at_other runs n i f.1))

each_by_first : (runs : List (Run Classes)) → ((n : ℕ) (x : Item Classes) → first_of (map head_of runs) ≡ item n x → (i : ℕ) → of_stream i (merged (advance n runs)).items ≡ (run_at i (advance n runs)).items)
    → Faultless runs → (i : ℕ) → of_stream i (merged runs).items ≡ (run_at i runs).items
each_by_first runs others all i = by_first (first_of (map head_of runs)) refl
  where
    by_first : (f : First) → first_of (map head_of runs) ≡ f → of_stream i (merged runs).items ≡ (run_at i runs).items
    by_first (item n x) e = ap (λ (m : Merged). of_stream i m.items) (merged-item runs n x e) ∙ each_step runs n i x (merged (advance n runs)).items e (others n x e i)
    by_first (broken n f) e = absurd (not_broken (map head_of runs) n f (faultless_heads runs all) e)
    by_first nothing e = ap (λ (m : Merged). of_stream i m.items) (merged-nothing runs e) ∙ sym (all_ended runs i e).0

each_by : (fuel : ℕ) (runs : List (Run Classes)) → count runs ≡ fuel → Faultless runs → (i : ℕ) → of_stream i (merged runs).items ≡ (run_at i runs).items
each_by zero runs is all = each_by_first runs (λ n x e. absurd (let more = item-count runs n x e in omega (arith, is, more))) all
each_by (suc fuel) runs is all = each_by_first runs (λ n x e. each_by fuel (advance n runs) (let more = item-count runs n x e in omega (arith, is, more)) (faultless_on runs n all)) all

pub each_item : (runs : List (Run Classes)) → Faultless runs → (i : ℕ) → of_stream i (merged runs).items ≡ (run_at i runs).items
each_item runs all = each_by (count runs) runs refl all

-- ---- the cut

abbrev without_fault : Run Classes → Run Classes
without_fault r = record { items = r.items; fault = None; at = r.at }

abbrev pub faultless : List (Run Classes) → List (Run Classes)
faultless runs = map without_fault runs

pub faultless_all : (runs : List (Run Classes)) → Faultless (faultless runs)
faultless_all [] = tt
faultless_all (r ∷ rs) = (refl, faultless_all rs)

same_items : (runs : List (Run Classes)) (i : ℕ) → (run_at i (faultless runs)).items ≡ (run_at i runs).items
same_items [] i = refl
same_items (r ∷ rs) zero = refl
same_items (r ∷ rs) (suc k) = same_items rs k

faultless_advance : (runs : List (Run Classes)) (n : ℕ) → advance n (faultless runs) ≡ faultless (advance n runs)
faultless_advance [] n = refl
faultless_advance (r ∷ rs) zero = refl
faultless_advance (r ∷ rs) (suc m) = ap (λ (l : List (Run Classes)). without_fault r ∷ l) (faultless_advance rs m)

-- where an item comes first, no fault comes next
no_fault_by : (items : List (Item Classes)) (fault : Option StreamFault) (f : First) (n : ℕ) (x : Item Classes) → with_first (head_by items fault) (later f) ≡ item n x
    → (head_by items None ≡ head_by items fault) × ((g : StreamFault) → fault ≡ Some g → items ≡ [] → ⊥)
no_fault_by [] None f n x e = (refl, λ g is none. absurd cc)
no_fault_by [] (Some g) f n x e = absurd cc
no_fault_by (y ∷ ys) fault f n x e = (refl, λ g is none. absurd cc)

after_sound : (h : reader.Peeked) (f : First) (n : ℕ) (x : Item Classes) → with_first h (later f) ≡ item n x → (f ≡ nothing) ⊎ ((k : ℕ) × (z : Item Classes) × (f ≡ item k z))
after_sound h (item k z) n x e = inr (k, z, refl)
after_sound h (broken k g) n x e = absurd (by_head h e)
  where
    by_head : (h : reader.Peeked) → with_first h (broken (suc k) g) ≡ item n x → ⊥
    by_head reader.start l = absurd cc
    by_head (reader.item y) l = absurd cc
    by_head reader.ended l = absurd cc
    by_head (reader.fault f) l = absurd cc
after_sound h nothing n x e = inl refl

heads_same : (runs : List (Run Classes)) → ((first_of (map head_of runs) ≡ nothing) ⊎ ((k : ℕ) × (z : Item Classes) × (first_of (map head_of runs) ≡ item k z)))
    → (map head_of (faultless runs) ≡ map head_of runs) × ((i : ℕ) (g : StreamFault) → (run_at i runs).fault ≡ Some g → (run_at i runs).items ≡ [] → ⊥)
heads_same [] e = (refl, λ i g is none. absurd cc)
heads_same (r ∷ rs) (inl e) =
    let here = ended_by r.items r.fault (first_of (map head_of rs)) e in
    let rest = heads_same rs (inl here.2) in
    (λ i. ap (λ (f : Option StreamFault). head_by r.items f) (sym here.1) i ∷ rest.0 i, at_each here.1 rest.1)
  where
    at_each : r.fault ≡ None → ((i : ℕ) (g : StreamFault) → (run_at i rs).fault ≡ Some g → (run_at i rs).items ≡ [] → ⊥) → (i : ℕ) (g : StreamFault) → (run_at i (r ∷ rs)).fault ≡ Some g → (run_at i (r ∷ rs)).items ≡ [] → ⊥
    at_each here rest zero g is none = absurd (let no = sym here ∙ is in cc)
    at_each here rest (suc k) g is none = rest k g is none
heads_same (r ∷ rs) (inr e) =
    let here = no_fault_by r.items r.fault (first_of (map head_of rs)) e.0 e.1 e.2 in
    let rest = heads_same rs (after_sound (head_of r) (first_of (map head_of rs)) e.0 e.1 e.2) in
    (λ i. here.0 i ∷ rest.0 i, at_each here.1 rest.1)
  where
    at_each : ((g : StreamFault) → r.fault ≡ Some g → r.items ≡ [] → ⊥) → ((i : ℕ) (g : StreamFault) → (run_at i rs).fault ≡ Some g → (run_at i rs).items ≡ [] → ⊥) → (i : ℕ) (g : StreamFault) → (run_at i (r ∷ rs)).fault ≡ Some g → (run_at i (r ∷ rs)).items ≡ [] → ⊥
    at_each here rest zero g is none = here g is none
    at_each here rest (suc k) g is none = rest k g is none

-- the fault that comes first is that of the least stream with a fault and no item
abbrev LeastFault : List (Run Classes) → ℕ → StreamFault → Type 0
LeastFault runs n f = ((run_at n runs).fault ≡ Some f) × ((run_at n runs).items ≡ []) × ((j : ℕ) (g : StreamFault) → j < n → (run_at j runs).fault ≡ Some g → (run_at j runs).items ≡ [] → ⊥)

later_broken : (h : First) (n : ℕ) (f : StreamFault) → later h ≡ broken n f → (m : ℕ) × (n ≡ suc m) × (h ≡ broken m f)
later_broken (item k z) n f e = absurd cc
later_broken (broken k g) n f e = (k, (let number : suc k ≡ n = cc in sym number), ap (λ (q : StreamFault). broken k q) (let same : g ≡ f = cc in same))
later_broken nothing n f e = absurd cc

least_broken : (y : Item Classes) (h : First) (n : ℕ) (f : StreamFault) → least y (later h) ≡ broken n f → later h ≡ broken n f
least_broken y (item k z) n f e = absurd (either (is_before (time_of z) (time_of y)) e)
  where
    either : (b : Bool) → cond b (item (suc k) z) (item 0 y) ≡ broken n f → ⊥
    either true l = absurd cc
    either false l = absurd cc
least_broken y (broken k g) n f e = e
least_broken y nothing n f e = absurd cc

fault_by : (items : List (Item Classes)) (fault : Option StreamFault) (h : First) (n : ℕ) (f : StreamFault) → with_first (head_by items fault) (later h) ≡ broken n f
    → ((n ≡ 0) × (items ≡ []) × (fault ≡ Some f)) ⊎ (((m : ℕ) × (n ≡ suc m) × (h ≡ broken m f)) × ((g : StreamFault) → fault ≡ Some g → items ≡ [] → ⊥))
fault_by [] None h n f e = inr (later_broken h n f e, λ g is none. absurd cc)
fault_by [] (Some k) h n f e = inl ((let number : 0 ≡ n = cc in sym number), refl, ap (λ (q : StreamFault). Some q) (let same : k ≡ f = cc in same))
fault_by (y ∷ ys) fault h n f e = inr (later_broken h n f (least_broken y h n f e), λ g is none. absurd cc)

least_step : (r : Run Classes) (rs : List (Run Classes)) (n : ℕ) (f : StreamFault) → ((m : ℕ) → first_of (map head_of rs) ≡ broken m f → LeastFault rs m f)
    → first_of (map head_of (r ∷ rs)) ≡ broken n f → LeastFault (r ∷ rs) n f
least_step r rs n f others e = by_choice (fault_by r.items r.fault (first_of (map head_of rs)) n f e)
  where
    next : (m : ℕ) → LeastFault rs m f → ((g : StreamFault) → r.fault ≡ Some g → r.items ≡ [] → ⊥) → (j : ℕ) (g : StreamFault) → j < suc m → (run_at j (r ∷ rs)).fault ≡ Some g → (run_at j (r ∷ rs)).items ≡ [] → ⊥
    next m rest here zero g lt is none = here g is none
    next m rest here (suc k) g lt is none = rest.2 k g (omega (arith, lt)) is none

    by_choice : ((n ≡ 0) × (r.items ≡ []) × (r.fault ≡ Some f)) ⊎ (((m : ℕ) × (n ≡ suc m) × (first_of (map head_of rs) ≡ broken m f)) × ((g : StreamFault) → r.fault ≡ Some g → r.items ≡ [] → ⊥)) → LeastFault (r ∷ rs) n f
    by_choice (inl here) = subst (λ (k : ℕ). LeastFault (r ∷ rs) k f) (sym here.0) (here.2, here.1, λ j g lt is none. absurd (omega (arith, lt)))
    by_choice (inr there) =
        let rest = others there.0.0 there.0.2 in
        subst (λ (k : ℕ). LeastFault (r ∷ rs) k f) (sym there.0.1) (rest.0, rest.1, next there.0.0 rest there.1)

least_fault : (runs : List (Run Classes)) (n : ℕ) (f : StreamFault) → first_of (map head_of runs) ≡ broken n f → LeastFault runs n f
least_fault [] n f e = absurd cc
least_fault (r ∷ rs) n f e = least_step r rs n f (λ m h. least_fault rs m f h) e

-- one item more in front of a list up to its cut
abbrev NoFaultFirst : List (Run Classes) → Type 0
NoFaultFirst runs = (i : ℕ) (g : StreamFault) → (run_at i runs).fault ≡ Some g → (run_at i runs).items ≡ [] → ⊥

cut_here : (runs : List (Run Classes)) (n : ℕ) (x : Item Classes) (rest : List Placed) (f : StreamFault) → NoFaultFirst runs → ((i : ℕ) → of_stream i rest ≡ (run_at i (advance n runs)).items)
    → (run_at n (advance n runs)).fault ≡ Some f → (run_at n (advance n runs)).items ≡ []
    → IsCut runs (record { number = n; item = x } ∷ rest) (then (record { number = n; item = x }) (ends (Some (Stream n f))))
cut_here runs n x rest f sound each fault none =
    after [] rest (record { number = n; item = x }) f refl (sym (same_fault runs n n) ∙ fault) (each n ∙ none) others
  where
    others : (j : ℕ) (g : StreamFault) → (run_at j runs).fault ≡ Some g → (j ≡ n) ⊎ (of_stream j rest ≡ [] → ⊥)
    others j g is = by_test (eqb_tells n j)
      where
        by_test : ((eqb n j ≡ true) × (n ≡ j)) ⊎ ((eqb n j ≡ false) × (n ≢ j)) → (j ≡ n) ⊎ (of_stream j rest ≡ [] → ⊥)
        by_test (inl t) = inl (sym t.1)
        by_test (inr t) = inr (λ empty. sound j g is (sym (ap (λ (r : Run Classes). r.items) (at_other runs n j t.1)) ∙ (sym (each j) ∙ empty)))

cut_step : (runs : List (Run Classes)) (n : ℕ) (x : Item Classes) (rest : List Placed) → NoFaultFirst runs → ((i : ℕ) → of_stream i rest ≡ (run_at i (advance n runs)).items)
    → (m : Merged) → IsCut (advance n runs) rest m → IsCut runs (record { number = n; item = x } ∷ rest) (then (record { number = n; item = x }) m)
cut_step runs n x rest sound each m (whole h) = whole (λ i. sym (same_fault runs n i) ∙ h i)
cut_step runs n x rest sound each m (at_once i f fault none less) = by_test (eqb_tells n i)
  where
    by_test : ((eqb n i ≡ true) × (n ≡ i)) ⊎ ((eqb n i ≡ false) × (n ≢ i)) → IsCut runs (record { number = n; item = x } ∷ rest) (then (record { number = n; item = x }) (ends (Some (Stream i f))))
    by_test (inl t) =
        subst (λ (k : ℕ). IsCut runs (record { number = n; item = x } ∷ rest) (then (record { number = n; item = x }) (ends (Some (Stream k f))))) t.1
        (cut_here runs n x rest f sound each
        (subst (λ (k : ℕ). (run_at k (advance n runs)).fault ≡ Some f) (sym t.1) fault)
        (subst (λ (k : ℕ). (run_at k (advance n runs)).items ≡ []) (sym t.1) none))
    by_test (inr t) = absurd (sound i f (sym (same_fault runs n i) ∙ fault) (sym (ap (λ (r : Run Classes). r.items) (at_other runs n i t.1)) ∙ none))
cut_step runs n x rest sound each m (after first others last f is fault none each_other) =
    after (record { number = n; item = x } ∷ first) others last f (ap (λ (l : List Placed). record { number = n; item = x } ∷ l) is) (sym (same_fault runs n last.number) ∙ fault) none
    (λ j g h. each_other j g (same_fault runs n j ∙ h))

abbrev all_of : List (Run Classes) → List Placed
all_of runs = (merged (faultless runs)).items

cut_by_first : (runs : List (Run Classes)) → ((n : ℕ) (x : Item Classes) → first_of (map head_of runs) ≡ item n x → IsCut (advance n runs) (all_of (advance n runs)) (merged (advance n runs)))
    → IsCut runs (all_of runs) (merged runs)
cut_by_first runs others = by_first (first_of (map head_of runs)) refl
  where
    by_first : (f : First) → first_of (map head_of runs) ≡ f → IsCut runs (all_of runs) (merged runs)
    by_first (item n x) e =
        let heads = heads_same runs (inr (n, x, e)) in
        let all_is : all_of runs ≡ record { number = n; item = x } ∷ all_of (advance n runs) =
        ap (λ (m : Merged). m.items) (merged-item (faultless runs) n x (ap first_of heads.0 ∙ e)) ∙ ap (λ (rs : List (Run Classes)). record { number = n; item = x } ∷ (merged rs).items) (faultless_advance runs n) in
        let each : (i : ℕ) → of_stream i (all_of (advance n runs)) ≡ (run_at i (advance n runs)).items =
        λ i. each_item (faultless (advance n runs)) (faultless_all (advance n runs)) i ∙ same_items (advance n runs) i in
        let step = cut_step runs n x (all_of (advance n runs)) heads.1 each (merged (advance n runs)) (others n x e) in
        subst (λ (m : Merged). IsCut runs (all_of runs) m) (sym (merged-item runs n x e))
        (subst (λ (l : List Placed). IsCut runs l (then (record { number = n; item = x }) (merged (advance n runs)))) (sym all_is) step)
    by_first (broken n f) e =
        let least = least_fault runs n f e in
        subst (λ (m : Merged). IsCut runs (all_of runs) m) (sym (merged-broken runs n f e)) (at_once n f least.0 least.1 least.2)
    by_first nothing e =
        let none : all_of runs ≡ [] = ap (λ (m : Merged). m.items) (merged-nothing (faultless runs) (ap first_of (heads_same runs (inl e)).0 ∙ e)) in
        let cut : IsCut runs (all_of runs) (record { items = all_of runs; fault = None }) = whole (λ i. (all_ended runs i e).1) in
        subst (λ (m : Merged). IsCut runs (all_of runs) m) (ap (λ (l : List Placed). record { items = l; fault = None }) none ∙ sym (merged-nothing runs e)) cut

cut_by : (fuel : ℕ) (runs : List (Run Classes)) → count runs ≡ fuel → IsCut runs (all_of runs) (merged runs)
cut_by zero runs is = cut_by_first runs (λ n x e. absurd (let more = item-count runs n x e in omega (arith, is, more)))
cut_by (suc fuel) runs is = cut_by_first runs (λ n x e. cut_by fuel (advance n runs) (let more = item-count runs n x e in omega (arith, is, more)))

-- ---- the order

rises_none : (low : Option ℤ) (items : List (Item Classes)) → Rises low items → Rises None items
rises_none low [] rises = tt
rises_none low (x ∷ xs) rises = (not_before_none (time_of x), rises.1)
  where
    not_before_none : (t : Option ℤ) → is_before t None ≡ false
    not_before_none None = refl
    not_before_none (Some t) = refl

abbrev EachRising : List (Run Classes) → Type 0
EachRising runs = AllByRecursion (λ r. Rises None r.items) runs

each_rising : (low : Option ℤ) (runs : List (Run Classes)) → AllByRecursion (λ r. Rises low r.items) runs → EachRising (faultless runs)
each_rising low [] each = tt
each_rising low (r ∷ rs) each = (rises_none low r.items each.0, each_rising low rs each.1)

after_rising : (items : List (Item Classes)) → Rises None items → Rises None (after_first items)
after_rising [] rises = tt
after_rising (x ∷ xs) rises = rises_none (time_of x) xs rises.1

advance_rising : (runs : List (Run Classes)) (n : ℕ) → EachRising runs → EachRising (advance n runs)
advance_rising [] n each = tt
advance_rising (r ∷ rs) zero each = (after_rising r.items each.0, each.1)
advance_rising (r ∷ rs) (suc m) each = (each.0, advance_rising rs m each.1)

low_first : (from k : ℕ) (hs : List reader.Peeked) (t : Turn) (n : ℕ) (x : Item Classes) → k ≡ from + n → first_of hs ≡ item n x → IsLow t (turns_from from hs) → is_lt (turn_cmp (turn_of k x) t) ≡ false
low_first from k [] t n x is e low = absurd cc
low_first from k (h ∷ hs) t zero x is e low =
    let here = subst (λ (g : reader.Peeked). IsLow t (turns_from from (g ∷ hs))) (front_by h (first_of hs) x e) low in
    subst (λ (j : ℕ). is_lt (turn_cmp (turn_of j x) t) ≡ false) (let same : from ≡ k = omega (arith, is) in same) here.0
low_first from k (h ∷ hs) t (suc m) x is e low =
    low_first (suc from) k hs t m x (omega (arith, is)) (next_by h (first_of hs) m x e) (low_heads from h hs t low).1

low_more : (from : ℕ) (h : reader.Peeked) (hs gs : List reader.Peeked) (t : Turn) → IsLow t (turns_from from (h ∷ hs)) → IsLow t (turns_from (suc from) gs) → IsLow t (turns_from from (h ∷ gs))
low_more from reader.start hs gs t low rest = (tt, rest)
low_more from (reader.item x) hs gs t low rest = (low.0, rest)
low_more from reader.ended hs gs t low rest = (tt, rest)
low_more from (reader.fault f) hs gs t low rest = (tt, rest)

low_after : (from : ℕ) (items : List (Item Classes)) (fault : Option StreamFault) (hs : List reader.Peeked) (t : Turn) (x : Item Classes) → head_by items fault ≡ reader.item x → Rises None items
    → IsLow t (turns_from from (head_by items fault ∷ hs)) → IsLow t (turns_from from (head_by (after_first items) fault ∷ hs))
low_after from [] None hs t x e rises low = absurd cc
low_after from [] (Some f) hs t x e rises low = absurd cc
low_after from (y ∷ []) None hs t x e rises low = (tt, low.1)
low_after from (y ∷ []) (Some f) hs t x e rises low = (tt, low.1)
low_after from (y ∷ (z ∷ zs)) fault hs t x e rises low =
    (not_less_along (turn_of from z) (turn_of from y) t (later_number (time_of y) (time_of z) from from rises.1.0 (omega arith)) low.0, low.1)

low_on : (from : ℕ) (runs : List (Run Classes)) (t : Turn) (n : ℕ) (x : Item Classes) → first_of (map head_of runs) ≡ item n x → EachRising runs → IsLow t (turns_from from (map head_of runs))
    → IsLow t (turns_from from (map head_of (advance n runs)))
low_on from [] t n x e each low = absurd cc
low_on from (r ∷ rs) t zero x e each low = low_after from r.items r.fault (map head_of rs) t x (front_by (head_of r) (first_of (map head_of rs)) x e) each.0 low
low_on from (r ∷ rs) t (suc m) x e each low =
    low_more from (head_of r) (map head_of rs) (map head_of (advance m rs)) t low
    (low_on (suc from) rs t m x (next_by (head_of r) (first_of (map head_of rs)) m x e) each.1 (low_heads from (head_of r) (map head_of rs) t low).1)

abbrev IsPlacedLow : Turn → List Placed → Type 0
IsPlacedLow t placed = AllByRecursion (λ y. is_lt (turn_cmp (turn_of y.number y.item) t) ≡ false) placed

low_by_first : (runs : List (Run Classes)) (t : Turn) → ((n : ℕ) (x : Item Classes) → first_of (map head_of runs) ≡ item n x → IsPlacedLow t (merged (advance n runs)).items)
    → IsLow t (turns_from 0 (map head_of runs)) → IsPlacedLow t (merged runs).items
low_by_first runs t others low = by_first (first_of (map head_of runs)) refl
  where
    by_first : (f : First) → first_of (map head_of runs) ≡ f → IsPlacedLow t (merged runs).items
    by_first (item n x) e = subst (λ (m : Merged). IsPlacedLow t m.items) (sym (merged-item runs n x e)) (low_first 0 n (map head_of runs) t n x (omega arith) e low, others n x e)
    by_first (broken n f) e = subst (λ (m : Merged). IsPlacedLow t m.items) (sym (merged-broken runs n f e)) tt
    by_first nothing e = subst (λ (m : Merged). IsPlacedLow t m.items) (sym (merged-nothing runs e)) tt

low_by : (fuel : ℕ) (runs : List (Run Classes)) (t : Turn) → count runs ≡ fuel → EachRising runs → IsLow t (turns_from 0 (map head_of runs)) → IsPlacedLow t (merged runs).items
low_by zero runs t is each low = low_by_first runs t (λ n x e. absurd (let more = item-count runs n x e in omega (arith, is, more))) low
low_by (suc fuel) runs t is each low =
    low_by_first runs t (λ n x e. low_by fuel (advance n runs) t (let more = item-count runs n x e in omega (arith, is, more)) (advance_rising runs n each) (low_on 0 runs t n x e each low)) low

placed_before : (x y : Placed) → is_lt (turn_cmp (turn_of y.number y.item) (turn_of x.number x.item)) ≡ false → IsPlacedBefore x y
placed_before x y low = (not_before (turn_of y.number y.item) (turn_of x.number x.item) low, λ other. tied (time_of x.item) (time_of y.item) x.number y.number low (not_before (turn_of y.number y.item) (turn_of x.number x.item) low) other)

all_placed : (x : Placed) (ys : List Placed) → IsPlacedLow (turn_of x.number x.item) ys → AllByRecursion (IsPlacedBefore x) ys
all_placed x [] low = tt
all_placed x (y ∷ ys) low = (placed_before x y low.0, all_placed x ys low.1)

order_by_first : (runs : List (Run Classes)) → ((n : ℕ) (x : Item Classes) → first_of (map head_of runs) ≡ item n x → InOrder (merged (advance n runs)).items) → EachRising runs → InOrder (merged runs).items
order_by_first runs others each = by_first (first_of (map head_of runs)) refl
  where
    by_first : (f : First) → first_of (map head_of runs) ≡ f → InOrder (merged runs).items
    by_first (item n x) e =
        let low = low_on 0 runs (turn_of n x) n x e each (lows 0 n (map head_of runs) n x (omega arith) e) in
        let after = low_by (count (advance n runs)) (advance n runs) (turn_of n x) refl (advance_rising runs n each) low in
        subst (λ (m : Merged). InOrder m.items) (sym (merged-item runs n x e)) (all_placed (record { number = n; item = x }) (merged (advance n runs)).items after, others n x e)
    by_first (broken n f) e = subst (λ (m : Merged). InOrder m.items) (sym (merged-broken runs n f e)) tt
    by_first nothing e = subst (λ (m : Merged). InOrder m.items) (sym (merged-nothing runs e)) tt

order_by : (fuel : ℕ) (runs : List (Run Classes)) → count runs ≡ fuel → EachRising runs → InOrder (merged runs).items
order_by zero runs is each = order_by_first runs (λ n x e. absurd (let more = item-count runs n x e in omega (arith, is, more))) each
order_by (suc fuel) runs is each = order_by_first runs (λ n x e. order_by fuel (advance n runs) (let more = item-count runs n x e in omega (arith, is, more)) (advance_rising runs n each)) each

pub merged_is_cut : (low : Option ℤ) (runs : List (Run Classes)) → AllByRecursion (λ r. Rises low r.items) runs → (all : List Placed) × IsMerged runs all × IsCut runs all (merged runs)
merged_is_cut low runs each = (
  all_of runs,
  record {
    each = λ i. each_item (faultless runs) (faultless_all runs) i ∙ same_items runs i;
    in_order = order_by (count (faultless runs)) (faultless runs) refl (each_rising low runs each);
  },
  cut_by (count runs) runs refl,
)
