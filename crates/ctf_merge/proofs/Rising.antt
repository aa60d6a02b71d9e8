-- The times of a merged list.
use Rattle.std.proofs.Common.{◌≡◌, ℤ, ℕ, zero, suc, inl, inr, List, [], ◌∷◌, map, Option, Some, None, refl, sym, subst, arith}
use Rattle.std.specs.List.{AllByRecursion}
use Rattle.ctf_packet.specs.Classes.{Classes}
use Rattle.ctf_packet.specs.Items.{Run, Item}
use Rattle.ctf_packet.specs.declared.fault.StreamFault.{StreamFault}
use Rattle.ctf_packet.specs.ItemTimes.{time_of}
use Rattle.ctf_stream.specs.Reader as reader
use Rattle.ctf_stream.specs.Reader.{Reader, coming}
use Rattle.stream_laws.specs.Times.{NotBefore, Rises}
use Rattle.stream_laws.proofs.Later.{not_before_none, not_before_through}
use Rattle.ctf_merge.specs.Merged.{Merged, Placed, First, item, broken, nothing, first_of, head_of, head_by, advance, without_first, count, merged, PlacedRise}
use Rattle.ctf_merge.specs.Merges.{AheadNotBefore, EachRises, GoesOn, MergedOrRefused}
use Rattle.ctf_merge.specs.Turns.{Turn, turns_from}
use Rattle.ctf_merge.proofs.Merging.{item-count, merged-item, merged-broken, merged-nothing}
use Rattle.ctf_merge.proofs.Going.{front_by, next_by}
use Rattle.ctf_merge.proofs.Turning.{not_before, lows, turn_of}
use Rattle.ctf_merge.specs.Trees.{IsLow}

abbrev RunsRise : Option ℤ → List (Run Classes) → Type 0
RunsRise low runs = AllByRecursion (λ r. Rises low r.items) runs

-- a run whose first item is not before a time
run_from : (low time : Option ℤ) (items : List (Item Classes)) (fault : Option StreamFault) → AheadNotBefore time (head_by items fault) → Rises low items → Rises time items
run_from low time [] fault ahead rises = tt
run_from low time (x ∷ xs) fault ahead rises = (ahead, rises.1)

pub low_heads : (from : ℕ) (h : reader.Peeked) (hs : List reader.Peeked) (t : Turn) → IsLow t (turns_from from (h ∷ hs)) → AheadNotBefore t.time h × IsLow t (turns_from (suc from) hs)
low_heads from reader.start hs t low = (tt, low.1)
low_heads from (reader.item x) hs t low = (not_before (turn_of from x) t low.0, low.1)
low_heads from reader.ended hs t low = (tt, low.1)
low_heads from (reader.fault f) hs t low = (tt, low.1)

-- every run goes on from the time of a turn that is not above their first items
rises_from : (low : Option ℤ) (from : ℕ) (t : Turn) (runs : List (Run Classes)) → IsLow t (turns_from from (map head_of runs)) → RunsRise low runs → RunsRise t.time runs
rises_from low from t [] is_low each = tt
rises_from low from t (r ∷ rs) is_low each =
    let here = low_heads from (head_of r) (map head_of rs) t is_low in
    (run_from low t.time r.items r.fault here.0 each.0, rises_from low (suc from) t rs here.1 each.1)

after_rises : (low : Option ℤ) (items : List (Item Classes)) (fault : Option StreamFault) (at : ℕ) (x : Item Classes) → head_by items fault ≡ reader.item x → Rises low items
    → NotBefore low (time_of x) × Rises (time_of x) (without_first (record { items = items; fault = fault; at = at })).items
after_rises low [] None at x e rises = absurd cc
after_rises low [] (Some f) at x e rises = absurd cc
after_rises low (y ∷ ys) fault at x e rises =
    let same : y ≡ x = cc in
    (subst (λ (z : Item Classes). NotBefore low (time_of z)) same rises.0, subst (λ (z : Item Classes). Rises (time_of z) ys) same rises.1)

-- the runs without the first item of all
advance_rises : (low time : Option ℤ) (runs : List (Run Classes)) (n : ℕ) (x : Item Classes) → first_of (map head_of runs) ≡ item n x → time ≡ time_of x → RunsRise low runs → RunsRise time runs
    → NotBefore low (time_of x) × RunsRise time (advance n runs)
advance_rises low time [] n x e is each from = absurd cc
advance_rises low time (r ∷ rs) zero x e is each from =
    let here = after_rises low r.items r.fault r.at x (front_by (head_of r) (first_of (map head_of rs)) x e) each.0 in
    (here.0, (subst (λ (t : Option ℤ). Rises t (without_first r).items) (sym is) here.1, from.1))
advance_rises low time (r ∷ rs) (suc m) x e is each from =
    let there = advance_rises low time rs m x (next_by (head_of r) (first_of (map head_of rs)) m x e) is each.1 from.1 in
    (there.0, (from.0, there.1))

rises_step : (low : Option ℤ) (runs : List (Run Classes)) → ((time : Option ℤ) (n : ℕ) (x : Item Classes) → first_of (map head_of runs) ≡ item n x → RunsRise time (advance n runs) → PlacedRise time (merged (advance n runs)).items)
    → RunsRise low runs → PlacedRise low (merged runs).items
rises_step low runs others each = by_first (first_of (map head_of runs)) refl
  where
    by_first : (f : First) → first_of (map head_of runs) ≡ f → PlacedRise low (merged runs).items
    by_first (item n x) e =
        let from = rises_from low 0 (turn_of n x) runs (lows 0 n (map head_of runs) n x (omega arith) e) each in
        let on = advance_rises low (time_of x) runs n x e refl each from in
        subst (λ (m : Merged). PlacedRise low m.items) (sym (merged-item runs n x e)) (on.0, others (time_of x) n x e on.1)
    by_first (broken n f) e = subst (λ (m : Merged). PlacedRise low m.items) (sym (merged-broken runs n f e)) tt
    by_first nothing e = subst (λ (m : Merged). PlacedRise low m.items) (sym (merged-nothing runs e)) tt

rises_by : (fuel : ℕ) (low : Option ℤ) (runs : List (Run Classes)) → count runs ≡ fuel → RunsRise low runs → PlacedRise low (merged runs).items
rises_by zero low runs is each = rises_step low runs (λ time n x e rises. absurd (let more = item-count runs n x e in omega (arith, is, more))) each
rises_by (suc fuel) low runs is each = rises_step low runs (λ time n x e rises. rises_by fuel time (advance n runs) (let more = item-count runs n x e in omega (arith, is, more)) rises) each

pub merged_rises : (low : Option ℤ) (runs : List (Run Classes)) → RunsRise low runs → PlacedRise low (merged runs).items
merged_rises low runs each = rises_by (count runs) low runs refl each

-- ---- what is to come of readers

each_coming : (readers : List Reader) → EachRises readers → RunsRise None (map coming readers)
each_coming [] each = tt
each_coming (r ∷ rs) each = (each.0, each_coming rs each.1)

pub refused_rises : (m actual : Merged) → MergedOrRefused m actual → PlacedRise None m.items → PlacedRise None actual.items
refused_rises m actual (inl same) rises = subst (λ (t : Merged). PlacedRise None t.items) (sym same) rises
refused_rises m actual (inr none) rises = subst (λ (l : List Placed). PlacedRise None l) (sym none.0) tt

-- what was merged of them
pub rises_at_first : (readers : List Reader) (actual : Merged) → MergedOrRefused (merged (map coming readers)) actual → EachRises readers → PlacedRise None actual.items
rises_at_first readers actual told each = refused_rises (merged (map coming readers)) actual told (merged_rises None (map coming readers) (each_coming readers each))

pub rest_rises : (low : Option ℤ) (items : List Placed) → PlacedRise low items → PlacedRise None items
rest_rises low [] rises = tt
rest_rises low (x ∷ xs) rises = (not_before_none (time_of x.item), rises.1)

-- what is left of it
pub rises_on : (old new : Merged) → GoesOn old new → PlacedRise None old.items → PlacedRise None new.items
rises_on old new goes rises = by_items old.items refl
  where
    by_items : (items : List Placed) → old.items ≡ items → PlacedRise None new.items
    by_items [] e = subst (λ (t : Merged). PlacedRise None t.items) (sym (goes.after_fault e)) tt
    by_items (x ∷ xs) e =
        let rest : Merged = record { items = xs; fault = old.fault } in
        let all : PlacedRise None (x ∷ xs) = subst (λ (l : List Placed). PlacedRise None l) e rises in
        refused_rises rest new (goes.after_item x rest (λ i. record { items = e i; fault = old.fault })) (rest_rises (time_of x.item) xs all.1)

pub none_before : (low : Option ℤ) (items : List Placed) → PlacedRise low items → AllByRecursion (λ x. NotBefore low (time_of x.item)) items
none_before low [] rises = tt
none_before low (x ∷ xs) rises = (rises.0, none_before low xs (later_rise xs rises.1))
  where
    later_rise : (items : List Placed) → PlacedRise (time_of x.item) items → PlacedRise low items
    later_rise [] r = tt
    later_rise (y ∷ ys) r = (not_before_through low (time_of x.item) (time_of y.item) rises.0 r.0, r.1)
