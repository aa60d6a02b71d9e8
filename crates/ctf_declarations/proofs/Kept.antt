-- What a map has, whose keys are read as lists of numbers, after a key more.
use Rattle.std.proofs.Common.{◌≡◌, ℕ, List, sym, ◌∙◌, subst}
use Rattle.std.specs.Prelude.{Bool, true, false, cond, Option, nat_eq}
use Rattle.std.specs.List.{list_any}
use Rattle.std.specs.Map.{lookup, KeepsOthers, IsKeyTest, AreApart}
use Rattle.std.specs.Set.{KeepsOthers as KeepsOtherKeys}
use Rattle.std.specs.BTreeMap.{BTreeMap}
use Rattle.std.specs.BTreeMap as tree
use Rattle.std.specs.BTreeSet.{BTreeSet}
use Rattle.std.specs.BTreeSet as sorted
use Rattle.std.specs.Cmp.{eq_by_cmp_equiv}
use Rattle.std.specs.Cmp.Lexicographic.{slice_cmp, pointwise, bytes_decides, nat_list_cmp_total, nat_list_eq_equiv}
use Rattle.std.specs.Ordering.{nat_cmp, is_eq}
use Rattle.std.specs.declared.cmp.Ordering.{Ordering}
use Rattle.std.proofs.Common.{⊎_elim}
use Rattle.std.proofs.lemmas.Bool.{cases_Bool, cond-true, cond-false}
use Rattle.std.proofs.lemmas.Map.Text.{is_eq-slice_cmp}

apart_in_order : (bs cs ks : List ℕ) → pointwise nat_eq bs cs ≡ false → is_eq (slice_cmp nat_cmp bs ks) ≡ true → is_eq (slice_cmp nat_cmp cs ks) ≡ false
apart_in_order bs cs ks n y =
    is_eq-slice_cmp cs ks
    ∙ nat_list_eq_equiv.symm cs ks ∙ sym (nat_list_eq_equiv.congr bs ks cs (sym (is_eq-slice_cmp bs ks) ∙ y)) ∙ n

module _ {K : Type 0} (eq : K → K → Bool) (test : K → Bool) where
  other_entries : {X : Type 0} (old new : List (K × X)) → KeepsOthers eq test old new → (other : K → Bool) → IsKeyTest eq other → AreApart test other → lookup other new ≡ lookup other old
  unfolding KeepsOthers
  other_entries old new h = h

  other_keys : (old new : List K) → KeepsOtherKeys eq test old new → (other : K → Bool) → IsKeyTest eq other → AreApart test other → list_any other new ≡ list_any other old
  unfolding KeepsOtherKeys
  other_keys old new h = h

by_bytes : {W : Type 0} (f g : List ℕ → W) (bs : List ℕ) (w : W) → g bs ≡ w → ((cs : List ℕ) → pointwise nat_eq bs cs ≡ false → g cs ≡ f cs) → (cs : List ℕ) → g cs ≡ cond (pointwise nat_eq bs cs) w (f cs)
by_bytes f g bs w here other cs =
    ⊎_elim
    (λ y. subst (λ l. g l ≡ w) ((bytes_decides bs cs).0 y) here ∙ sym (cond-true (pointwise nat_eq bs cs) w (f cs) y))
    (λ n. other cs n ∙ sym (cond-false (pointwise nat_eq bs cs) w (f cs) n))
    (cases_Bool (pointwise nat_eq bs cs))

module _ {K : Type 0} (read : K → List ℕ) (bs : List ℕ) where
  abbrev pub order : K → K → Ordering
  order x y = slice_cmp nat_cmp (read x) (read y)

  pub map_updates : {X : Type 0} (m n : BTreeMap K X) (w : Option X) → tree.UpdatesBy order (λ k. slice_cmp nat_cmp bs (read k)) m n w
      → (cs : List ℕ) → tree.get_by (λ k. slice_cmp nat_cmp cs (read k)) n ≡ cond (pointwise nat_eq bs cs) w (tree.get_by (λ k. slice_cmp nat_cmp cs (read k)) m)
  map_updates m n w h = by_bytes (λ ds. tree.get_by (λ k. slice_cmp nat_cmp ds (read k)) m) (λ ds. tree.get_by (λ k. slice_cmp nat_cmp ds (read k)) n) bs w h.1
      (λ cs e. other_entries _ _ _ _ h.3 _ (λ x y. (eq_by_cmp_equiv nat_list_cmp_total).congr cs (read x) (read y)) (λ k. apart_in_order bs cs (read k) e))

  pub set_updates : (s n : BTreeSet K) (b : Bool) → sorted.UpdatesBy order (λ k. slice_cmp nat_cmp bs (read k)) s n b
      → (cs : List ℕ) → sorted.contains_by (λ k. slice_cmp nat_cmp cs (read k)) n ≡ cond (pointwise nat_eq bs cs) b (sorted.contains_by (λ k. slice_cmp nat_cmp cs (read k)) s)
  set_updates s n b h = by_bytes (λ ds. sorted.contains_by (λ k. slice_cmp nat_cmp ds (read k)) s) (λ ds. sorted.contains_by (λ k. slice_cmp nat_cmp ds (read k)) n) bs b h.1
      (λ cs e. other_keys _ _ _ _ h.3 _ (λ x y. (eq_by_cmp_equiv nat_list_cmp_total).congr cs (read x) (read y)) (λ k. apart_in_order bs cs (read k) e))
