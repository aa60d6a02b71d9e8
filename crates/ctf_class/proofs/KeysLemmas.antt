-- Maps whose keys are told apart by their bytes.
use Rattle.std.proofs.Common.{◌≡◌, true, false, cond, nat_cmp, ℕ, List, Option, sym, subst, ◌∙◌, ⊎_elim}
use Rattle.std.specs.Str.{bytes_eq}
use Rattle.std.specs.Ordering.{is_eq, eq_by_cmp}
use Rattle.std.specs.Cmp.{eq_by_cmp_equiv}
use Rattle.std.specs.Cmp.Lexicographic.{slice_cmp, nat_list_eq_equiv}
use Rattle.std.specs.Map.{lookup, KeepsOthers}
use Rattle.std.specs.BTreeMap.{BTreeMap, UpdatesBy, get_by, is_at}
use Rattle.std.proofs.lemmas.Bool.{cases_Bool, cond-true, cond-false}
use Rattle.std.proofs.lemmas.Cmp.{nat_list_cmp_total}
use Rattle.std.proofs.lemmas.Map.Text.{is_eq-slice_cmp}
use Rattle.std.proofs.lemmas.Slice.Eq.{bytes_eq-Decides}

-- a key of other bytes is no key of these
apart : (bs cs ks : List ℕ) → bytes_eq bs cs ≡ false → is_eq (slice_cmp nat_cmp bs ks) ≡ true → is_eq (slice_cmp nat_cmp cs ks) ≡ false
apart bs cs ks other same =
    is_eq-slice_cmp cs ks
    ∙ (nat_list_eq_equiv.symm cs ks ∙ (sym (nat_list_eq_equiv.congr bs ks cs (sym (is_eq-slice_cmp bs ks) ∙ same)) ∙ other))

-- a map by the bytes of its keys, after one key is set
module _ {K X : Type 0} (read : K → List ℕ) where
  others : (bs : List ℕ) (old new : List (K × X)) → KeepsOthers (eq_by_cmp (λ x y. slice_cmp nat_cmp (read x) (read y))) (is_at (λ k. slice_cmp nat_cmp bs (read k))) old new → (cs : List ℕ) → bytes_eq bs cs ≡ false → lookup (is_at (λ k. slice_cmp nat_cmp cs (read k))) new ≡ lookup (is_at (λ k. slice_cmp nat_cmp cs (read k))) old
  unfolding KeepsOthers
  others bs old new keeps cs other =
      keeps (is_at (λ k. slice_cmp nat_cmp cs (read k))) (λ x y. (eq_by_cmp_equiv nat_list_cmp_total).congr cs (read x) (read y)) (λ k. apart bs cs (read k) other)

  pub updates_bytes : (bs : List ℕ) (m n : BTreeMap K X) (w : Option X) → UpdatesBy (λ x y. slice_cmp nat_cmp (read x) (read y)) (λ k. slice_cmp nat_cmp bs (read k)) m n w → (cs : List ℕ) → get_by (λ k. slice_cmp nat_cmp cs (read k)) n ≡ cond (bytes_eq bs cs) w (get_by (λ k. slice_cmp nat_cmp cs (read k)) m)
  updates_bytes bs m n w h cs =
      ⊎_elim
      (λ same. subst (λ l. get_by (λ k. slice_cmp nat_cmp l (read k)) n ≡ w) ((bytes_eq-Decides bs cs).0 same) h.1 ∙ sym (cond-true (bytes_eq bs cs) w _ same))
      (λ other. others bs m.entries n.entries h.3 cs other ∙ sym (cond-false (bytes_eq bs cs) w _ other))
      (cases_Bool (bytes_eq bs cs))
