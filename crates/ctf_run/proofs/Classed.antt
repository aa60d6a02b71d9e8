-- Traces whose metadata have classes, one more.
use Rattle.std.proofs.Common.{◌≡◌, Bool, true, false, cond, ℕ, zero, suc, List, [], ◌∷◌, ◌++◌, take, length, slice_get, Some, refl, sym, ap, subst, ◌≤◌, arith}
use Rattle.std.specs.Prelude.{unwrap_or}
use Rattle.ctf_class.specs.declared.trace.TraceClass.{TraceClass}
use Rattle.ctf_load.specs.Loading.{Describes}
use Rattle.ctf_faults.specs.declared.load.LoadFault.{LoadFault}
use Rattle.ctf_run.specs.Loaded.{HaveClasses, IsFirstFault, IsUnloaded}
use Rattle.ctf_run.specs.declared.loading.Unloaded.TheVariants as unloaded
use Rattle.ctf_run.specs.declared.trace.Trace.{Trace}

module _ {S : Type 0} where
  some_is : (t u : Trace S) → Some t ≡ Some u → t ≡ u
  some_is t u h = ap (λ o. unwrap_or o t) h

  pub have_more : (n : ℕ) (traces : List (Trace S)) (t : Trace S) (classes : List TraceClass) (class : TraceClass) → slice_get traces n ≡ Some t → HaveClasses (take n traces) classes
      → Describes t.metadata.items class → HaveClasses (take (suc n) traces) (classes ++ class ∷ [])
  have_more n [] t classes class at have told = absurd (grind (arith, at))
  have_more zero (u ∷ us) t [] class at have told = (subst (λ (v : Trace S). Describes v.metadata.items class) (sym (some_is u t at)) told, tt)
  have_more zero (u ∷ us) t (c ∷ cs) class at have told = absurd have
  have_more (suc n) (u ∷ us) t [] class at have told = absurd have
  have_more (suc n) (u ∷ us) t (c ∷ cs) class at have told = (have.0, have_more n us t cs class at have.1 told)

  pub have_all : (n : ℕ) (traces : List (Trace S)) (classes : List TraceClass) → length traces ≤ n → HaveClasses (take n traces) classes → HaveClasses traces classes
  have_all n [] [] long have = tt
  have_all n [] (c ∷ cs) long have = have_nothing n have
    where
      have_nothing : (k : ℕ) → HaveClasses {S = S} (take k []) (c ∷ cs) → ⊥
      have_nothing zero h = h
      have_nothing (suc k) h = h
  have_all zero (u ∷ us) classes long have = absurd (omega arith)
  have_all (suc n) (u ∷ us) [] long have = absurd have
  have_all (suc n) (u ∷ us) (c ∷ cs) long have = (have.0, have_all n us cs (omega arith) have.1)

  -- why the trace of a number is not loaded
  pub told_so : (refusal : Bool) (traces : List (Trace S)) (number : ℕ) (fault : LoadFault) → (refusal ≡ false → IsFirstFault traces number fault)
      → IsUnloaded traces (cond refusal unloaded.NoMemory (unloaded.Broken number fault))
  told_so true traces number fault first = tt
  told_so false traces number fault first = first refl

  pub have_length : (traces : List (Trace S)) (classes : List TraceClass) → HaveClasses traces classes → length traces ≡ length classes
  have_length [] [] have = refl
  have_length [] (c ∷ cs) have = absurd have
  have_length (u ∷ us) [] have = absurd have
  have_length (u ∷ us) (c ∷ cs) have = ap suc (have_length us cs have.1)
