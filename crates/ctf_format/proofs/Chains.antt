-- Texts written one after the other.
use Rattle.std.proofs.Common.{◌≡◌, ℕ, List, ◌++◌, take, sym, ap, subst, ◌∙◌, append_assoc, Vec, Option, IfSome, Result, Ok, Err, IfOk}
use Rattle.std.specs.Result.{result_ok}
use Rattle.std.specs.declared.alloc.Global.{Global}
use Rattle.std.proofs.lemmas.Result.{IfOk-weaker}
use Rattle.ctf_format.specs.Put.{IsPut}

pub two : (old a b first second : List ℕ) → first ≡ old ++ a → second ≡ first ++ b → second ≡ old ++ (a ++ b)
two old a b first second wrote more = more ∙ ap (λ xs. xs ++ b) wrote ∙ append_assoc old a b

pub three : (old a b c first second third : List ℕ) → first ≡ old ++ a → second ≡ first ++ b → third ≡ second ++ c → third ≡ old ++ (a ++ (b ++ c))
three old a b c first second third wrote more last =
    two old a (b ++ c) first third wrote (two first b c second third more last)

-- what is put after a text is put after what this follows, together with it
pub put_after : {E : Type 0} (before mid after : Vec ℕ Global) (at then : ℕ) (piece all : List ℕ) (result : Result ℕ E) → take then mid.items ++ piece ≡ take at before.items ++ all → IfOk result (IsPut mid then piece after) → IfOk result (IsPut before at all after)
put_after before mid after at then piece all result joined =
    IfOk-weaker result (IsPut mid then piece after) (IsPut before at all after) (λ end put. record {
      text = put.text ∙ joined;
      held = put.held;
    })

-- what holds of a value holds of it as `ok` gives it
pub of_ok : {T E : Type 0} (P : T → Type 0) (r : Result T E) {o : Option T} → o ≡ result_ok r → IfOk r P → IfSome o P
of_ok {T = T} {E = E} P r same is = subst (λ o. IfSome o P) (sym same) (by_case r is)
  where
    by_case : (r : Result T E) → IfOk r P → IfSome (result_ok r) P
    by_case (Ok x) holds = holds
    by_case (Err e) holds = holds
