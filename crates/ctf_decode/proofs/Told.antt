-- The value that a call gives is there, or there is the fault that it gives.
use Rattle.std.proofs.Common.{◌≡◌, ℕ, ◌+◌, Ok, subst}
use Rattle.ctf_decode.specs.Values.{Val, count}
use Rattle.ctf_decode.specs.Input.{Input}
use Rattle.ctf_decode.specs.Breaks.{Fault}
use Rattle.ctf_decode.specs.Walk.{Step}
use Rattle.ctf_decode.specs.Gives.{Fails, Told}
use Rattle.ctf_decode.specs.declared.fault.DecodeFault.{DecodeFault}
use Rattle.ctf_decode.specs.declared.fault.DecodeFault.TheVariants.{ContentEnds, NoOption, TooManyValues, NoMemory}
use Rattle.ctf_decode.proofs.Sound.{Holds}

module _ (c : Input) (R : Val → ℕ → Type 0) (B : Fault → Type 0) (s : ℕ) (w : Step Val) (h : Holds c R B s w) where
  pub told_value : (v : Val) (q t : ℕ) → w ≡ Ok (v, q, t) → R v q
  told_value v q t e = (subst (Holds c R B s) e h).0

  pub told_count : (v : Val) (q t : ℕ) → w ≡ Ok (v, q, t) → t ≡ s + count v
  told_count v q t e = (subst (Holds c R B s) e h).1

  pub told_fault : (d : DecodeFault) → Fails d w → Told B d
  told_fault (ContentEnds n) e = subst (Holds c R B s) e h
  told_fault NoOption e = subst (Holds c R B s) e h
  told_fault TooManyValues e = subst (Holds c R B s) e h
  told_fault NoMemory e = tt
