-- One more element or option, as the code takes them.
use Rattle.std.proofs.Common.{◌≡◌, ℕ, zero, suc, ◌+◌, ◌-◌, ◌<◌, ◌≤◌, List, [], ◌∷◌, ◌++◌, map, length, get_or, Result, Ok, Err, refl, sym, ap, subst, ◌∙◌, arith}
use Rattle.ctf_class.specs.declared.class.Member.{Member}
use Rattle.ctf_decode.specs.Values.{Val, choice}
use Rattle.ctf_decode.specs.Forms.{parts_of}
use Rattle.ctf_decode.specs.Input.{Input, Env}
use Rattle.ctf_decode.specs.Breaks.{no_option}
use Rattle.ctf_decode.specs.Walk.{Step, and_then, repeat, as_choice, walk, walk_option}
use Rattle.ctf_decode.specs.Views.{form, member_part}
use Rattle.ctf_decode.specs.Gives.{Fails, Gives, GivesNext}
use Rattle.ctf_decode.specs.declared.fault.DecodeFault.{DecodeFault}
use Rattle.ctf_decode.specs.declared.place.Cursor.{Cursor}
use Rattle.ctf_decode.specs.declared.place.Stopped.{Stopped}
use Rattle.ctf_decode.specs.declared.fault.DecodeFault.TheVariants.{ContentEnds, NoOption, TooManyValues, NoMemory}
use Rattle.ctf_decode.proofs.Views.{part-is}

-- a fault of the first step is one of the whole
pub fails_then : {A B : Type 0} (d : DecodeFault) (r : Step A) (f : A → ℕ → ℕ → Step B) → Fails d r → Fails d (and_then r f)
fails_then TooManyValues r f h = ap (λ x. and_then x f) h
fails_then (ContentEnds e) r f h = ap (λ x. and_then x f) h
fails_then NoOption r f h = ap (λ x. and_then x f) h
fails_then NoMemory r f h = tt

repeat_next : (f : ℕ → ℕ → Step Val) (n i : ℕ) (done : List Val) (p s : ℕ) → i < n → repeat f (n - i) done p s ≡ and_then (f p s) (λ v q t. repeat f (n - (i + 1)) (done ++ v ∷ []) q t)
repeat_next f n i done p s h =
    let one : n - i ≡ suc (n - (i + 1)) = omega arith in ap (λ k. repeat f k done p s) one

module _ (f : ℕ → ℕ → Step Val) (n i : ℕ) (within : i < n) (done : List Val) (p s : ℕ) where
  pub row_fail : (d : DecodeFault) → Fails d (f p s) → Fails d (repeat f (n - i) done p s)
  row_fail d h = subst (Fails d) (sym (repeat_next f n i done p s within)) (fails_then d (f p s) (λ v q t. repeat f (n - (i + 1)) (done ++ v ∷ []) q t) h)

  pub row_ok : (v : Val) (q t : ℕ) (all : List Val) → all ≡ done ++ v ∷ [] → f p s ≡ Ok (v, q, t) → repeat f (n - (i + 1)) all q t ≡ repeat f (n - i) done p s
  row_ok v q t all g h =
      let rest = λ (x : Val) (y z : ℕ). repeat f (n - (i + 1)) (done ++ x ∷ []) y z in
      ap (λ ys. repeat f (n - (i + 1)) ys q t) g ∙ sym (repeat_next f n i done p s within ∙ ap (λ r. and_then r rest) h)

module _ (c : Input) (e : Env) where
  option_is : (ms : List Member) (i : ℕ) (m : Member) (p s : ℕ) → i < length ms → m ≡ get_or ms i m → walk_option (parts_of (map member_part ms)) i c e p s ≡ walk (form m.class) c e p s
  option_is [] i m p s h g = absurd (omega arith)
  option_is (n ∷ ms) zero m p s h g = ap (λ x. walk x c e p s) (ap (λ x. x.1) (part-is n) ∙ ap (λ (x : Member). form x.class) (sym g))
  option_is (n ∷ ms) (suc i) m p s h g = option_is ms i m p s (omega arith) g

  pub option_past : (ms : List Member) (i : ℕ) (p s : ℕ) → length ms ≤ i → walk_option (parts_of (map member_part ms)) i c e p s ≡ Err no_option
  option_past [] i p s h = refl
  option_past (n ∷ ms) zero p s h = absurd (omega arith)
  option_past (n ∷ ms) (suc i) p s h = option_past ms i p s (omega arith)

module _ (c : Input) (e : Env) (ms : List Member) (i : ℕ) (m : Member) (within : i < length ms) (here : m ≡ get_or ms i m) (p s : ℕ) where
  abbrev option_as : Step Val
  option_as = and_then (walk_option (parts_of (map member_part ms)) i c e p s) (as_choice i)

  pub choice_fail : (d : DecodeFault) → Fails d (walk (form m.class) c e p s) → Fails d option_as
  choice_fail d h = fails_then d (walk_option (parts_of (map member_part ms)) i c e p s) (as_choice i) (subst (Fails d) (sym (option_is c e ms i m p s within here)) h)

  pub choice_ok : (v : Val) (q t : ℕ) → walk (form m.class) c e p s ≡ Ok (v, q, t) → option_as ≡ Ok (choice i v, q, t)
  choice_ok v q t h = ap (λ r. and_then r (as_choice i)) (option_is c e ms i m p s within here ∙ h)

  pub choice_gives : (r : Result (Unit {0}) Stopped) (at : Cursor) (v : Val) → Gives r at v (walk (form m.class) c e p s) → Gives r at (choice i v) option_as
  choice_gives (Ok _) at v h = choice_ok v at.end at.spent h
  choice_gives (Err _) at v h = choice_fail at.fault h

  -- what was found of the option itself, as the variant's
  pub choice_as : and_then (walk (form m.class) c e p s) (as_choice i) ≡ option_as
  choice_as = ap (λ r. and_then r (as_choice i)) (sym (option_is c e ms i m p s within here))

-- what was decoded is the next value, after others
pub gives_next : (r : Result (Unit {0}) Stopped) (at : Cursor) (done all : List Val) (v : Val) (step : Step Val) → all ≡ done ++ v ∷ [] → Gives r at v step → GivesNext r at done all step
gives_next (Ok _) at done all v step here g = (v, here, g)
gives_next (Err _) at done all v step here g = g
