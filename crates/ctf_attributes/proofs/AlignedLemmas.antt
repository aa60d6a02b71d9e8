-- The test of an alignment.
use Rattle.std.proofs.Common.{◌≡◌, ℕ, zero, suc, ◌+◌, ◌^◌, ◌<◌, ◌≤◌, nat_eq, Bool, true, false, not, ◌||◌, Option, Some, None, Result, refl, sym, ap, ◌∙◌, ⊎_elim, subst, arith}
use Rattle.std.specs.List.{list_any, range_with_len}
use Rattle.std.proofs.lemmas.Bool.{cases_eq, eq-eqb, eqb-true}
use mathlib.Core.Bool.{true≢false}
use Rattle.std.specs.Option.{SomeIff, ok_or}
use Rattle.ctf_class.specs.Alignment.{IsAlignment}
use Rattle.ctf_meaning.specs.declared.fault.ResolveFault.{ResolveFault}
use Rattle.ctf_meaning.specs.declared.fault.ResolveFault.TheVariants.{SizeOrAlignment}
use Rattle.ctf_meaning.specs.Settings.{when}
use Rattle.ctf_meaning.specs.Integers.{is_alignment}
use Rattle.ctf_attributes.specs.Tells.{TellsFirst}

or-true : (s : Bool) → (s || true) ≡ true
or-true true = refl
or-true false = refl

within : (f : ℕ → Bool) (k count from : ℕ) → from ≤ k → k < from + count → f k ≡ true → list_any f (range_with_len from count) ≡ true
within f k zero from low high h = absurd (omega (arith, low, high))
within f k (suc n) from low high h =
    ⊎_elim
    (λ same. ap (λ j. f j || list_any f (range_with_len (from + 1) n)) same ∙ ap (λ s. s || list_any f (range_with_len (from + 1) n)) h)
    (λ apart. ap (λ s. f from || s) (within f k n (from + 1) (omega (arith, apart)) (omega (arith, high)) h) ∙ or-true (f from))
    (cases_eq from k)

-- a number from `from` on, below `from + count`, that passes a test
record Hit (f : ℕ → Bool) (from count : ℕ) : Type 0 where
  at : ℕ
  low : from ≤ at
  high : at < from + count
  passes : f at ≡ true

hit-more : (f : ℕ → Bool) (n from : ℕ) (s : Bool) → f from ≡ s → (s || list_any f (range_with_len (from + 1) n)) ≡ true → (list_any f (range_with_len (from + 1) n) ≡ true → Hit f (from + 1) n) → Hit f from (suc n)
hit-more f n from true here h later = record { at = from; low = omega arith; high = omega arith; passes = here }
hit-more f n from false here h later =
    let found = later h in
    record { at = found.at; low = omega (arith, found.low); high = omega (arith, found.high); passes = found.passes }

hit : (f : ℕ → Bool) (count from : ℕ) → list_any f (range_with_len from count) ≡ true → Hit f from count
hit f zero from h = absurd (true≢false (sym h))
hit f (suc n) from h = hit-more f n from (f from) refl h (hit f n (from + 1))

pub is_alignment-true : (n : ℕ) → IsAlignment n → is_alignment n ≡ true
is_alignment-true n power = within (λ k. nat_eq n (2 ^ k)) power.exponent 32 0 (omega arith) (omega (arith, power.bounded)) (eq-eqb n (2 ^ power.exponent) power.value)

pub IsAlignment-true : (n : ℕ) → is_alignment n ≡ true → IsAlignment n
IsAlignment-true n h =
    let found = hit (λ k. nat_eq n (2 ^ k)) 32 0 h in
    record { exponent = found.at; bounded = omega (arith, found.high); value = eqb-true n (2 ^ found.at) found.passes }

told-by : (bits : ℕ) (o : Option ℕ) (b : Bool) → is_alignment bits ≡ b → SomeIff o (IsAlignment bits) bits → TellsFirst {V = ℕ} (when (not b) SizeOrAlignment) (λ a. a ≡ bits) (ok_or o SizeOrAlignment)
told-by bits (Some x) true e h = (refl, h.1)
told-by bits (Some x) false e h = absurd (true≢false (sym (is_alignment-true bits h.0) ∙ e))
told-by bits None true e h = absurd (h (IsAlignment-true bits e))
told-by bits None false e h = refl

-- what is reported of an alignment
pub aligned-told : (bits : ℕ) (o : Option ℕ) (r : Result ℕ ResolveFault) → SomeIff o (IsAlignment bits) bits → r ≡ ok_or o SizeOrAlignment → TellsFirst (when (not (is_alignment bits)) SizeOrAlignment) (λ a. a ≡ bits) r
aligned-told bits o r h same =
    let P : Result ℕ ResolveFault → Type 0 = λ x. TellsFirst (when (not (is_alignment bits)) SizeOrAlignment) (λ a. a ≡ bits) x in
    subst P (sym same) (told-by bits o (is_alignment bits) refl h)
