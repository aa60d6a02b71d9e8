-- Where runs of a plan begin.
use Rattle.std.proofs.Common.{◌≡◌, ℕ, ◌+◌, ◌-◌, ◌%◌, ◌≤◌, max, List, [], ◌∷◌, inl, inr, refl, sym, ap, subst, ◌∙◌, arith}
use Rattle.std.specs.Prelude.{⊤, ◌⊎◌}
use Rattle.std.specs.Int.{next_multiple_of}
use Rattle.std.proofs.Math.Nat.{le-max_left, le-max_right, max-le, mod_self, sub-zero, add-zero}
use Rattle.std.proofs.lemmas.Bool.{cases_lt}
use Rattle.ctf_bits.specs.Align.{IsLeastMultiple}
use Rattle.ctf_bits.proofs.Aligns.{IsLeastMultiple-next}
use Rattle.ctf_class.proofs.AlignmentLemmas.{divides_too}
use Rattle.ctf_class.specs.Alignment.{IsLarger}
use Rattle.ctf_class.specs.Records.{Slot, BeginsRun}
use Rattle.ctf_class.specs.declared.planned_number.PlannedNumber.{PlannedNumber}

-- a multiple of an alignment is where it is
pub multiple_stays : (p a : ℕ) → p % a ≡ 0 → next_multiple_of p a ≡ p
multiple_stays p a whole =
    ap (λ r. p + (a - r) % a) whole ∙ ap (λ k. p + k % a) (sub-zero a) ∙ ap (λ k. p + k) (mod_self a) ∙ add-zero p

pub at_one : (p : ℕ) → next_multiple_of p 1 ≡ p
at_one p = omega arith

-- a multiple of an alignment and of 8 is one of the larger one
pub base_divides : (p a : ℕ) → p % 8 ≡ 0 → p % a ≡ 0 → p % max 8 a ≡ 0
base_divides p a eight own = elim (cases_lt 8 a) [
  | inl less ↦ (let most = max-le {a = 8} {b = a} {k = a} (omega (arith, less)) (omega arith) in let least = le-max_right 8 a in let is : a ≡ max 8 a = omega (arith, most, least) in subst (λ b. p % b ≡ 0) is own)
  | inr above ↦ (let most = max-le {a = 8} {b = a} {k = 8} (omega arith) above in let least = le-max_left 8 a in let is : 8 ≡ max 8 a = omega (arith, most, least) in subst (λ b. p % b ≡ 0) is eight)
]

-- The first of these numbers is where it is, whether its field is looked for from one place or from another; without a
-- number both places are the same.
abbrev pub Leads : ℕ → ℕ → List Slot → List PlannedNumber → Type 0
Leads at from ss [] = at ≡ from
Leads at from [] (n ∷ ns) = ⊤
Leads at from (s ∷ ss) (n ∷ ns) =
    (next_multiple_of at s.align ≤ next_multiple_of from s.align)
    × (next_multiple_of (next_multiple_of at s.align) s.class.align ≡ next_multiple_of (next_multiple_of from s.align) s.class.align)

pub leads_itself : (p : ℕ) (ss : List Slot) (ns : List PlannedNumber) → Leads p p ss ns
leads_itself p ss [] = refl
leads_itself p [] (n ∷ ns) = tt
leads_itself p (s ∷ ss) (n ∷ ns) = (omega arith, refl)

-- rounding up to one of two alignments and then to the other is rounding up to the larger one
module _ (at align one other place : ℕ) (l : IsLarger align one other) (least : IsLeastMultiple at align place) where
  of_one : place % one ≡ 0
  of_one = divides_too place align one least.multiple l.of_one

  of_other : place % other ≡ 0
  of_other = divides_too place align other least.multiple l.of_other

  first : IsLeastMultiple at one (next_multiple_of at one)
  first = IsLeastMultiple-next at one l.one_some

  pub below : next_multiple_of at one ≤ place
  below = first.least place of_one least.not_below

  then_other : (align ≡ one) ⊎ (align ≡ other) → next_multiple_of (next_multiple_of at one) other ≡ place
  then_other (inl is) =
      let reaches : place ≤ next_multiple_of at one = least.least (next_multiple_of at one) (subst (λ a. next_multiple_of at one % a ≡ 0) (sym is) first.multiple) first.not_below in
      let low = below in
      let there : next_multiple_of at one ≡ place = omega (arith, reaches, low) in
      ap (λ p. next_multiple_of p other) there ∙ multiple_stays place other of_other
  then_other (inr is) =
      let second = IsLeastMultiple-next (next_multiple_of at one) other l.other_some in
      let low = second.least place of_other below in
      let from : at ≤ next_multiple_of (next_multiple_of at one) other = (let a = first.not_below in let b = second.not_below in omega (arith, a, b)) in
      let reaches = least.least (next_multiple_of (next_multiple_of at one) other) (subst (λ a. next_multiple_of (next_multiple_of at one) other % a ≡ 0) (sym is) second.multiple) from in
      omega (arith, low, reaches)

  pub larger_begins : next_multiple_of (next_multiple_of at one) other ≡ place
  larger_begins = then_other l.is

  pub both : next_multiple_of (next_multiple_of at one) other ≡ next_multiple_of (next_multiple_of place one) other
  both = larger_begins ∙ sym (ap (λ p. next_multiple_of p other) (multiple_stays place one of_one) ∙ multiple_stays place other of_other)

  pub low_enough : next_multiple_of at one ≤ next_multiple_of place one
  low_enough = let stays = multiple_stays place one of_one in let low = below in omega (arith, stays, low)

-- a run begins where its first number does
pub run_leads : (align at place : ℕ) (ss : List Slot) (ns : List PlannedNumber) → BeginsRun align ss ns → IsLeastMultiple at align place → place ≡ next_multiple_of at align → Leads at place ss ns
run_leads align at place ss [] begins least is = sym (is ∙ ap (next_multiple_of at) begins ∙ at_one at)
run_leads align at place [] (n ∷ ns) begins least is = tt
run_leads align at place (s ∷ ss) (n ∷ ns) begins least is =
    (low_enough at align s.align s.class.align place begins least, both at align s.align s.class.align place begins least)
