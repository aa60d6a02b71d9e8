-- Times that are not before others.
use Rattle.std.proofs.Common.{◌≡◌, ℤ, pos, negsuc, ◌≤ℤ◌, false, List, [], ◌∷◌, Option, Some, None, refl, arith}
use Rattle.std.specs.Int.Signed.{lt_z}
use Rattle.std.proofs.lemmas.Int.{ints}
use Rattle.std.proofs.lemmas.Bool.Decides.{nat_tests}
use Rattle.ctf_packet.specs.Items.{Item}
use Rattle.ctf_packet.specs.ItemTimes.{time_of}
use Rattle.stream_laws.specs.Times.{NotBefore, Rises}

-- the test and the order
pub not_less : (a b : ℤ) → b ≤ℤ a → lt_z a b ≡ false
not_less (pos a) (pos b) h = grind (arith, ints, nat_tests)
not_less (pos a) (negsuc b) h = refl
not_less (negsuc a) (pos b) h = absurd (omega (arith, ints))
not_less (negsuc a) (negsuc b) h = grind (arith, ints, nat_tests)

pub at_most : (a b : ℤ) → lt_z a b ≡ false → b ≤ℤ a
at_most (pos a) (pos b) h = grind (arith, ints, nat_tests)
at_most (pos a) (negsuc b) h = omega (arith, ints)
at_most (negsuc a) (pos b) h = cc
at_most (negsuc a) (negsuc b) h = grind (arith, ints, nat_tests)

pub not_before_itself : (a : Option ℤ) → NotBefore a a
not_before_itself None = refl
not_before_itself (Some a) = not_less a a (omega (arith, ints))

-- no time is before none
pub not_before_none : (a : Option ℤ) → NotBefore None a
not_before_none None = refl
not_before_none (Some a) = refl

pub not_before_through : (a b c : Option ℤ) → NotBefore a b → NotBefore b c → NotBefore a c
not_before_through None b c h g = not_before_none c
not_before_through (Some a) None c h g = cc
not_before_through (Some a) (Some b) None h g = cc
not_before_through (Some a) (Some b) (Some c) h g =
    let x : a ≤ℤ b = at_most b a h in
    let y : b ≤ℤ c = at_most c b g in
    not_less c a (omega (arith, ints))

-- items that rise from a time rise from each that it is not before
pub rises_under : {C : Type 0} (low time : Option ℤ) (items : List (Item C)) → NotBefore low time → Rises time items → Rises low items
rises_under low time [] h r = tt
rises_under low time (x ∷ xs) h r = (not_before_through low time (time_of x) h r.0, r.1)

-- those after the first one rise too
pub rest_rises : {C : Type 0} (low : Option ℤ) (x : Item C) (xs : List (Item C)) → Rises low (x ∷ xs) → Rises None xs
rest_rises low x xs r = rises_under None (time_of x) xs (not_before_none (time_of x)) r.1
