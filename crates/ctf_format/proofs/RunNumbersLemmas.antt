-- Integers whose distances are known beforehand are shown as their class says.
use Rattle.std.proofs.Common.{◌≡◌, ℕ, pos, ◌+◌, ◌*◌, ◌%◌, ◌≤◌, Bool, true, false, List, [], ◌∷◌, ◌++◌, refl, sym, ap, ◌∙◌, arith}
use Rattle.std.specs.Prelude.{if◌then◌else◌}
use Rattle.std.specs.Int.{next_multiple_of}
use Rattle.ctf_bits.specs.Number.{number, signed_number}
use Rattle.ctf_bits.specs.Placed.{number_after}
use Rattle.ctf_bits.specs.declared.number.Order.TheVariants.{Le}
use Rattle.ctf_class.proofs.AlignmentLemmas.{next_after}
use Rattle.ctf_class.specs.Integers.{bits_of}
use Rattle.ctf_class.specs.Records.{numbers_room}
use Rattle.ctf_class.specs.declared.integer.Integer.{Integer}
use Rattle.ctf_class.specs.declared.planned_number.PlannedNumber.{PlannedNumber}
use Rattle.ctf_decode.specs.Forms.{integer}
use Rattle.ctf_format.specs.Numbers.{number_text}
use Rattle.ctf_format.specs.RunNumbers.{IsPlaced, number_at, place_in}
use Rattle.ctf_format.specs.Standing.{PutsOne}
use Rattle.ctf_format.specs.Texts.{integer_text}
use Rattle.ctf_format.proofs.StandingLemmas.{puts_signed, puts_unsigned}

-- a number is what its window reads in its order
pub window_number : (n : PlannedNumber) → IsPlaced n → (packet : List ℕ) (first : ℕ) → number_after n.integer.order n.window packet first ≡ number_at n.integer packet (place_in first n)
window_number n is packet first =
    λ j. if is.sign j then signed_number n.integer.order packet (place_in first n) (is.size j) else pos (number n.integer.order packet (place_in first n) (is.size j))

-- which is little endian where it is not special
pub usual_number : (n : PlannedNumber) → IsPlaced n → n.is_special ≡ false → (packet : List ℕ) (first : ℕ) → number_after Le n.window packet first ≡ number_at n.integer packet (place_in first n)
usual_number n is usual packet first = ap (λ order. number_after order n.window packet first) (sym (is.usual usual).1) ∙ window_number n is packet first

-- an integer at a distance from a byte's first bit is shown by what is there
module _ (i : Integer) (a : ℕ) (packet : List ℕ) (content first place from end : ℕ) (before after : List ℕ) (starts : 8 * first ≡ place) (divides : place % a ≡ 0) (ends : end ≡ place + (next_multiple_of from a + bits_of i)) (within : end ≤ content)
    (wrote : after ≡ before ++ number_text i (number_at i packet (8 * first + next_multiple_of from a))) where
  begins : next_multiple_of (place + from) a ≡ 8 * first + next_multiple_of from a
  begins = next_after place from a divides ∙ ap (λ p. p + next_multiple_of from a) (sym starts)

  ends_there : end ≡ next_multiple_of (place + from) a + bits_of i
  ends_there = let same = next_after place from a divides in omega (arith, ends, same)

  by_sign : (s : Bool) → i.is_signed ≡ s → after ≡ before ++ number_text i (if s then signed_number i.order packet (8 * first + next_multiple_of from a) (bits_of i) else pos (number i.order packet (8 * first + next_multiple_of from a) (bits_of i)))
      → PutsOne (integer a i) (integer_text i) packet content (place + from) end before after
  by_sign true is shown = puts_signed a i packet content (place + from) end before after is ends_there within (shown ∙ ap (λ p. before ++ number_text i (signed_number i.order packet p (bits_of i))) (sym begins))
  by_sign false is shown = puts_unsigned a i packet content (place + from) end before after is ends_there within (shown ∙ ap (λ p. before ++ number_text i (pos (number i.order packet p (bits_of i)))) (sym begins))

  pub run_integer : PutsOne (integer a i) (integer_text i) packet content (place + from) end before after
  run_integer = by_sign i.is_signed refl wrote

-- the room of numbers is 24 bytes and more
pub room_some : (ns : List PlannedNumber) → 24 ≤ numbers_room ns
room_some [] = omega arith
room_some (n ∷ ns) = let more = room_some ns in omega (arith, more)
