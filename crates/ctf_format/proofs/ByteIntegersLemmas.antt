-- Integers at multiples of their alignment.
use Rattle.std.proofs.Common.{◌≡◌, ℕ, ◌+◌, ◌*◌, ◌%◌, ◌≤◌, List, ◌++◌, subst, sym, ap, ◌∙◌, arith}
use Rattle.std.specs.Int.{next_multiple_of}
use Rattle.std.proofs.Math.Nat.{zero-mod}
use Rattle.ctf_class.specs.Integers.{bits_of}
use Rattle.ctf_class.specs.declared.integer.Integer.{Integer}
use Rattle.ctf_decode.specs.Forms.{integer}
use Rattle.ctf_format.specs.Numbers.{number_text}
use Rattle.ctf_format.specs.RunNumbers.{number_at}
use Rattle.ctf_format.specs.Standing.{PutsOne}
use Rattle.ctf_format.specs.Texts.{integer_text}
use Rattle.ctf_format.proofs.RunNumbersLemmas.{run_integer}
use Rattle.ctf_format.proofs.StartsLemmas.{multiple_stays}

-- an integer after so many bytes, which its alignment divides, is shown by what is there
pub aligned_integer : (i : Integer) (a : ℕ) (packet : List ℕ) (content first end : ℕ) (before after : List ℕ) → (8 * first) % a ≡ 0 → end ≡ 8 * first + bits_of i → end ≤ content → after ≡ before ++ number_text i (number_at i packet (8 * first))
    → PutsOne (integer a i) (integer_text i) packet content (8 * first) end before after
aligned_integer i a packet content first end before after divides ends within wrote =
    let none : next_multiple_of 0 a ≡ 0 = multiple_stays 0 a (zero-mod a) in
    let here : 8 * first + 0 ≡ 8 * first = omega arith in
    let shown = wrote ∙ ap (λ p. before ++ number_text i (number_at i packet p)) (sym here) ∙ ap (λ n. before ++ number_text i (number_at i packet (8 * first + n))) (sym none) in
    let ends_there : end ≡ 8 * first + (next_multiple_of 0 a + bits_of i) = omega (arith, ends, none) in
    subst (λ p. PutsOne (integer a i) (integer_text i) packet content p end before after) here (run_integer i a packet content first (8 * first) 0 end before after (λ _. 8 * first) divides ends_there within shown)
