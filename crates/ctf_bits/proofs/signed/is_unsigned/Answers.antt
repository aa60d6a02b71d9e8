use Rattle.std.proofs.Common.{◌≡◌, ℕ, pos, ◌-◌, ◌*◌, ◌/◌, ◌^◌, ◌-ℤ◌, ◌≤◌, IsTrue, nat_le, ap, sym, ◌∙◌, arith}
use Rattle.std.proofs.lemmas.Int.{ints}
use Rattle.ctf_bits.proofs.Signs.{signed_number-number}
use Rattle.ctf_bits.proofs.Windows.{low_half, half_held}
use Rattle.ctf_bits.proofs.signed.is_unsigned.Goals as goal

-- where the top bit weighs nothing
plain : (v n : ℕ) → v / 2 ^ (n - 1) ≡ 0 → pos v -ℤ pos (v / 2 ^ (n - 1) * 2 ^ n) ≡ pos v
plain v n none =
    let nothing : pos v -ℤ pos (0 * 2 ^ n) ≡ pos v = omega (arith, ints) in
    ap (λ (q : ℕ). pos v -ℤ pos (q * 2 ^ n)) none ∙ nothing

-- a test that is passed
within : (v m : ℕ) → IsTrue (nat_le v m) → v ≤ m
within v m is = grind arith

pub returns-clause-same : goal.returns-clause-same
returns-clause-same c none order bytes p is =
    sym (signed_number-number order bytes p c.args.n c.args.value c.requires.some_bits is) ∙ plain c.args.value c.args.n (low_half c.args.value c.args.n c.requires.some_bits c.requires.in_a_word (within c.args.value _ none))

-- a test that passes
passes : (v m : ℕ) → v ≤ m → IsTrue (nat_le v m)
passes v m is = grind arith

pub returns-clause-each : goal.returns-clause-each
returns-clause-each c below = passes c.args.value _ (half_held c.args.value c.args.n c.requires.some_bits c.requires.in_a_word below)
