use Rattle.std.proofs.Common.{ℕ, ◌-◌, ◌^◌, ◌<◌, sym, subst, arith}
use Rattle.ctf_bits.proofs.Numbers.{number-lt}
use Rattle.ctf_bits.proofs.Windows.{ones}
use Rattle.ctf_bits.proofs.number.number_in_window.Goals as goal

pub masked_bits-requires-clause-ones : goal.masked_bits-requires-clause-ones
masked_bits-requires-clause-ones c = ones c.args.n (64 - c.args.n) (omega arith)

pub returns-clause-bits : goal.returns-clause-bits
returns-clause-bits c =
    subst (λ (v : ℕ). v < 2 ^ c.args.n) (sym c.masked_bits.ensures) (number-lt c.args.order c.args.bytes.now c.args.shift c.args.n)
