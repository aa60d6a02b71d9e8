use Rattle.std.proofs.Common.{ℕ, ◌^◌, ◌<◌, sym, subst}
use Rattle.ctf_bits.specs.declared.number.Order.TheVariants.{Le, Be}
use Rattle.ctf_bits.proofs.Numbers.{number-lt}
use Rattle.ctf_bits.proofs.number.number_of_bytes.Goals as goal

pub returns-in-Le-clause-bits : goal.returns-in-Le-clause-bits
returns-in-Le-clause-bits c =
    subst (λ (v : ℕ). v < 2 ^ c.args.n) (sym c.joined_le.ensures) (number-lt Le c.args.bytes.now c.args.shift c.args.n)

pub returns-in-Be-clause-bits : goal.returns-in-Be-clause-bits
returns-in-Be-clause-bits c =
    subst (λ (v : ℕ). v < 2 ^ c.args.n) (sym c.joined_be.ensures) (number-lt Be c.args.bytes.now c.args.shift c.args.n)
