use Rattle.std.proofs.Common.{ℕ, ◌-◌, ◌%◌, ◌^◌, ◌∙◌, ap, bit_and, arith}
use Rattle.std.proofs.lemmas.Nat.{and_mask, one_shl}
use Rattle.ctf_bits.proofs.parts.low_bits.Goals as goal

pub returns : goal.returns
returns c =
    ap (λ (ones : ℕ). bit_and c.from.result (ones - 1)) (one_shl c.args.n 64 (omega arith))
    ∙ and_mask c.from.result c.args.n ∙ ap (λ (byte : ℕ). byte % 2 ^ c.args.n) c.from.ensures
