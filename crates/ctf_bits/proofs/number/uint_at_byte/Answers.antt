use Rattle.std.proofs.Common.{◌≡◌, ◌+◌, ◌*◌, ◌/◌, arith}
use Rattle.ctf_bits.proofs.Placing.{read_after}
use Rattle.ctf_bits.proofs.number.uint_at_byte.Goals as goal

pub returns-clause-value : goal.returns-clause-value
returns-clause-value c =
    let first = c.args.pos / 8 in
    let place : 8 * first + 0 ≡ c.args.pos = omega (arith, c.requires.at_byte) in
    read_after c.args.order c.args.bytes.now c.split_at.result.1.now first 0 c.args.n c.args.pos c.number_in_window.result c.split_at.ensures.back place c.number_in_window.ensures.value
