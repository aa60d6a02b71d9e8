use Rattle.std.proofs.Common.{◌≡◌, ℕ, ◌+◌, ◌*◌, ◌/◌, ◌%◌, arith}
use Rattle.ctf_bits.proofs.Placing.{read_after}
use Rattle.ctf_bits.proofs.number.uint_within.Goals as goal

-- the bit of a place in its byte
here : (pos : ℕ) → 8 * (pos / 8) + pos % 8 ≡ pos
here pos = omega arith

pub returns-then-shift-n-le64-clause-value : goal.returns-then-shift-n-le64-clause-value
returns-then-shift-n-le64-clause-value c =
    read_after c.args.order c.args.bytes.now c.split_at.result.1.now (c.args.pos / 8) (c.args.pos % 8) c.args.n c.args.pos c.number_in_window.result c.split_at.ensures.back (here c.args.pos) c.number_in_window.ensures.value

pub returns-else-from-ge8-clause-value : goal.returns-else-from-ge8-clause-value
returns-else-from-ge8-clause-value c =
    read_after c.args.order c.args.bytes.now c.split_at.result.1.now (c.args.pos / 8) (c.args.pos % 8) c.args.n c.args.pos c.number_of_bytes.result c.split_at.ensures.back (here c.args.pos) c.number_of_bytes.ensures.value
