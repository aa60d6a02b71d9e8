use Rattle.std.proofs.Common.{◌≡◌, ◌+◌, ◌*◌, subst, arith}
use Rattle.ctf_bits.specs.Number.{number}
use Rattle.ctf_bits.specs.Placed.{Placed}
use Rattle.ctf_bits.proofs.Placing.{read_after}
use Rattle.ctf_bits.proofs.window.Window.bits.Goals as goal

pub returns : goal.returns
returns c =
    let w = c.self.inside in
    let order = c.args.order in
    let bytes = c.args.bytes.now in
    let first = c.args.first in
    let x = c.masked_bits.result in
    let here : 8 * (first + w.bytes) + w.shift ≡ 8 * first + (8 * w.bytes + w.shift) = omega arith in
    let read = read_after order bytes c.split_at.result.1.now (first + w.bytes) w.shift w.size (8 * first + (8 * w.bytes + w.shift)) x c.split_at.ensures.back here c.masked_bits.ensures in
    subst (λ (p : Placed). x ≡ number order bytes (8 * first + p.place) p.size) c.self.view_is read
