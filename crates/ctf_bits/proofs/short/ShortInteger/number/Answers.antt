use Rattle.std.proofs.Common.{◌≡◌, ℕ, ◌+◌, ◌*◌, ◌/◌, ◌%◌, subst, arith}
use Rattle.ctf_bits.specs.Number.{number}
use Rattle.ctf_bits.proofs.Placing.{read_after}
use Rattle.ctf_bits.proofs.short.ShortInteger.number.Goals as goal

pub returns : goal.returns
returns c =
    let short = c.self.inside in
    let order = c.args.order in
    let bytes = c.args.bytes.now in
    let place = c.args.place in
    let x = c.masked_bits.result in
    let here : 8 * (place / 8) + place % 8 ≡ place = omega arith in
    let read = read_after order bytes c.split_at.result.1.now (place / 8) (place % 8) short.size place x c.split_at.ensures.back here c.masked_bits.ensures in
    subst (λ (n : ℕ). x ≡ number order bytes place n) c.self.view_is read
