use Rattle.std.proofs.Common.{◌+◌, ◌*◌, ◌<◌, ◌≤◌, subst}
use Rattle.ctf_bits.specs.Placed.{Placed}
use Rattle.ctf_bits.proofs.Placing.{below_after, last_of, only_signed, plain_after}
use Rattle.ctf_bits.proofs.window.Window.number.Goals as goal

pub returns-clause-value : goal.returns-clause-value
returns-clause-value c =
    let w = c.self.inside in
    let x = c.bits-number.result in
    let bytes = c.args.bytes.now in
    let first = c.args.first in
    let few = subst (λ m. x ≤ m) c.self.invariant.5 c.if-number-self.false in
    let Q : Placed → Type 0 = λ p. x ≤ last_of p.is_signed p.size in
    let R : Placed → Type 0 = λ p. 1 ≤ p.size in
    plain_after c.args.order c.args.self.now bytes first x (subst R c.self.view_is c.self.invariant.0) c.bits-number.ensures (subst Q c.self.view_is few)

pub returns-then-number-self-clause-below : goal.returns-then-number-self-clause-below
returns-then-number-self-clause-below c = λ _ n.
    let x = c.bits-number.result in
    let above = subst (λ m. m < x) c.self.invariant.5 c.if-number-self.true in
    let Q : Placed → Type 0 = λ p. last_of p.is_signed p.size < x in
    let R : Placed → Type 0 = λ p. 1 ≤ p.size in
    below_after c.args.order c.args.self.now c.args.bytes.now c.args.first x n (subst R c.self.view_is c.self.invariant.0) c.bits-number.ensures (subst Q c.self.view_is above)

pub returns-then-number-self-clause-signed : goal.returns-then-number-self-clause-signed
returns-then-number-self-clause-signed c = λ _.
    let x = c.bits-number.result in
    let above = subst (λ m. m < x) c.self.invariant.5 c.if-number-self.true in
    let Q : Placed → Type 0 = λ p. last_of p.is_signed p.size < x in
    only_signed c.args.order c.args.self.now.is_signed c.args.bytes.now (8 * c.args.first + c.args.self.now.place) c.args.self.now.size x c.bits-number.ensures (subst Q c.self.view_is above)
