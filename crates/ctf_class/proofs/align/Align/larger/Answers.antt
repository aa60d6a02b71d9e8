use Rattle.std.proofs.Common.{subst, arith}
use Rattle.ctf_class.specs.Alignment.{IsAlignment}
use Rattle.ctf_class.proofs.AlignmentLemmas.{one_is_larger, other_is_larger}
use Rattle.ctf_class.proofs.align.Align.larger.Goals as goal

pub returns-then-self-other : goal.returns-then-self-other
returns-then-self-other c =
    let one = subst (λ bits. IsAlignment bits) c.self.view_is c.self.invariant in
    let other = subst (λ bits. IsAlignment bits) c.other.view_is c.other.invariant in
    other_is_larger c.args.self c.args.other one other (omega (arith, c.if-self-other.true, c.self.view_is, c.other.view_is))

pub returns-else-self-other : goal.returns-else-self-other
returns-else-self-other c =
    let one = subst (λ bits. IsAlignment bits) c.self.view_is c.self.invariant in
    let other = subst (λ bits. IsAlignment bits) c.other.view_is c.other.invariant in
    one_is_larger c.args.self c.args.other one other (omega (arith, c.if-self-other.false, c.self.view_is, c.other.view_is))
