use Rattle.std.proofs.Common.{ℕ, subst, arith}
use Rattle.ctf_class.specs.Alignment.{IsAlignment}
use Rattle.ctf_class.proofs.AlignmentLemmas.{least_up}
use Rattle.ctf_class.proofs.align.Align.up.Goals as goal

pub returns-clause-least : goal.returns-clause-least
returns-clause-least c =
    let P : ℕ → Type 0 = λ unit. IsAlignment unit in
    let power = subst P c.self.view_is c.self.invariant in
    least_up c.args.self _ c.args.place _ c.cut.result power c.cut.ensures (omega arith) (omega arith)
