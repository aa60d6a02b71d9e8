use Rattle.std.proofs.Common.{sym, arith, rules}
use Rattle.ctf_class.specs.Fronts.{SetsNoClock}
use Rattle.ctf_class.proofs.FrontsLemmas.{all_from}
use Rattle.ctf_class.specs.declared.class.Member.{Member}
use Rattle.ctf_class.proofs.front_class.clock_count_in.Goals as goal

pub loop-count-preserved : goal.loop-count-preserved
loop-count-preserved c =
    let members = c.args.members.now in
    let count = c.loop-count.count in
    let member = c.index-members-count.result in
    record {
      within = omega (arith, c.loop-count.invariant.within);
      none = all_from (λ (m : Member). SetsNoClock m.class) members count member c.loop-count-test.true c.loop-count.invariant.within (sym c.index-members-count.is) (search rules) c.loop-count.invariant.none;
    }
