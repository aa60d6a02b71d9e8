use Rattle.std.proofs.Common.{subst}
use Rattle.std.proofs.lemmas.Option.{IfSome_then}
use Rattle.ctf_class.specs.HeaderPlans.{AreIntegers}
use Rattle.ctf_class.proofs.header_plan.TaggedOptions.integers.Goals as goal

pub returns-clause-is : goal.returns-clause-is
returns-clause-is c =
    IfSome_then c.of.result c.of.ensures.are (λ are of. record {
      option = c.index-self-option.result;
      within = c.if-option-self.false;
      is = c.index-self-option.is;
      integers = subst (λ size. AreIntegers c.index-self-option.result.class size 4 are) c.size_of.ensures.is (rw (← c.index-self-option.is) at of);
    })
