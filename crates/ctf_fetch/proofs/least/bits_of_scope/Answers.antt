use Rattle.std.proofs.Common.{Some, sym, subst, option_map, option_copied}
use Rattle.ctf_decode.specs.Views.{form}
use Rattle.ctf_fetch.specs.Demand.{ScopeTakes}
use Rattle.ctf_fetch.proofs.Fronts.{scope_forward, known_takes}
use Rattle.ctf_fetch.proofs.least.bits_of_scope.Goals as goal

pub returns-in-None-clause-takes : goal.returns-in-None-clause-takes
returns-in-None-clause-takes c = scope_forward _

pub returns-then-class-gt-DEEPEST-clause-takes : goal.returns-then-class-gt-DEEPEST-clause-takes
returns-then-class-gt-DEEPEST-clause-takes c = scope_forward _

pub returns-else-class-gt-DEEPEST-clause-takes : goal.returns-else-class-gt-DEEPEST-clause-takes
returns-else-class-gt-DEEPEST-clause-takes c =
    let class = c.in-Some.class.now in
    let known = subst (ScopeTakes (Some (form class))) (sym c.unwrap_or.ensures) (known_takes class c.least_bits.result c.least_bits.ensures.least) in
    subst (λ o. ScopeTakes (option_map form (option_copied o)) c.unwrap_or.result) (sym c.in-Some.is) known
