use Rattle.std.proofs.Common.{option_copied, ap, sym, ◌∙◌}
use Rattle.ctf_attributes.proofs.HostLemmas.{host-found, host-missing}
use Rattle.ctf_attributes.proofs.environment.host.Goals as goal
use Rattle.ctf_attributes.proofs.environment.host.Goals.{in-Some, in_default}

pub loop-declaration-preserved : goal.loop-declaration-preserved
loop-declaration-preserved c =
    let ds = c.args.declarations.now in
    let i = c.loop-declaration.declaration-index in
    let d = c.declaration-item.result in
    let settings = c.environment.result.now in
    elim c.match-last_hostname.branch [
      | in-Some w ↦ host-found ds i d settings w.in-Some.value.now _ c.loop-declaration-test.true c.declaration-item.is c.environment.ensures (ap option_copied (sym w.in-Some.is) ∙ c.last_hostname.ensures) (ap option_copied w.host-is ∙ w.string-host.ensures)
      | in_default w ↦ host-missing ds i d settings _ c.loop-declaration-test.true c.declaration-item.is c.environment.ensures (ap option_copied (sym w.in_default.is) ∙ c.last_hostname.ensures) (ap option_copied w.host-is ∙ c.loop-declaration.invariant)
    ]
