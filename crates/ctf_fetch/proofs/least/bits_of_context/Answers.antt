use Rattle.std.proofs.Common.{◌≡◌, Some, option_copied, sym, ap, ◌∙◌}
use Rattle.ctf_class.specs.Items.{only_item}
use Rattle.ctf_fetch.proofs.Fronts.{any_takes, only_takes}
use Rattle.ctf_fetch.proofs.least.bits_of_context.Goals as goal

pub returns-in-None-clause-takes : goal.returns-in-None-clause-takes
returns-in-None-clause-takes c = any_takes c.args.trace.now

pub returns-in-Some-clause-takes : goal.returns-in-Some-clause-takes
returns-in-Some-clause-takes c =
    let stream = c.in-Some.stream.now in
    let is : only_item c.args.trace.now.streams ≡ Some stream = sym c.only.ensures ∙ ap option_copied c.in-Some.is in
    only_takes c.args.trace.now stream c.bits_of_scope.result is (rw c.packet_context.ensures at c.bits_of_scope.ensures.takes)
