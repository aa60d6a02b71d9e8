use Rattle.std.proofs.Common.{Ok, ◌*◌, length, min, ap, subst, arith}
use Rattle.ctf_decode.specs.Views.{form}
use Rattle.ctf_packet.proofs.Standing.{form_of}
use Rattle.ctf_packet.specs.Scopes.{longest}
use Rattle.ctf_packet.specs.Views.{values_of, PutsValue}
use Rattle.ctf_fetch.proofs.Longer.{walk_held}
use Rattle.ctf_fetch.proofs.Opening.{scope_put}
use Rattle.ctf_fetch.proofs.scope.scope_at_hand.Goals as goal

pub returns-in-Ok-clause-puts : goal.returns-in-Ok-clause-puts
returns-in-Ok-clause-puts c = λ more.
    let next = c.args.next.now in
    let k = form c.args.class.now in
    let known = c.args.scopes.now in
    let bytes = c.args.buffer.now in
    let content = min (8 * length bytes) longest in
    let puts = rw (c.front_content-content.ensures.value, c.as_slice.ensures) at c.in-Ok.ensures.puts in
    let held = walk_held k (values_of known) bytes c.padded.result.now content (omega arith) c.padded.ensures next.end known.spent in
    scope_put next k (ap form_of c.requires.class) known bytes more c.in-Ok.end c.scope_into.new.scopes (subst (λ w. PutsValue next.scope (values_of known) w (Ok c.in-Ok.end) c.scope_into.new.scopes) held puts)
