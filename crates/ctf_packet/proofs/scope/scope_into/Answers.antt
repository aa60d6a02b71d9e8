use Rattle.std.proofs.Common.{◌≡◌, ◌∙◌, Err, ap, [], rules}
use Rattle.ctf_decode.specs.Known.{Known, with_spent}
use Rattle.ctf_decode.specs.Views.{form, val, input_in}
use Rattle.ctf_packet.proofs.Forward.{forward}
use Rattle.ctf_packet.proofs.Standing.{puts_ok, puts_err}
use Rattle.ctf_packet.proofs.scope.scope_into.Goals as goal

pub returns-clause-puts : goal.returns-clause-puts
returns-clause-puts c =
    let t = c.in_ok-reached.reached.spent in
    puts_ok (form c.args.class.now) c.args.at.now.bytes.now c.args.at.now.content c.args.scopes.now c.set_spent.new.self c.args.at.now.scope c.args.at.now.place c.decode_into.new.value c.in_ok-reached.reached.end t c.in_ok-reached.ensures.value c.in_ok-reached.ensures.counted c.in_ok-reached.ensures.few
    (c.set_spent.ensures ∙ ap (λ (x : Known). with_spent x t) c.exchange.ensures)

pub returns-in_err-reached-clause-puts : goal.returns-in_err-reached-clause-puts
returns-in_err-reached-clause-puts c =
    let fault = c.in_err-reached.field-0.0 in
    let e : c.from_residual.result ≡ Err fault = search rules in
    rw (e) (puts_err (form c.args.class.now) c.args.at.now.bytes.now c.args.at.now.content c.args.scopes.now c.args.scopes.now c.args.at.now.scope c.args.at.now.place fault c.in_err-reached.ensures.fault)

pub returns-clause-forward : goal.returns-clause-forward
returns-clause-forward c =
    forward (form c.args.class.now) (input_in c.args.at.now.bytes.now c.args.at.now.content c.args.scopes.now) [] c.args.at.now.place (val c.decode_into.new.value) c.in_ok-reached.reached.end c.in_ok-reached.ensures.value
