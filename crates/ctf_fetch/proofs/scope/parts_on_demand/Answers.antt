use Rattle.std.proofs.Common.{rules, ◌≡◌, ◌++◌, ◌∙◌, [], IfErr, Err, Ok, ap, subst, sym}
use Rattle.ctf_decode.specs.Known.{Known, with_spent}
use Rattle.ctf_decode.specs.Views.{form, val, env}
use Rattle.ctf_decode.specs.Walk.{walk}
use Rattle.ctf_decode.specs.declared.place.Frame.TheVariants.{Top}
use Rattle.ctf_decode.proofs.Views.{env-Top}
use Rattle.ctf_packet.proofs.Standing.{form_of}
use Rattle.ctf_fetch.specs.Asking.{scope_found}
use Rattle.ctf_fetch.specs.Failing.{FailsAs}
use Rattle.ctf_fetch.specs.Demand.{there, Failed}
use Rattle.ctf_fetch.specs.Fetching.{OrNoMemory}
use Rattle.ctf_fetch.proofs.Parts.{found_more, few_values}
use Rattle.ctf_fetch.proofs.Opening.{scope_short, scope_puts}
use Rattle.ctf_fetch.proofs.scope.parts_on_demand.Goals as goal

pub set_spent-requires : goal.set_spent-requires
set_spent-requires g c =
    let decoded = c.in_ok-decoded.decoded in
    few_values (form c.args.class.now) (env Top) c.args.scopes.now c.args.next.now.end c.spent.result c.value_on_demand.new.intake.buffer.now (val decoded.value, decoded.end, decoded.spent) c.in_ok-decoded.ensures.value

pub returns-clause-puts : goal.returns-clause-puts
returns-clause-puts g c = λ more.
    let next = c.args.next.now in
    let known = c.args.scopes.now in
    let decoded = c.in_ok-decoded.decoded in
    let class = form c.args.class.now in
    let bytes = c.value_on_demand.new.intake.buffer.now in
    let found : walk class (there bytes known) [] next.end known.spent ≡ Ok (val decoded.value, decoded.end, decoded.spent) = rw (env-Top, c.spent.ensures.value) at c.in_ok-decoded.ensures.value in
    let also = found_more class [] known next.end known.spent bytes more (val decoded.value, decoded.end, decoded.spent) found in
    scope_puts next class (ap form_of c.requires.class) known (bytes ++ more) decoded.value decoded.end decoded.spent c.set_spent.new.self also
    (c.set_spent.ensures ∙ ap (λ (x : Known). with_spent x decoded.spent) c.put.ensures)

pub returns-in_err-decoded-clause-faulty : goal.returns-in_err-decoded-clause-faulty
returns-in_err-decoded-clause-faulty g c = λ tells.
    let next = c.args.next.now in
    let known = c.args.scopes.now in
    let fault = c.in_err-decoded.field-0.0 in
    let class = form c.args.class.now in
    let all = c.value_on_demand.new.intake.buffer.now ++ g.S.Source.left c.value_on_demand.new.intake.source.now in
    let ending = g.S.Source.ending c.args.intake.now.source.now in
    let told : OrNoMemory (Failed ending (walk class (there all known) [] next.end known.spent)) fault = rw (env-Top, c.spent.ensures.value) at (c.in_err-decoded.ensures.faulty tells) in
    let short = scope_short next class (ap form_of c.requires.class) known all ending fault told in
    let e : c.from_residual.result ≡ Err fault = search rules in
    subst (λ r. IfErr r (OrNoMemory (FailsAs (scope_found ending next all known)))) (sym e) short
