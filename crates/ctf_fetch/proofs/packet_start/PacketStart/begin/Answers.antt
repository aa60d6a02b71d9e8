use Rattle.std.proofs.Common.{rules, ◌≡◌, ◌++◌, ◌∙◌, [], IfErr, IfSome, Err, ap, subst, sym, arith, inr}
use Rattle.ctf_packet.specs.Classes.{trace_form, stream_form}
use Rattle.ctf_packet.specs.Packets as packets
use Rattle.ctf_packet.specs.Packets.{open_at}
use Rattle.ctf_packet.specs.Scopes.{Values, scope_at, fault_in_front}
use Rattle.ctf_packet.specs.Views.{values_of}
use Rattle.ctf_packet_demand.specs.Gives as front
use Rattle.ctf_fetch.specs.Fetching.{OrNoMemory}
use Rattle.ctf_fetch.specs.Headers.{IsHeader}
use Rattle.ctf_fetch.proofs.Begun as begun
use Rattle.ctf_fetch.proofs.Opening.{asked_refused, context_short, fits}
use Rattle.ctf_fetch.proofs.packet_start.PacketStart.begin.Goals as goal

pub returns-in_err-first-clause-faulty : goal.returns-in_err-first-clause-faulty
returns-in_err-first-clause-faulty g c = λ tells.
    let cut = c.args.self.now in
    let trace = trace_form cut.shift cut.trace.now in
    let found = c.in_ok-found.found in
    let s = stream_form cut.shift found.stream.now in
    let fault = c.in_err-first.field-0.0 in
    let later = c.scope_on_demand.new.intake.buffer.now in
    let left = g.S.Source.left c.scope_on_demand.new.intake.source.now in
    let known = c.header.new.scopes in
    let ending = g.S.Source.ending c.args.intake.now.source.now in
    let first = c.scope_on_demand.ensures.keeps.bytes.first in
    let header = begun.header_in c.in_ok-found.ensures.finds later first left in
    let checked = begun.checked c.in_ok-found.ensures.finds later first in
    let asked : OrNoMemory (λ f. scope_at (fault_in_front (g.S.Source.ending c.header.new.intake.source.now)) s.packet_context (packets.front (later ++ left) (values_of known)) found.end known.spent ≡ Err f) fault = rw c.packet_context.ensures at (c.in_err-first.ensures.faulty (c.header.ensures.keeps.bytes.tells tells)) in
    let told = subst (λ e. OrNoMemory (λ f. scope_at (fault_in_front e) s.packet_context (packets.front (later ++ left) (values_of known)) found.end known.spent ≡ Err f) fault) (c.header.ensures.keeps.bytes.same_end tells) asked in
    let e : c.from_residual-in_err-first.result ≡ Err fault = search rules in
    subst (λ r. IfErr r (OrNoMemory (λ f. open_at trace ending cut.reached cut.at (later ++ left) ≡ Err f))) (sym e) (context_short trace ending cut.reached cut.at (later ++ left) found.end known known fault s header checked told)

pub returns-in_err-begun-clause-faulty : goal.returns-in_err-begun-clause-faulty
returns-in_err-begun-clause-faulty g c = λ tells.
    let cut = c.args.self.now in
    let trace = trace_form cut.shift cut.trace.now in
    let fault = c.in_err-begun.field-0.0 in
    let later = c.scope_on_demand.new.intake.buffer.now in
    let left = g.S.Source.left c.scope_on_demand.new.intake.source.now in
    let ending = g.S.Source.ending c.args.intake.now.source.now in
    let after = c.scope_on_demand.new.scopes in
    let asks = begun.asks c.in_ok-found.ensures.finds later c.scope_on_demand.ensures.keeps.bytes.first c.in_ok-first.first c.scope_on_demand.new.scopes (rw c.packet_context.ensures at (c.in_ok-first.ensures.puts [])) in
    let judged = asks ∙ (rw c.get.ensures at (c.in_err-begun.ensures.judged cut.shift (values_of after))) in
    let e : c.from_residual-in_err-begun.result ≡ Err fault = search rules in
    subst (λ r. IfErr r (OrNoMemory (λ f. open_at trace ending cut.reached cut.at (later ++ left) ≡ Err f))) (sym e) (inr (asked_refused trace ending cut.reached cut.at later left fault judged))

pub returns-in-Rest-clause-asks : goal.returns-in-Rest-clause-asks
returns-in-Rest-clause-asks g c =
    let shift = c.args.self.now.shift in
    let after = values_of c.scope_on_demand.new.scopes in
    let asks = begun.asks c.in_ok-found.ensures.finds c.scope_on_demand.new.intake.buffer.now c.scope_on_demand.ensures.keeps.bytes.first c.in_ok-first.first c.scope_on_demand.new.scopes (rw c.packet_context.ensures at (c.in_ok-first.ensures.puts [])) in
    asks ∙ (rw c.get.ensures at (c.in_ok-begun.ensures.judged shift after)) ∙ ap (front.want_of shift after) c.in-Rest.is

pub returns-in-Whole-clause-asks : goal.returns-in-Whole-clause-asks
returns-in-Whole-clause-asks g c =
    let shift = c.args.self.now.shift in
    let after = values_of c.scope_on_demand.new.scopes in
    let asks = begun.asks c.in_ok-found.ensures.finds c.scope_on_demand.new.intake.buffer.now c.scope_on_demand.ensures.keeps.bytes.first c.in_ok-first.first c.scope_on_demand.new.scopes (rw c.packet_context.ensures at (c.in_ok-first.ensures.puts [])) in
    asks ∙ (rw c.get.ensures at (c.in_ok-begun.ensures.judged shift after)) ∙ ap (front.want_of shift after) c.in-Whole.is

pub returns-in-Whole-clause-fits : goal.returns-in-Whole-clause-fits
returns-in-Whole-clause-fits g c =
    let cut = c.args.self.now in
    let later = c.scope_on_demand.new.intake.buffer.now in
    let after = values_of c.scope_on_demand.new.scopes in
    let there = c.scope_on_demand.ensures.keeps.bytes.first in
    let asks = begun.asks c.in_ok-found.ensures.finds later there c.in_ok-first.first c.scope_on_demand.new.scopes (rw c.packet_context.ensures at (c.in_ok-first.ensures.puts [])) in
    let told = asks ∙ (rw c.get.ensures at (c.in_ok-begun.ensures.judged cut.shift after)) ∙ ap (front.want_of cut.shift after) c.in-Whole.is in
    let few = c.requires.few in
    let takes = begun.ends c.in_ok-found.ensures.finds later there c.in_ok-first.first c.scope_on_demand.new.scopes (rw c.packet_context.ensures at (c.in_ok-first.ensures.puts [])) cut.least cut.takes in
    let near = c.in_ok-found.ensures.finds.near in
    let also = c.in_ok-first.ensures.near in
    let on = c.in_ok-first.ensures.forward in
    let ends : c.in-Whole.begun.first ≡ c.in_ok-first.first = rw c.in-Whole.is at c.in_ok-begun.ensures.first in
    fits (trace_form cut.shift cut.trace.now) cut.reached later (front.begun_of cut.shift after c.in-Whole.begun) c.in-Whole.sizes 1 told (omega arith) (omega (arith, few, takes, near, also, on, ends))

pub returns-in-Rest-clause-knows : goal.returns-in-Rest-clause-knows
returns-in-Rest-clause-knows g c =
    let kept = c.in_ok-first.ensures.puts [] in
    subst (λ v. IfSome c.header.new.scratch.known (λ k. IsHeader c.args.self.now.trace.now k v)) (sym (ap (λ (v : Values). v.packet_header) kept.4)) c.in_ok-found.ensures.knows

pub returns-in-Whole-clause-knows : goal.returns-in-Whole-clause-knows
returns-in-Whole-clause-knows g c =
    let kept = c.in_ok-first.ensures.puts [] in
    subst (λ v. IfSome c.header.new.scratch.known (λ k. IsHeader c.args.self.now.trace.now k v)) (sym (ap (λ (v : Values). v.packet_header) kept.4)) c.in_ok-found.ensures.knows
