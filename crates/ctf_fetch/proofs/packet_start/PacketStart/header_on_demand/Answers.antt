use Rattle.std.proofs.Common.{rules, ◌≡◌, ◌∙◌, ◌++◌, [], not, Option, IfErr, IfSome, Err, ap, subst, sym, append-nil, inr}
use Rattle.ctf_packet.specs.Classes.{trace_form}
use Rattle.ctf_packet.specs.Packets as packets
use Rattle.ctf_packet.specs.Packets.{open_at}
use Rattle.ctf_packet.specs.Scopes.{no_values, scope_at, fault_in_front}
use Rattle.ctf_packet.specs.Views.{values_of}
use Rattle.ctf_packet_demand.proofs.Beginning as beginning
use Rattle.ctf_fetch.specs.Fetching.{OrNoMemory}
use Rattle.ctf_fetch.specs.Headers.{IsHeader}
use Rattle.ctf_fetch.specs.declared.known_header.KnownHeader.{KnownHeader}
use Rattle.ctf_fetch.specs.declared.packet_scratch.PacketScratch.{PacketScratch}
use Rattle.ctf_fetch.proofs.Headers.{no_packet, learnt}
use Rattle.ctf_fetch.proofs.Opening.{header_short, stream_refused}
use Rattle.ctf_fetch.proofs.packet_start.PacketStart.header_on_demand.Goals as goal
use Rattle.ctf_fetch.proofs.packet_start.PacketStart.header_on_demand.Goals.{then-is_none+in-Some-1, then-is_none+in-None-1, else-is_none}

pub returns-in_err-end-clause-faulty : goal.returns-in_err-end-clause-faulty
returns-in_err-end-clause-faulty g c = λ tells.
    let cut = c.args.self.now in
    let trace = trace_form cut.shift cut.trace.now in
    let fault = c.in_err-end.field-0.0 in
    let all = c.scope_on_demand.new.intake.buffer.now ++ g.S.Source.left c.scope_on_demand.new.intake.source.now in
    let ending = g.S.Source.ending c.args.intake.now.source.now in
    let told : OrNoMemory (λ f. scope_at (fault_in_front ending) trace.packet_header (packets.front all no_values) 0 0 ≡ Err f) fault = rw (c.forget.ensures.scopes, c.packet_header.ensures) at (c.in_err-end.ensures.faulty tells) in
    let e : c.from_residual.result ≡ Err fault = search rules in
    subst (λ r. IfErr r (OrNoMemory (λ f. open_at trace ending cut.reached cut.at all ≡ Err f))) (sym e) (header_short trace ending cut.reached cut.at all c.forget.new.scopes fault told)

pub returns-in_err-stream-clause-faulty : goal.returns-in_err-stream-clause-faulty
returns-in_err-stream-clause-faulty g c = λ tells.
    let cut = c.args.self.now in
    let trace = trace_form cut.shift cut.trace.now in
    let fault = c.in_err-stream.field-0.0 in
    let have = c.scope_on_demand.new.intake.buffer.now in
    let left = g.S.Source.left c.scope_on_demand.new.intake.source.now in
    let known = c.scope_on_demand.new.scopes in
    let ending = g.S.Source.ending c.args.intake.now.source.now in
    let header : beginning.Header trace cut.reached (have ++ []) c.in_ok-end.end known = rw (c.forget.ensures.scopes, c.packet_header.ensures) at (c.in_ok-end.ensures.puts []) in
    let here = subst (λ b. beginning.Header trace cut.reached b c.in_ok-end.end known) (append-nil have) header in
    let checked : packets.stream_checked trace cut.reached (values_of known).packet_header ≡ Err fault = rw (c.as_ref-reached.ensures.value, c.get.ensures) at (c.in_err-stream.ensures cut.shift) in
    let e : c.from_residual-in_err-stream.result ≡ Err fault = search rules in
    subst (λ r. IfErr r (OrNoMemory (λ f. open_at trace ending cut.reached cut.at (have ++ left) ≡ Err f))) (sym e) (inr (stream_refused trace ending cut.reached cut.at have left c.in_ok-end.end known fault here checked))

pub returns-clause-finds : goal.returns-clause-finds
returns-clause-finds g c = record {
  headed = λ more. record {
    header = rw (c.forget.ensures.scopes, c.packet_header.ensures) at (c.in_ok-end.ensures.puts more);
    stream = rw (c.as_ref-reached.ensures.value, c.get.ensures) at (c.in_ok-stream.ensures c.args.self.now.shift);
  };
  within = c.in_ok-end.ensures.within;
  near = c.in_ok-end.ensures.near;
}

pub returns-clause-knows : goal.returns-clause-knows
returns-clause-knows g c =
    let trace = c.args.self.now.trace.now in
    let reached = c.args.self.now.reached in
    let known = c.scope_on_demand.new.scopes in
    let Knows = λ (o : Option KnownHeader). IfSome o (λ k. IsHeader trace k (values_of known).packet_header) in
    let learn = learnt trace reached c.scope_on_demand.new.intake.buffer.now (record { stream = c.in_ok-stream.stream; end = c.in_ok-end.end }) known
    (λ shift more. record {
      header = rw (c.forget.ensures.scopes, c.packet_header.ensures) at (c.in_ok-end.ensures.puts more);
      stream = rw (c.as_ref-reached.ensures.value, c.get.ensures) at (c.in_ok-stream.ensures shift);
    }) in
    elim c.if-is_none.branch [
      | then-is_none+in-Some-1 w ↦
          subst Knows (sym (ap (λ (s : PacketScratch). s.known) w.scratch-is))
          (learn w.new.result (no_packet reached (c.is_none.ensures ∙ ap not w.if-is_none.true)) (rw w.as_slice.ensures at w.new.ensures.bytes) w.new.ensures.found (rw w.spent.ensures.value at w.new.ensures.spent))
      | then-is_none+in-None-1 w ↦
          subst Knows (sym (ap (λ (s : PacketScratch). s.known) w.scratch-is))
          (learn w.new.result (no_packet reached (c.is_none.ensures ∙ ap not w.if-is_none.true)) (rw w.as_slice.ensures at w.new.ensures.bytes) w.new.ensures.found (rw w.spent.ensures.value at w.new.ensures.spent))
      | else-is_none w ↦ subst Knows (sym (ap (λ (s : PacketScratch). s.known) w.scratch-is ∙ c.forget.ensures.known)) tt
    ]
