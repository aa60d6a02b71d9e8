use Rattle.std.proofs.Common.{take, arith}
use Rattle.std.proofs.lemmas.List.{length-take-le}
use Rattle.ctf_format.proofs.LinesLemmas.{context_some}
use Rattle.ctf_format.proofs.Chains.{put_after}
use Rattle.ctf_format.proofs.packet.put_context.Goals as goal

pub returns : goal.returns
returns c =
    let before = length-take-le c.args.at c.args.buffer.now.items (omega arith) in
    let after = length-take-le c.in_ok-end.end c.put_shown.new.buffer.items (omega (arith, c.in_ok-end.ensures.held)) in
    put_after c.args.buffer.now c.put_shown.new.buffer c.put_end.new.buffer c.args.at c.in_ok-end.end _ _ c.put_end.result (context_some _ _ (take c.args.at c.args.buffer.now.items) (λ same. omega (arith, c.if-end-at.false)) c.in_ok-end.ensures.text) c.put_end.ensures
