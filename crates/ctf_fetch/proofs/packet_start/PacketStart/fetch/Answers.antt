use Rattle.std.proofs.Common.{rules, arith, ◌≡◌, ◌≤◌, ◌++◌, length, length-append, Ok, Err, ap, subst, sym, ◌∙◌}
use Rattle.std.proofs.lemmas.Grind.{common_steps}
use Rattle.ctf_packet.specs.Classes.{trace_form}
use Rattle.ctf_packet.specs.Packets.{open_at}
use Rattle.ctf_packet.specs.Items.{from_packet, longest_stream}
use Rattle.ctf_packet.specs.Views.{values_of, opened_of}
use Rattle.ctf_fetch.specs.Fetching.{after_packet, OrNoMemory}
use Rattle.ctf_fetch.proofs.Fetched.{fetched, not_fetched}
use Rattle.ctf_fetch.proofs.packet_start.PacketStart.fetch.Goals as goal

pub returns-in-Ok-clause-fetches : goal.returns-in-Ok-clause-fetches
returns-in-Ok-clause-fetches g c = λ tells.
    let cut = c.args.self.now in
    let trace = trace_form cut.shift cut.trace.now in
    let ending = g.S.Source.ending c.args.source.now in
    let packet = c.in-Ok.packet in
    let all = g.S.Source.left c.args.source.now in
    let also = c.take_first.ensures.keeps.bytes.tells tells in
    let left = g.S.Source.left c.open.new.intake.source.now in
    let opened = opened_of cut.shift (values_of c.open.new.scopes) packet in
    let middle = c.take_first.new.intake.buffer.now ++ g.S.Source.left c.take_first.new.intake.source.now in
    let from_start : middle ≡ all = c.take_first.ensures.keeps.bytes.kept tells ∙ ap (λ l. l ++ all) c.requires.empty in
    let kept = c.open.ensures.keeps.bytes.kept also ∙ from_start in
    let found : open_at trace ending cut.reached cut.at all ≡ Ok opened =
    ap (open_at trace ending cut.reached cut.at) (sym from_start) ∙ subst (λ e. open_at trace e cut.reached cut.at middle ≡ Ok opened) (c.take_first.ensures.keeps.bytes.same_end tells) (c.in-Ok.ensures.opens also) in
    let near : cut.at ≤ longest_stream = search rules in
    let at = c.in-Ok.ensures.at in
    let is = fetched trace ending cut.reached cut.at all c.open.new.intake.buffer.now left opened at.some near kept found at.starts at.ends in
    let told = is ∙ ap (λ v. from_packet (opened_of cut.shift v packet) c.open.new.intake.buffer.now (after_packet trace ending (opened_of cut.shift v packet) left)) (sym c.in-Ok.ensures.alone) in
    search rules

pub returns-in-Err-clause-fetches : goal.returns-in-Err-clause-fetches
returns-in-Err-clause-fetches g c = λ tells.
    let cut = c.args.self.now in
    let trace = trace_form cut.shift cut.trace.now in
    let ending = g.S.Source.ending c.args.source.now in
    let fault = c.in-Err.fault in
    let all = g.S.Source.left c.args.source.now in
    let first = c.take_first.ensures.keeps.bytes in
    let bytes = c.take_first.new.intake.buffer.now in
    let middle = bytes ++ g.S.Source.left c.take_first.new.intake.source.now in
    let from_start : middle ≡ all = first.kept tells ∙ ap (λ l. l ++ all) c.requires.empty in
    let here = subst (λ e. OrNoMemory (λ f. open_at trace e cut.reached cut.at middle ≡ Err f) fault) (first.same_end tells) (c.in-Err.ensures.opens (first.tells tells)) in
    let near : cut.at ≤ longest_stream = search rules in
    let some = c.in_ok-take_first.ensures.some c.in-None.is in
    let longer = length-append bytes (g.S.Source.left c.take_first.new.intake.source.now) in
    let same = ap length from_start in
    not_fetched trace ending cut.reached cut.at all fault (omega (arith, some, longer, same)) near (subst (λ l. OrNoMemory (λ f. open_at trace ending cut.reached cut.at l ≡ Err f) fault) from_start here)

pub returns-in-Some-Failed-clause-fetches : goal.returns-in-Some-Failed-clause-fetches
returns-in-Some-Failed-clause-fetches g c = grind (arith, common_steps)
