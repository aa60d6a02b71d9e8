use Rattle.std.specs.Option.{option_map}
use Rattle.std.proofs.Common.{◌≡◌, Err, Ok, ap, subst, sym, ◌∙◌, rules}
use Rattle.ctf_packet.specs.Classes.{trace_form, stream_form}
use Rattle.ctf_decode.specs.Views.{val}
use Rattle.ctf_packet.specs.Views.{values_of, opened_of}
use Rattle.ctf_packet.specs.Gives.{Exactly}
use Rattle.ctf_packet.specs.Packets.{open_at, placed}
use Rattle.ctf_fetch.specs.Fetching.{OrNoMemory}
use Rattle.ctf_fetch.specs.Openings.{TakesSized}
use Rattle.ctf_fetch.proofs.Sizing.{told_possible, told_alone, no_sizes, sizes_place, opens_placed, on_ok}
use Rattle.ctf_fetch.proofs.packet_start.PacketStart.open.Goals as goal

pub fill_sizes-requires-clause-possible : goal.fill_sizes-requires-clause-possible
fill_sizes-requires-clause-possible g c =
    let cut = c.args.self.now in
    let opening = c.in_ok-opening.opening in
    told_possible (trace_form cut.shift cut.trace.now) cut.reached cut.shift c.begin.new.scopes opening c.begin.new.intake.buffer.now opening.sizes c.in_ok-opening.ensures.asks

pub returns-in_err-sizes-clause-opens : goal.returns-in_err-sizes-clause-opens
returns-in_err-sizes-clause-opens g c = λ tells.
    let cut = c.args.self.now in
    let trace = trace_form cut.shift cut.trace.now in
    let opening = c.in_ok-opening.opening in
    let left = g.S.Source.left c.begin.new.intake.source.now in
    let after = g.S.Source.left c.fill_sizes.new.intake.source.now in
    let also = c.begin.ensures.keeps.bytes.tells tells in
    let ending = g.S.Source.ending c.args.intake.now.source.now in
    let told = no_sizes trace cut.reached cut.shift c.begin.new.scopes opening c.begin.new.intake.buffer.now ending cut.at left c.fill_sizes.new.intake.buffer.now after (c.fill_sizes.ensures.keeps.bytes.kept also) opening.sizes c.in_err-sizes.field-0.0 c.in_ok-opening.ensures.asks
    (subst (λ e. TakesSized e opening.begun.first c.fill_sizes.new.intake.buffer.now after opening.sizes (Err c.in_err-sizes.field-0.0)) (c.begin.ensures.keeps.bytes.same_end tells) (c.in_err-sizes.ensures.takes also)) in
    let e : c.from_residual-in_err-sizes.result ≡ Err c.in_err-sizes.field-0.0 = search rules in
    rw (e) (subst (λ l. OrNoMemory (λ f. open_at trace ending cut.reached cut.at l ≡ Err f) c.in_err-sizes.field-0.0) (c.begin.ensures.keeps.bytes.kept tells) told)

pub returns-clause-opens : goal.returns-clause-opens
returns-clause-opens g c = λ tells.
    let cut = c.args.self.now in
    let trace = trace_form cut.shift cut.trace.now in
    let opening = c.in_ok-opening.opening in
    let sizes = c.in_ok-sizes.sizes in
    let values = values_of c.begin.new.scopes in
    let left = g.S.Source.left c.begin.new.intake.source.now in
    let after = g.S.Source.left c.fill_sizes.new.intake.source.now in
    let also = c.begin.ensures.keeps.bytes.tells tells in
    let ending = g.S.Source.ending c.args.intake.now.source.now in
    let placed_is = sizes_place trace cut.reached cut.shift c.begin.new.scopes opening c.begin.new.intake.buffer.now ending cut.at left c.fill_sizes.new.intake.buffer.now after (c.fill_sizes.ensures.keeps.bytes.kept also) opening.sizes sizes c.in_ok-opening.ensures.asks
    (subst (λ e. TakesSized e opening.begun.first c.fill_sizes.new.intake.buffer.now after opening.sizes (Ok sizes)) (c.begin.ensures.keeps.bytes.same_end tells) (c.in_ok-sizes.ensures.takes also)) c.in_ok-sizes.ensures.packet in
    opens_placed cut.shift c.begin.new.scopes _ _ c.packet_of_sizes.result (ap (open_at trace ending cut.reached cut.at) (sym (c.begin.ensures.keeps.bytes.kept tells)) ∙ placed_is)
    (subst (λ r. Exactly (opened_of cut.shift values) c.packet_of_sizes.result (placed (stream_form cut.shift opening.begun.stream.now) r cut.at values opening.begun.first sizes)) c.as_ref.ensures.value
    (c.packet_of_sizes.ensures.exactly values (ap (option_map val) (sym c.get-context.ensures))))

pub returns-clause-alone : goal.returns-clause-alone
returns-clause-alone g c =
    let cut = c.args.self.now in
    let opening = c.in_ok-opening.opening in
    let alone = told_alone (trace_form cut.shift cut.trace.now) cut.reached cut.shift c.begin.new.scopes opening c.begin.new.intake.buffer.now opening.sizes c.in_ok-opening.ensures.asks in
    on_ok c.packet_of_sizes.result _ alone
