use Rattle.std.proofs.Common.{◌≡◌, false, Option, take, rules}
use Rattle.std.specs.Result.{is_err}
use Rattle.ctf_class.specs.Records.{scopes_of}
use Rattle.ctf_class.specs.declared.route.Scope.{Scope}
use Rattle.ctf_decode.specs.Values.{Val}
use Rattle.ctf_format.specs.Found.{SharesPacket}
use Rattle.ctf_format.specs.Kept.{BeginsWith}
use Rattle.ctf_format.proofs.Chains.{of_ok}
use Rattle.ctf_record_text.proofs.Scopes.{not_failed, planned_body}
use Rattle.ctf_record_text.proofs.record.put_by_plan.Goals as goal

pub put_planned_record-requires-clause-plan : goal.put_planned_record-requires-clause-plan
put_planned_record-requires-clause-plan c =
    let stream = c.args.at.now.packet.now.stream.now in
    let event = c.args.told.head.event.now in
    (scopes_of stream.event_context event.context event.fields, c.requires.plan)

pub returns-clause-puts : goal.returns-clause-puts
returns-clause-puts c =
    let known = c.args.scopes.now in
    let fine : is_err c.begin.result ≡ false = search rules in
    let begins : (earlier : Scope → Option Val) → SharesPacket known earlier → BeginsWith c.args.told.head.plan.now.given c.begin.new.self.numbers earlier = not_failed c.begin.result fine c.begin.ensures in
    let stream = c.args.at.now.packet.now.stream.now in
    let event = c.args.told.head.event.now in
    let all = c.in_ok-all.all in
    let front = take c.in_ok-front.front c.put_front.new.buffer.items in
    let text = take all.end c.put_planned_record.new.buffer.items in
    let front_is = (of_ok _ _ c.in_ok-front.ensures.value c.put_front.ensures).text in
    let front_so = rw c.as_slice-part.ensures at front_is in
    planned_body known c.args.told.head.plan.now.given c.begin.new.self.numbers stream event c.args.line.now.part c.args.at.now.bytes.now c.args.at.now.packet.now.content c.args.told.head.end c.args.told.spent all.place all.spent front text front_so
    begins (c.in_ok-all.ensures.puts stream.event_context event.context event.fields c.requires.plan)
