use Rattle.std.proofs.Common.{◌≡◌, ◌++◌, false, Option, refl, rules}
use Rattle.std.specs.List.{flat_map}
use Rattle.ctf_class.specs.HostAndName.{heading_text}
use Rattle.std.specs.Result.{is_err}
use Rattle.ctf_class.specs.Records.{scopes_of}
use Rattle.ctf_class.specs.declared.route.Scope.{Scope}
use Rattle.ctf_decode.specs.Values.{Val}
use Rattle.ctf_format.specs.Found.{SharesPacket}
use Rattle.ctf_format.specs.Kept.{BeginsWith}
use Rattle.ctf_format.specs.Lines.{if_shown}
use Rattle.ctf_format.proofs.LinesLemmas.{followed}
use Rattle.ctf_record_text.proofs.Scopes.{not_failed, planned_body}
use Rattle.ctf_record_text.proofs.record.end_by_plan.Goals as goal

pub pass_planned_record-requires-clause-plan : goal.pass_planned_record-requires-clause-plan
pass_planned_record-requires-clause-plan c =
    let stream = c.args.at.now.packet.now.stream.now in
    let event = c.args.told.head.event.now in
    (scopes_of stream.event_context event.context event.fields, c.requires.plan)

pub returns-clause-passes : goal.returns-clause-passes
returns-clause-passes c = λ part.
    let known = c.args.scopes.now in
    let fine : is_err c.begin.result ≡ false = search rules in
    let begins : (earlier : Scope → Option Val) → SharesPacket known earlier → BeginsWith c.args.told.head.plan.now.given c.begin.new.self.numbers earlier = not_failed c.begin.result fine c.begin.ensures in
    let stream = c.args.at.now.packet.now.stream.now in
    let event = c.args.told.head.event.now in
    let all = c.in_ok-all.all in
    let front = heading_text event.heading ++ flat_map followed (if_shown part) in
    let p = c.in_ok-all.ensures.passes stream.event_context event.context event.fields c.requires.plan front in
    (p.0, planned_body known c.args.told.head.plan.now.given c.begin.new.self.numbers stream event part c.args.at.now.bytes.now c.args.at.now.packet.now.content c.args.told.head.end c.args.told.spent all.place all.spent front p.0 refl begins p.1)
