use Rattle.std.proofs.Common.{take, subst, sym}
use Rattle.ctf_record_text.specs.Making.{Made}
use Rattle.ctf_packet.specs.Places.{record_there}
use Rattle.ctf_packet.specs.Views.{values_of}
use Rattle.ctf_record_text.proofs.Records.{text_told}
use Rattle.ctf_record_text.proofs.record.written_line.Goals as goal

pub returns-clause-makes : goal.returns-clause-makes
returns-clause-makes c = λ shift timed.
    let known = c.args.scopes.now in
    let at = c.args.at.now in
    let told = c.in_ok-told.told in
    let standing = c.in_ok-standing.standing in
    let items = c.put_by_plan.new.line.bytes.items in
    let puts = rw c.keep_short.ensures.part at c.in_ok-standing.ensures.puts in
    subst (λ t. Made at.packet.now.stream.now (record_there shift (values_of known) at) c.args.line.now.part known items c.with_text.result.record t) (sym c.with_text.ensures.text)
    (text_told shift at.packet.now known at.bytes.now c.args.line.now.part at.clock at.place told (take standing.end items) standing.place c.with_text.result.record (c.in_ok-told.ensures.tells shift timed) puts c.in_ok-standing.ensures.forward c.with_text.ensures.record)
