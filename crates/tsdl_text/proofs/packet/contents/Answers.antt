use Rattle.std.proofs.Common.{◌∙◌, ◌≡◌, [], Some, drop, sym, ap, subst}
use Rattle.std.proofs.lemmas.List.{take_rest}
use Rattle.std.proofs.lemmas.Result.{err_from_is_err_and}
use Rattle.tsdl_text.specs.Packets.{first_fault, uuid}
use Rattle.tsdl_text.specs.PacketReading.{BeginsPacket}
use Rattle.tsdl_text.proofs.PacketLemmas.{joined_none, joined_more, broken_after, faulty_front, refused_by, order_of-some}
use Rattle.tsdl_text.proofs.packet.contents.Goals as goal

pub returns-then-bytes-lt-HEADER_LEN : goal.returns-then-bytes-lt-HEADER_LEN
returns-then-bytes-lt-HEADER_LEN c =
    let bytes = c.args.bytes.now in
    broken_after c.args.order bytes [] 0 _ (order_of-some bytes c.args.order c.requires) (faulty_front c.args.order (uuid bytes) bytes c.if-bytes-lt-HEADER_LEN.true) (joined_none c.args.order bytes)

pub returns-in_err-content : goal.returns-in_err-content
returns-in_err-content c =
    let bytes = c.args.bytes.now in
    let p = err_from_is_err_and c.from_residual.result c.from_residual.ensures.1 in
    let fault = c.in_err-content.field-0.0 in
    let fails : first_fault c.args.order (uuid bytes) (drop c.loop-start.start bytes) ≡ Some fault = ap (first_fault c.args.order (uuid bytes)) (sym (take_rest bytes c.loop-start.start)) ∙ c.in_err-content.ensures in
    rw (p.1, p.2) (refused_by c.args.order bytes (drop c.loop-start.start bytes) fault fails (broken_after c.args.order bytes c.loop-start.text.items c.loop-start.start fault c.loop-start-test.true fails c.loop-start.invariant))

pub loop-start-preserved : goal.loop-start-preserved
loop-start-preserved c =
    let bytes = c.args.bytes.now in
    let found : BeginsPacket c.args.order (uuid bytes) (drop c.loop-start.start bytes) c.in_ok-content.content.now c.in_ok-content.len =
    subst (λ rest. BeginsPacket c.args.order (uuid bytes) rest c.in_ok-content.content.now c.in_ok-content.len) (take_rest bytes c.loop-start.start) c.in_ok-content.ensures in
    joined_more c.args.order bytes c.in_ok-content.content.now c.loop-start.text.items c.extend_from_slice.new.self.items c.loop-start.start c.in_ok-content.len found c.in_ok-extend_from_slice.ensures.items c.loop-start.invariant
