use Rattle.std.proofs.Common.{arith}
use Rattle.tsdl_text.proofs.PacketLemmas.{no_ends}
use Rattle.tsdl_text.proofs.packet.ends.Goals as goal
use Rattle.tsdl_text.proofs.packet.ends.Goals.{then-content_size-ne0-via-then-content_size-ne0, then-content_size-ne0-via-else-content_size-ne0+then-packet_size-ne0}
use Rattle.tsdl_text.proofs.packet.ends.Goals.{then-content_end-lt-HEADER_LEN-via-then-content_end-lt-HEADER_LEN, then-content_end-lt-HEADER_LEN-via-else-content_end-lt-HEADER_LEN+then-packet_end-content_end, then-content_end-lt-HEADER_LEN-via-else-content_end-lt-HEADER_LEN+else-packet_end-content_end+then-rest-packet_end}

pub returns-then-content_size-ne0 : goal.returns-then-content_size-ne0
returns-then-content_size-ne0 c =
    no_ends c.args.order c.args.rest.now c.word-content_size.result c.word-packet_size.result c.word-content_size.ensures c.word-packet_size.ensures
    (λ cw pw low mid high. elim c.then-content_size-ne0.branch [
      | then-content_size-ne0-via-then-content_size-ne0 w ↦ absurd (omega (arith, w.if-content_size-ne0.true))
      | then-content_size-ne0-via-else-content_size-ne0+then-packet_size-ne0 w ↦ absurd (omega (arith, w.if-packet_size-ne0.true))
    ])

pub returns-then-content_end-lt-HEADER_LEN : goal.returns-then-content_end-lt-HEADER_LEN
returns-then-content_end-lt-HEADER_LEN c =
    no_ends c.args.order c.args.rest.now c.word-content_size.result c.word-packet_size.result c.word-content_size.ensures c.word-packet_size.ensures
    (λ cw pw low mid high. elim c.then-content_end-lt-HEADER_LEN.branch [
      | then-content_end-lt-HEADER_LEN-via-then-content_end-lt-HEADER_LEN w ↦ absurd (omega (arith, w.if-content_end-lt-HEADER_LEN.true))
      | then-content_end-lt-HEADER_LEN-via-else-content_end-lt-HEADER_LEN+then-packet_end-content_end w ↦ absurd (omega (arith, w.if-packet_end-content_end.true))
      | then-content_end-lt-HEADER_LEN-via-else-content_end-lt-HEADER_LEN+else-packet_end-content_end+then-rest-packet_end w ↦ absurd (omega (arith, w.if-rest-packet_end.true))
    ])
