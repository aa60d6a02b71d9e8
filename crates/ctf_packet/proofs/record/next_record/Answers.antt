use Rattle.std.proofs.Common.{◌∙◌}
use Rattle.ctf_packet.proofs.record.next_record.Goals as goal

pub returns-clause-packet : goal.returns-clause-packet
returns-clause-packet c = c.in_ok-end.ensures.packet ∙ c.in_ok-head.ensures.packet
