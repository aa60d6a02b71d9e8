use Rattle.std.proofs.Common.{◌∙◌, sym, arith}
use Rattle.ctf_packet.proofs.Octets.{same_next, same_not, other_length, none_left}
use Rattle.ctf_packet.proofs.header.same_octets.Goals as goal

pub returns-then-elements-bytes : goal.returns-then-elements-bytes
returns-then-elements-bytes c = other_length c.args.elements.now c.args.bytes.now c.if-elements-bytes.true

pub returns-then-octet-from : goal.returns-then-octet-from
returns-then-octet-from c =
    same_not c.args.elements.now c.args.bytes.now c.loop-i.i c.index-elements-i.result c.loop-i-test.true (omega arith) c.index-elements-i.is (λ e. c.if-octet-from.true (c.octet.ensures ∙ (e ∙ sym c.from.ensures))) ∙ c.loop-i.invariant

pub loop-i-preserved : goal.loop-i-preserved
loop-i-preserved c =
    same_next c.args.elements.now c.args.bytes.now c.loop-i.i c.index-elements-i.result c.loop-i-test.true (omega arith) c.index-elements-i.is (sym c.octet.ensures ∙ (c.if-octet-from.false ∙ c.from.ensures)) ∙ c.loop-i.invariant

pub returns : goal.returns
returns c = none_left c.args.elements.now c.args.bytes.now c.loop-i.i (omega arith) (omega arith) ∙ c.loop-i.invariant
