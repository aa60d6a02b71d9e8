use Rattle.std.proofs.Common.{length, get_or, arith}
use Rattle.ctf_fetch.proofs.Keeping.{keeps_on}
use Rattle.ctf_fetch.proofs.Parts.{text_asks, not_zero, none_more}
use Rattle.ctf_fetch.proofs.needed.take_text.Goals as goal

pub text_byte-requires-clause-asks : goal.text_byte-requires-clause-asks
text_byte-requires-clause-asks g c = λ all.
    let before = c.loop-next.invariant in
    text_asks c.args.place.now c.loop-next.intake.buffer.now c.loop-next.next before.few all before.after before.within before.none

pub loop-next-preserved : goal.loop-next-preserved
loop-next-preserved g c =
    let place = c.args.place.now in
    let before = c.loop-next.invariant in
    let bytes = c.loop-next.intake.buffer.now in
    let later = c.text_byte.new.intake.buffer.now in
    record {
      keeps = keeps_on before.keeps c.text_byte.ensures.keeps;
      few = c.text_byte.ensures.few;
      after = (let one = before.after in omega (arith, one));
      within = (let one = c.in_ok-text_byte.ensures.there in omega (arith, one));
      none = none_more place bytes later c.loop-next.next before.none c.text_byte.ensures.keeps.bytes.first before.within (not_zero (get_or later c.loop-next.next 0) c.in_ok-text_byte.field-0 c.in_ok-text_byte.ensures.byte c.if-branch-ne0.true);
      near = c.in_ok-text_byte.ensures.near (length c.args.intake.now.buffer.now) before.near;
    }
