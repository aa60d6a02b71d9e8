use Rattle.std.proofs.Common.{◌≡◌, set, sym, ap, ◌∙◌, subst, add-one, arith}
use Rattle.ctf_stream.specs.Peeked.{told}
use Rattle.ctf_stream.specs.declared.peeked.Peeked.{Peeked}
use Rattle.ctf_merge.specs.Turns.{fault_at, turn_at}
use Rattle.ctf_merge.proofs.Lining.{lined_more, broken_first}
use Rattle.ctf_merge.proofs.merge.line_up_each.Goals as goal

pub returns-in-Some-clause-stands : goal.returns-in-Some-clause-stands
returns-in-Some-clause-stands g c =
    let r = c.index-readers-number.result in
    let told_is : c.ahead.result ≡ told r.ahead = cc in
    broken_first c.args.readers.now c.loop-number.number r c.in-Some.fault (omega arith) c.index-readers-number.is c.loop-number.invariant.sound
    (ap fault_at (sym told_is) ∙ sym c.line_up.ensures.fault ∙ c.in-Some.is)

pub loop-number-preserved : goal.loop-number-preserved
loop-number-preserved g c =
    let r = c.index-readers-number.result in
    let told_is : c.ahead.result ≡ told r.ahead = cc in
    let turns_is : c.line_up.new.turns ≡ set c.loop-number.turns c.loop-number.number (turn_at c.loop-number.number (told r.ahead)) =
    subst (λ (a : Peeked). c.line_up.new.turns ≡ set c.loop-number.turns c.loop-number.number (turn_at c.loop-number.number a)) told_is c.line_up.ensures.turns in
    rw add-one (lined_more c.args.readers.now c.loop-number.number r c.loop-number.turns c.line_up.new.turns (omega arith) c.index-readers-number.is
    c.loop-number.invariant turns_is (ap fault_at (sym told_is) ∙ sym c.line_up.ensures.fault ∙ c.in_default.is))
