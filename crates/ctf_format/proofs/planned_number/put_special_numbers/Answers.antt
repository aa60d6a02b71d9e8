use Rattle.std.proofs.Common.{◌+◌, drop, ap, arith}
use Rattle.ctf_class.specs.Records.{numbers_room}
use Rattle.ctf_format.proofs.NamesLemmas.{here}
use Rattle.ctf_format.proofs.RunNumbersLemmas.{room_some}
use Rattle.ctf_format.proofs.planned_number.put_special_numbers.Goals as goal

pub put_any_number-text-requires-clause-room : goal.put_any_number-text-requires-clause-room
put_any_number-text-requires-clause-room c =
    let ns = c.args.numbers.now in
    let k = c.loop-number.number-index in
    let left = ap numbers_room (here ns k c.number-item.result c.loop-number-test.true c.number-item.is) in
    omega (arith, left, room_some (drop (k + 1) ns), c.loop-number.invariant.room)

pub returns-clause-near : goal.returns-clause-near
returns-clause-near c = omega (arith, room_some (drop c.loop-number.number-index c.args.numbers.now), c.loop-number.invariant.near)
