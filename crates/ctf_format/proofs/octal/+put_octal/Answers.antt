use Rattle.std.proofs.Common.{◌≡◌, ◌≢◌, ◌/◌, length, arith}
use Rattle.ctf_format.proofs.DigitsLemmas.{room_for_front, room_for_last, last_written, more_written, length_last, length_more, low_glyph}
use Rattle.ctf_format.proofs.octal.+put_octal.Goals as goal

pub bounds-line-at : goal.bounds-line-at
bounds-line-at t c = room_for_last 8 c.args.number c.args.at (length c.args.line.now) (omega arith) c.requires.room

pub returns-then-front-eq0-clause-text : goal.returns-then-front-eq0-clause-text
returns-then-front-eq0-clause-text t c =
    let none : c.args.number / 8 ≡ 0 = omega arith in
    last_written c.args.line.now 8 c.args.number c.args.at _ none (room_for_last 8 c.args.number c.args.at (length c.args.line.now) none c.requires.room) (low_glyph c.args.number)

pub returns-then-front-eq0-clause-end : goal.returns-then-front-eq0-clause-end
returns-then-front-eq0-clause-end t c =
    let none : c.args.number / 8 ≡ 0 = omega arith in
    omega (arith, length_last 8 c.args.number none)

pub put_octal-to-requires : goal.put_octal-to-requires
put_octal-to-requires t c =
    let more : c.args.number / 8 ≢ 0 = λ none. omega arith in
    let room = room_for_front 8 c.args.number c.args.at (length c.args.line.now) (omega arith) (omega arith) more c.requires.room in
    (omega arith, omega arith)

pub bounds-line-to : goal.bounds-line-to
bounds-line-to t c =
    let more : c.args.number / 8 ≢ 0 = λ none. omega arith in
    let room = room_for_front 8 c.args.number c.args.at (length c.args.line.now) (omega arith) (omega arith) more c.requires.room in
    omega arith

pub returns-clause-text : goal.returns-clause-text
returns-clause-text t c =
    let more : c.args.number / 8 ≢ 0 = λ none. omega arith in
    let room = room_for_front 8 c.args.number c.args.at (length c.args.line.now) (omega arith) (omega arith) more c.requires.room in
    more_written c.put_octal-to.new.line c.args.line.now 8 c.args.number c.args.at c.put_octal-to.result _ (omega arith) (omega arith) more (omega arith) (low_glyph c.args.number) c.put_octal-to.ensures.text

pub returns-clause-end : goal.returns-clause-end
returns-clause-end t c =
    let more : c.args.number / 8 ≢ 0 = λ none. omega arith in
    omega (arith, length_more 8 c.args.number (omega arith) (omega arith) more)
