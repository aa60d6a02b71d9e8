use Rattle.std.proofs.Common.{◌≡◌, ◌+◌, take, sym, ap, ◌∙◌, arith}
use Rattle.ctf_format.proofs.DecimalLemmas.{eight_written}
use Rattle.ctf_format.proofs.decimal.put_last_8_digits.Goals as goal

pub returns-clause-text : goal.returns-clause-text
returns-clause-text c = λ before front.
    let at = c.args.at in
    let line = c.put_word-2.new.line in
    let ends : at + 4 + 4 ≡ at + 8 = omega arith in
    eight_written before (take at c.args.line.now) (take (at + 4) c.put_word.new.line) (take (at + 8) line) c.args.number c.requires.many (omega arith) front (rw c.four_digits.ensures at c.put_word.ensures)
    (ap (λ e. take e line) (sym ends) ∙ rw c.four_digits-2.ensures at c.put_word-2.ensures)
