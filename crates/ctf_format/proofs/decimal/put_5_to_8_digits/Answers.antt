use Rattle.std.proofs.Common.{take, arith}
use Rattle.ctf_format.proofs.DecimalLemmas.{four_written}
use Rattle.ctf_format.proofs.decimal.put_5_to_8_digits.Goals as goal

pub returns-clause-text : goal.returns-clause-text
returns-clause-text c =
    four_written (take c.args.at c.args.line.now) (take c.put_up_to_4_digits-end.result c.put_up_to_4_digits-end.new.line) _ c.args.number c.requires.many (omega arith) c.put_up_to_4_digits-end.ensures.text (rw c.four_digits.ensures at c.put_word.ensures)
