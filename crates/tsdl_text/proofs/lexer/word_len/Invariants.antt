use Rattle.std.proofs.Common.{◌-◌, length}
use Rattle.tsdl_text.specs.Bytes.{is_word_byte}
use Rattle.tsdl_text.proofs.Digits.{RunTo}
use Rattle.tsdl_text.proofs.lexer.word_len.Given as goal

abbrev pub invariant-loop-len : goal.invariant-loop-len
invariant-loop-len l = RunTo is_word_byte l.text l.len

abbrev pub decreases-loop-len : goal.decreases-loop-len
decreases-loop-len l = length l.text - l.len
