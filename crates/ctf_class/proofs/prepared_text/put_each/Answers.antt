use Rattle.std.proofs.Common.{arith}
use Rattle.ctf_class.proofs.WordsLemmas.{written-more}
use Rattle.ctf_class.proofs.prepared_text.put_each.Goals as goal

pub loop-word-preserved : goal.loop-word-preserved
loop-word-preserved c = record {
  counted = omega arith;
  written = written-more c.put_word.new.line c.args.line.now c.loop-word.line c.args.words.now c.args.at c.loop-word.to c.loop-word.word-index c.loop-word-test.true c.loop-word.invariant.written c.put_word.ensures;
}
