use Rattle.std.proofs.Common.{◌∷◌, sym, ap, ◌∙◌}
use Rattle.ctf_meaning.specs.Integers.{after}
use Rattle.ctf_attributes.proofs.DottedLemmas.{dotted-found, dotted-missing}
use Rattle.ctf_attributes.proofs.dots.is_dotted.Goals as goal

pub returns-in-None : goal.returns-in-None
returns-in-None c = sym (c.loop-word.invariant ∙ dotted-missing c.args.words.now c.loop-word.word-index c.word-item.result c.loop-word.rest.now c.after_dot.result c.loop-word-test.true c.word-item.is (c.after_dot.ensures ∙ ap (λ w. after (46 ∷ w) c.loop-word.rest.now) c.as_slice.ensures) c.in-None.is)

pub loop-word-preserved : goal.loop-word-preserved
loop-word-preserved c = c.loop-word.invariant ∙ dotted-found c.args.words.now c.loop-word.word-index c.word-item.result c.loop-word.rest.now c.after_dot.result c.in-Some.more c.loop-word-test.true c.word-item.is (c.after_dot.ensures ∙ ap (λ w. after (46 ∷ w) c.loop-word.rest.now) c.as_slice.ensures) c.in-Some.is
