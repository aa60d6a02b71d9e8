use Rattle.std.proofs.Common.{◌++◌, ap, ◌∙◌}
use Rattle.ctf_attributes.proofs.DottedLemmas.{put-more}
use Rattle.ctf_attributes.proofs.dots.put_dotted.Goals as goal

pub loop-word-preserved : goal.loop-word-preserved
loop-word-preserved c =
    let pushed = c.push.new.self in
    put-more c.args.words.now c.loop-word.word-index c.word-item.result c.args.text.now c.loop-word.text pushed c.extend_from_slice.new.self c.loop-word-test.true c.word-item.is c.loop-word.invariant c.in_ok-push.ensures.ok (c.in_ok-extend_from_slice.ensures.ok ∙ ap (λ w. pushed ++ w) c.as_slice.ensures)
