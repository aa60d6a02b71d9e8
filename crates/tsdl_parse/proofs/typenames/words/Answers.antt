use Rattle.std.proofs.Common.{sym, ◌∙◌}
use Rattle.tsdl_grammar.specs.Reading.{words_of}
use Rattle.tsdl_parse.proofs.Runs.{words_of_keep, words_of_skip}
use Rattle.tsdl_parse.proofs.typenames.words.Goals as goal
use Rattle.tsdl_parse.proofs.typenames.words.Goals.{then-is_kept+in_ok-from_slice+in_ok-push, else-is_kept}

pub loop-token-init : goal.loop-token-init
unfolding words_of
loop-token-init c = c.in_ok-found.ensures.items

pub loop-token-preserved : goal.loop-token-preserved
loop-token-preserved c =
    elim c.if-is_kept.branch [
      | then-is_kept+in_ok-from_slice+in_ok-push w ↦
          let e = words_of_keep c.args.tokens.now c.loop-token.token-index _ c.loop-token-test.true c.token-item.is (sym c.is_kept.ensures ∙ w.if-is_kept.true) in
          rw (w.found-is, w.in_ok-push.ensures.items, w.in_ok-from_slice.ensures, c.loop-token.invariant) (sym e)
      | else-is_kept w ↦
          let e = words_of_skip c.args.tokens.now c.loop-token.token-index _ c.loop-token-test.true c.token-item.is (sym c.is_kept.ensures ∙ w.if-is_kept.false) in
          rw (w.found-is, c.loop-token.invariant) (sym e)
    ]
