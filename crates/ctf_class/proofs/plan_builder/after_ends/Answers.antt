use Rattle.std.proofs.Common.{◌++◌, ◌∷◌, [], ap, sym, ◌∙◌}
use Rattle.ctf_class.proofs.RecordsLemmas.{ends_more}
use Rattle.ctf_class.proofs.plan_builder.after_ends.Goals as goal

pub loop-preserved : goal.loop-preserved
loop-preserved c = record {
  written = c.in_ok-extend_from_slice.ensures.ok ∙ ap (λ xs. xs ++ (32 ∷ 125 ∷ [])) c.loop.invariant.written ∙ sym (ends_more c.loop.counter);
}
