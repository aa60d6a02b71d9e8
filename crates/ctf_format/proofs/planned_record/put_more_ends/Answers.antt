use Rattle.std.proofs.Common.{◌++◌, ◌∷◌, [], take, ap, sym, ◌∙◌, append_assoc}
use Rattle.ctf_class.specs.Records.{ends}
use Rattle.ctf_class.proofs.RecordsLemmas.{ends_more}
use Rattle.ctf_format.proofs.Chains.{of_ok}
use Rattle.ctf_format.proofs.planned_record.put_more_ends.Goals as goal

pub loop-i-preserved : goal.loop-i-preserved
loop-i-preserved c = record {
  put = record {
    text = (
        let l = c.loop-i in
        let before = take c.args.at c.args.buffer.now.items in
        (of_ok _ _ c.in_ok-text.ensures.value c.put_end.ensures).text ∙ ap (λ xs. xs ++ (32 ∷ 125 ∷ [])) l.invariant.put.text ∙ append_assoc before (ends l.i) (32 ∷ 125 ∷ []) ∙ ap (λ xs. before ++ xs) (sym (ends_more l.i))
        );
    held = (of_ok _ _ c.in_ok-text.ensures.value c.put_end.ensures).held;
  };
}
