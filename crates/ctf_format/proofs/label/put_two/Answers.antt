use Rattle.std.proofs.Common.{◌≡◌, ◌++◌, ◌∷◌, [], length, take, ap, ◌∙◌, rules}
use Rattle.std.proofs.lemmas.List.{with_items_is}
use Rattle.ctf_class.specs.Labels.{label_at}
use Rattle.ctf_class.specs.Names.{label_text}
use Rattle.ctf_format.proofs.Chains.{put_after}
use Rattle.ctf_format.proofs.NamesLemmas.{two_written}
use Rattle.ctf_format.proofs.label.put_two.Goals as goal

pub returns : goal.returns
returns c =
    let labels = c.args.labels.now in
    let at = c.args.at in
    let before = take at c.args.buffer.now.items in
    let line = c.put_lead-begin.new.line in
    let size : length line ≡ c.with_room.new.buffer.len = search rules in
    let kept : take at c.as_mut_slice.result.now ≡ before = ap (take at) c.as_mut_slice.ensures.value ∙ c.in_ok-with_room.ensures.kept in
    let lead = ap (take c.put_lead-begin.result) (with_items_is c.with_room.new.buffer line size) ∙ (c.put_lead-begin.ensures.text ∙ ap (λ xs. xs ++ (40 ∷ 32 ∷ [])) kept) in
    let written = two_written before _ (take c.in_ok-one.one c.put_name.new.buffer.items) (label_text (label_at labels c.args.first).name) (label_text (label_at labels c.args.second).name) lead c.in_ok-one.ensures.put.text in
    put_after c.args.buffer.now c.put_name.new.buffer c.put_name-2.new.buffer at c.in_ok-one.one _ _ c.put_name-2.result written c.put_name-2.ensures.put
