use Rattle.std.proofs.Common.{ℕ, ◌∷◌, List, IfOk, take, sym, subst, ◌∙◌, arith}
use Rattle.std.proofs.Math.Facts.{to_z-of_z}
use Rattle.ctf_format.specs.Put.{IsPut}
use Rattle.ctf_format.proofs.NamesLemmas.{text_one, several_written}
use Rattle.ctf_format.proofs.label.put_several.Goals as goal

pub returns-in_default-clause-put : goal.returns-in_default-clause-put
returns-in_default-clause-put c =
    let none = rw (to_z-of_z c.ranges.number) at c.in_default.ensures.next in
    subst (λ (names : List ℕ). IfOk c.put_name.result (IsPut c.args.buffer.now c.args.at (40 ∷ 32 ∷ names) c.put_name.new.buffer)) (sym (text_one c.args.labels.now c.args.number c.args.first c.requires.first none)) c.put_name.ensures.put

pub returns-clause-put : goal.returns-clause-put
returns-clause-put c =
    let before = take c.args.at c.args.buffer.now.items in
    let two = take c.in_ok-two.two c.put_two.new.buffer.items in
    let others = take c.in_ok-others.others c.put_others.new.buffer.items in
    let second = rw (to_z-of_z c.ranges.number) at c.in-Some.ensures.next in
    let rest = rw (to_z-of_z c.ranges.number) at c.in_ok-others.ensures.text in
    let written = several_written c.args.labels.now c.args.number c.args.first c.in-Some.second before two others c.requires.first second c.in_ok-two.ensures.text rest in
    record {
      text = c.in_ok-with_room.ensures.kept ∙ (c.in_ok-end.ensures.text ∙ written);
      held = omega (arith, c.in_ok-with_room.ensures.room);
    }
