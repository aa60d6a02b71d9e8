use Rattle.std.proofs.Common.{◌≡◌, ◌+◌, ◌∷◌, ◌++◌, ◌∙◌, [], take, IsTrue, sym, ap, subst, append_assoc, rules}
use Rattle.ctf_class.specs.Names.{field_text}
use Rattle.ctf_class.specs.PlanBuilding.{IsMade}
use Rattle.std.specs.Prelude.{false}
use Rattle.ctf_class.specs.Records.{Slot, At, all_alone, first_at, pieces_slots}
use Rattle.ctf_class.proofs.RecordsLemmas.{alone_next, alone_more}
use Rattle.ctf_class.proofs.plan_builder.PlanBuilder.add_integers.Goals as goal

pub loop-i-preserved : goal.loop-i-preserved
loop-i-preserved c =
    let ms = c.args.members.now in
    let l = c.loop-i in
    let m = c.index-members-i.result in
    let at : At = first_at (123 ∷ 32 ∷ []) c.args.begin [] in
    let before = pieces_slots 0 at (all_alone (take l.i ms)) in
    let new = c.add_integer.new.self in
    let took : IsTrue c.in_ok-add_integer.field-0 = search rules in
    let one : c.one_bit-align.result ≡ 1 = search rules in
    record {
      few = c.in_ok-add_integer.ensures.few took;
      near = c.in_ok-add_integer.ensures.near took;
      branches = c.in_ok-add_integer.ensures.branches took ∙ l.invariant.branches;
      runs = c.in_ok-add_integer.ensures.runs took ∙ l.invariant.runs;
      comes = alone_next at ms l.i m c.loop-i-test.true c.index-members-i.is (ap (λ (a : At). a.known) l.invariant.comes) ∙ ap (λ a. record { lead = 44 ∷ 32 ∷ []; align = a; index = l.i + 1; known = [] }) (sym one);
      made = λ done made.
          let slot : Slot = record { lead = l.text.now ++ field_text m.name; align = l.align; index = l.i; known = []; kept = false; class = m.class } in
          let slots_are : (done ++ before) ++ slot ∷ [] ≡ done ++ pieces_slots 0 at (all_alone (take (l.i + 1) ms)) = append_assoc done before (slot ∷ []) ∙ ap (λ ss. done ++ ss) (sym (alone_more at ms l.i m l.text.now l.align l.i c.loop-i-test.true c.index-members-i.is l.invariant.comes)) in
          subst (λ ss. IsMade ss new) slots_are (c.in_ok-add_integer.ensures.made took (done ++ before) (l.invariant.made done made) []);
    }
