use Rattle.std.proofs.Common.{ℕ, ◌≡◌, ◌<◌, ◌+◌, ◌∙◌, ◌∷◌, ◌++◌, [], false, length, map, take, IfOk, IfSome, IsTrue, List, refl, sym, ap, subst, rules, arith}
use Rattle.std.proofs.Math.Seq.{take-length}
use Rattle.std.proofs.lemmas.List.{take_more}
use Rattle.ctf_class.specs.PlanBuilding.{AddsPiece, AddsPieces, IsBare, IsMade, IsNestedOf, at_of, moved_by, slot_of, with_branch, with_field, with_structure}
use Rattle.ctf_class.specs.Records.{At, Slot, AreEach, IsCount, IsElement, IsField, IsItem, IsPlanned, IsShown, ends, first_at, known_index, later_at, opened_lead}
use Rattle.ctf_class.specs.declared.class.Class.{Class}
use Rattle.ctf_class.specs.declared.class.Kind as kind
use Rattle.ctf_class.specs.declared.known.Move.TheVariants.{Inside, After}
use Rattle.ctf_class.specs.declared.plan_builder.Lead.{Lead}
use Rattle.ctf_class.specs.declared.plan_builder.PlanBuilder.{PlanBuilder}
use Rattle.ctf_class.specs.declared.record_plan.Branch.{Branch}
use Rattle.ctf_class.specs.declared.record_plan.InnerPlans.TheVariants as inner_plans
use Rattle.ctf_class.specs.declared.record_plan.PlannedField.{PlannedField}
use Rattle.ctf_class.specs.declared.record_plan.RecordPlan.{RecordPlan}
use Rattle.ctf_class.proofs.RecordsLemmas.{AddedTo, added_all, added_more, added_none, branch_made, element_added, element_made, field_added, index_some, index_zero, made_branch, made_field, nested_added, option_made, option_more, piece_alone, piece_inner}
use Rattle.ctf_class.proofs.plan_builder.PlanBuilder.+plan.Goals as goal
use Rattle.ctf_class.proofs.plan_builder.PlanBuilder.+plan.Goals.{add_members-then-self-eq0, add_members-else-self-eq0}

pub add_inner-returns-clause-made : goal.add_inner-returns-clause-made
add_inner-returns-clause-made t c = λ took done made.
    let lead = c.args.lead.now in
    let m = c.args.member.now in
    let ms = c.args.members.now in
    let old = c.args.self.now in
    let from = c.go.new.self in
    let mid = c.add_members.new.self in
    let to = c.go-2.new.self in
    let new = c.end_structure.new.self in
    let members : IsTrue c.in_ok-add_members.field-0 = search rules in
    let goes_in : from ≡ record old { trail = from.trail; known = map (moved_by Inside) old.known } = search rules in
    let comes_out : to ≡ record mid { trail = to.trail; known = map (moved_by (After lead.place)) mid.known } = search rules in
    let ended : new ≡ with_structure to (length ms) = search rules in
    let adds : IsMade done from → AddsPieces (first_at (opened_lead lead.text.now m.name) c.larger-begin.result from.known) ms done from mid = λ begun. subst (λ t. AddsPieces (first_at t c.larger-begin.result from.known) ms done from mid) c.in_ok-text.ensures (c.in_ok-add_members.ensures.made members done begun) in
    piece_inner lead.place (at_of lead old.known) m c.larger-begin.result ms done old from mid to new c.requires.is c.requires.some c.larger-begin.ensures refl goes_in adds comes_out ended made

pub add_member-returns-then-branch-clause-made : goal.add_member-returns-then-branch-clause-made
add_member-returns-then-branch-clause-made t c = λ _ done made.
    let took : IsTrue c.in_ok-add_integer.field-0 = search rules in
    let old = c.args.self.now in
    piece_alone c.args.lead.now old.known false c.args.member.now done old c.add_integer.new.self (c.in_ok-add_integer.ensures.count took) (c.in_ok-add_integer.ensures.ended took) (c.in_ok-add_integer.ensures.known took) (c.in_ok-add_integer.ensures.made took done made old.known)

pub add_member-returns-then-not-is_empty-clause-made : goal.add_member-returns-then-not-is_empty-clause-made
add_member-returns-then-not-is_empty-clause-made t c =
    let left : c.add_integer.new.self ≡ c.args.self.now = search rules in
    let Made : PlanBuilder → Type 0 = λ b. IfOk c.add_inner.result (λ took. IsTrue took → (done : List Slot) → IsMade done b → AddsPiece c.args.lead.now.place (at_of c.args.lead.now b.known) c.args.member.now done b c.add_inner.new.self) in
    subst Made left c.add_inner.ensures.made

pub add_member-returns-clause-made : goal.add_member-returns-clause-made
add_member-returns-clause-made t c =
    let left : c.add_integer.new.self ≡ c.args.self.now = search rules in
    let Made : PlanBuilder → Type 0 = λ b. IfOk c.add_shown.result (λ took. IsTrue took → (done : List Slot) → IsMade done b → AddsPiece c.args.lead.now.place (at_of c.args.lead.now b.known) c.args.member.now done b c.add_shown.new.self) in
    subst Made left c.add_shown.ensures.made

pub add_shown-returns-clause-made : goal.add_shown-returns-clause-made
add_shown-returns-clause-made t c = λ _ done made.
    let lead = c.args.lead.now in
    let m = c.args.member.now in
    let old = c.args.self.now in
    let s : Slot = slot_of lead old.known false m in
    let f : PlannedField = record { ready = c.in-Some.ready; align = lead.align; shown = c.in-Some-2.shown } in
    let is : IsField s f = record { kept = refl; align = refl; ready = search rules; shown = subst (λ o. IfSome o (IsShown lead.index m.class)) c.in-Some-2.is c.in_ok-shown.ensures } in
    let new = c.add_field.new.self in
    let is_new : new ≡ with_field old f = c.in_ok-add_field.ensures in
    piece_alone lead old.known false m done old new (ap (λ (b : PlanBuilder). b.count) is_new) (ap (λ (b : PlanBuilder). b.ended) is_new) (ap (λ (b : PlanBuilder). b.known) is_new) (subst (IsMade (done ++ s ∷ [])) (sym is_new) (made_field done s old f is made))

pub add_shown-returns-in_default-2-clause-made : goal.add_shown-returns-in_default-2-clause-made
add_shown-returns-in_default-2-clause-made t c = nested_added c.args.lead.now c.args.member.now c.in-Some.ready c.args.self.now c.add_nested.new.self c.add_nested.result (search rules) c.add_nested.ensures.count c.add_nested.ensures.ended c.add_nested.ensures.known c.add_nested.ensures.made

pub add_nested-returns-clause-made : goal.add_nested-returns-clause-made
add_nested-returns-clause-made t c = λ _ done s lead align class known kept made.
    let old = c.args.self.now in
    let b : Branch = record { runs = c.new.result; ready = c.args.ready; align = c.args.lead.now.align; nested = c.in-Some.nested; plans = inner_plans.Each c.in-Some.plans } in
    let same : c.add_branch.new.self ≡ with_branch old b = search rules in
    let is : IsNestedOf old.known false c.args.class.now c.in-Some.nested c.in-Some.plans = search rules in
    let bare : IsBare s b = branch_made s old.known false c.args.class.now c.in-Some.nested c.in-Some.plans b is class known kept c.new.ensures (sym align) (sym lead) refl refl in
    subst (IsMade (done ++ s ∷ [])) (sym same) (made_branch done s b old bare made)

pub option_plans-loop-option-preserved : goal.option_plans-loop-option-preserved
option_plans-loop-option-preserved t c =
    let l = c.loop-option in
    let ms = c.args.options.now in
    let m = c.option-item.result in
    let known = c.args.self.now.known in
    let inner = c.in_ok-builder.builder in
    let p = c.in_ok-finish.field-0 in
    let took : IsTrue c.in_ok-add_member.field-0 = search rules in
    let lead : Lead = c.alone.result in
    let at : At = at_of lead inner.known in
    let leads : at ≡ first_at (123 ∷ 32 ∷ []) 1 known = search rules in
    let adds : AddsPiece lead.place at m [] inner c.add_member.new.self = c.in_ok-add_member.ensures.made took [] c.in_ok-builder.ensures.made in
    let is = option_made lead.place at known m inner c.add_member.new.self p leads c.in_ok-builder.ensures.count adds c.in_ok-finish.ensures.fields c.in_ok-finish.ensures.count c.in_ok-finish.ensures.ended in
    let all = option_more known (take l.option-index ms) l.plans m p l.invariant is in
    let members : take l.option-index ms ++ m ∷ [] ≡ take (l.option-index + 1) ms = ap (λ x. take l.option-index ms ++ x ∷ []) c.option-item.is ∙ sym (take_more ms l.option-index _ c.loop-option-test.true) in
    (all.0, subst (λ ps. AreEach (IsPlanned all.0) known (take (l.option-index + 1) ms) ps) (sym c.in_ok-push.ensures.ok) (subst (λ xs. AreEach (IsPlanned all.0) known xs (l.plans ++ p ∷ [])) members all.1))

pub add_members-loop-i-init : goal.add_members-loop-i-init
add_members-loop-i-init t c = record {
  few = c.requires.few;
  near = c.requires.near;
  made = λ done made. added_none (first_at c.args.first c.args.begin c.args.self.now.known) c.args.members.now done c.args.self.now refl made;
}

pub add_members-returns-clause-made : goal.add_members-returns-clause-made
add_members-returns-clause-made t c = λ _ done made.
    let l = c.loop-i in
    let ms = c.args.members.now in
    let all : l.i ≡ length ms = omega (arith, c.loop-i-test.false, l.auto.i-end) in
    added_all (first_at c.args.first c.args.begin c.args.self.now.known) ms l.i (record { lead = l.text; align = l.align; index = l.index; known = l.self.known }) done c.args.self.now l.self (ap (λ i. take i ms) all ∙ take-length ms) (l.invariant.made done made)

pub add_members-loop-i-preserved : goal.add_members-loop-i-preserved
add_members-loop-i-preserved t c =
    let l = c.loop-i in
    let ms = c.args.members.now in
    let m = c.index-members-i.result in
    let first : At = first_at c.args.first c.args.begin c.args.self.now.known in
    let lead : Lead = record { text = c.as_slice.result; align = l.align; index = l.index; place = l.i } in
    let new = c.add_one.new.self in
    let took : IsTrue c.in_ok-add_one.field-0 = search rules in
    let one : c.one_bit-align.result ≡ 1 = search rules in
    let text : c.in_ok-text.text ≡ ends new.ended ++ (44 ∷ 32 ∷ []) = c.in_ok-text.ensures in
    let index : known_index new.ended (l.i + 1) ≡ c.if-self-eq0.index = elim c.if-self-eq0.branch [
      | add_members-then-self-eq0 w ↦ index_zero new.ended (l.i + 1) (search rules) ∙ sym w.index-is
      | add_members-else-self-eq0 w ↦ index_some new.ended (l.i + 1) (search (rules, arith)) ∙ sym w.index-is
    ] in
    let next : later_at new.ended (l.i + 1) new.known ≡ record { lead = c.in_ok-text.text; align = c.one_bit-align.result; index = c.if-self-eq0.index; known = new.known } = λ j. record { lead = sym text j; align = sym one j; index = index j; known = new.known } in
    record {
      few = search rules;
      near = search rules;
      made = λ done made.
          subst (λ a. AddedTo first ms (l.i + 1) a done c.args.self.now new) next
          (added_more first ms l.i m (at_of lead l.self.known) done c.args.self.now l.self new c.loop-i-test.true c.index-members-i.is (subst (λ x. AddedTo first ms l.i (record { lead = x; align = l.align; index = l.index; known = l.self.known }) done c.args.self.now l.self) (sym c.as_slice.ensures) (l.invariant.made done made)) (c.in_ok-add_one.ensures.made took));
    }

pub add_element-returns-in_default : goal.add_element-returns-in_default
add_element-returns-in_default t c = field_added c.args.class.now c.in_ok-ready.ready c.alone.result.align c.args.self.now c.add_nested.new.self c.add_nested.result (search rules) (search rules) c.add_nested.ensures.count c.add_nested.ensures.ended c.add_nested.ensures.made

pub add_element-returns : goal.add_element-returns
add_element-returns t c = λ ended made.
    let k = c.args.class.now in
    let ms = c.in-Structure.members in
    let old = c.args.self.now in
    let from = c.go.new.self in
    let took : IsTrue c.in_ok-add_members.field-0 = search rules in
    let goes_in : from ≡ record old { trail = from.trail; known = map (moved_by Inside) old.known } = search rules in
    let same : c.end_structure.new.self ≡ with_structure c.add_members.new.self (length ms) = search rules in
    let some : 0 < length ms = search (rules, arith) in
    let adds : IsMade [] from → AddsPieces (first_at c.in_ok-text.text k.align from.known) ms [] from c.add_members.new.self = λ begun. subst (λ xs. AddsPieces (first_at c.in_ok-text.text k.align from.known) xs [] from c.add_members.new.self) c.as_slice-members.ensures (c.in_ok-add_members.ensures.made took [] begun) in
    element_added k ms c.in_ok-text.text old from c.add_members.new.self c.end_structure.new.self (search rules) some (search rules) goes_in adds same made

pub array_of-returns : goal.array_of-returns
array_of-returns t c =
    let k = c.args.class.now in
    let elements : (depth : ℕ) × IsItem (IsPlanned depth) c.args.self.now.known c.in-Array.element c.in-Some-2.elements.shown c.in-Some-2.plans = search rules in
    let align : c.in-Some-2.elements.align ≡ c.in-Array.element.align = search rules in
    let is : k.kind ≡ kind.Array c.in-Array.length c.in-Array.element = search rules in
    let counts : IsCount c.args.self.now.known c.in-Array.length c.in-Some.count = search rules in
    (elements.0, λ s same leads kept. (kept, record { length = c.in-Array.length; element = c.in-Array.element; is = ap (λ (x : Class). x.kind) same ∙ is; counts = subst (λ rs. IsCount rs c.in-Array.length c.in-Some.count) (sym leads) counts; align = align; are = subst (λ rs. IsItem (IsPlanned elements.0) rs c.in-Array.element c.in-Some-2.elements.shown c.in-Some-2.plans) (sym leads) elements.1 }))

pub element_plan-returns : goal.element_plan-returns
element_plan-returns t c =
    let took : IsTrue c.in_ok-add_element.field-0 = search rules in
    let inner = c.in_ok-builder.builder in
    let is = element_made c.args.class.now inner c.add_element.new.self c.in_ok-finish.field-0 c.in_ok-builder.ensures.count (c.in_ok-add_element.ensures took c.in_ok-builder.ensures.made) c.in_ok-finish.ensures.fields c.in_ok-finish.ensures.count c.in_ok-finish.ensures.ended in
    (is.0, subst (λ rs. IsElement (IsPlanned is.0) rs c.args.class.now c.in_ok-finish.field-0) c.in_ok-builder.ensures.known is.1)

pub elements_of-returns-clause-is : goal.elements_of-returns-clause-is
elements_of-returns-clause-is t c =
    let p : RecordPlan = c.in-Some-2.plan in
    let is : (depth : ℕ) × IsElement (IsPlanned depth) c.args.self.now.known c.args.class.now p = search rules in
    let one : c.fitted.result ≡ p ∷ [] = search rules in
    (is.0, (p, one, is.1))
