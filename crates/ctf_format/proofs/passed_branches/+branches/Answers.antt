use Rattle.std.proofs.Common.{rules, None, ℕ, ◌≡◌, ◌+◌, ◌++◌, ◌∷◌, [], drop, subst, refl, sym, ap, ◌∙◌, arith, append_assoc, append-nil}
use Rattle.std.specs.Int.{next_multiple_of}
use Rattle.std.specs.List.{All}
use denote.Param.Weighed.{at_most}
use Rattle.ctf_class.specs.declared.record_plan.Branches as listed
use Rattle.ctf_class.specs.declared.record_plan.InnerPlans as each
use Rattle.std.proofs.Math.ListN.{drop_of_length-le}
use Rattle.std.proofs.lemmas.Option.{IfSome_then}
use Rattle.ctf_class.specs.Records.{AreBranches, AreRuns, IsNested, IsPlanned, ends, scope_slots}
use Rattle.ctf_format.specs.Branches.{PassesSlots}
use Rattle.ctf_format.specs.Kept.{PutsSlot, Within}
use Rattle.ctf_format.specs.Passing.{Passes, next_at}
use Rattle.ctf_decode.specs.Views.{form}
use Rattle.ctf_format.specs.Rows.{enclosed}
use Rattle.ctf_format.specs.Standing.{PutsWhere}
use Rattle.ctf_format.specs.Texts.{value_text}
use Rattle.ctf_format.specs.Records.{IsNear, after_value, reached}
use Rattle.ctf_format.specs.declared.planned_record.Reach.{Reach}
use Rattle.ctf_format.specs.declared.standing.MembersEnd.{MembersEnd}
use Rattle.ctf_format.specs.declared.standing.Last.TheVariants as lasts
use Rattle.ctf_format.proofs.BranchesLemmas.{PassesGoing, array_there, each_in, element_there, has_branch, has_branches, has_element, has_items, has_nested, item_plan, item_shown, kept_same, listed_in, nested_listed, option_fields, option_passes, option_plan, option_planned, passing_begins, passing_ends, passing_on, planned_listed, row_array, row_less, runs_pass, slot_passes, slots_pass, takes_branch, variant_there}
use Rattle.ctf_format.proofs.KeptLemmas.{first_kept}
use Rattle.ctf_format.proofs.NamesLemmas.{here}
use Rattle.ctf_format.proofs.RecordsLemmas.{runs_near, slots_longer}
use Rattle.ctf_format.proofs.passed_branches.+branches.Goals as goal

pub pass_branches-loop-branch-init : goal.pass_branches-loop-branch-init
pass_branches-loop-branch-init t c = record {
  within = c.requires.start;
  few = c.requires.few;
  passes = λ depth slots runs are. ([], slots, refl, are, λ before. (before, (refl, refl)));
}

pub pass_branches-loop-branch-preserved : goal.pass_branches-loop-branch-preserved
pass_branches-loop-branch-preserved t c =
    let bs = c.args.branches.now in
    let l = c.loop-branch in
    let k = l.branch-index in
    let b = c.branch-item.result in
    let to = c.in_ok-reach.reach in
    record {
      within = c.in_ok-reach.ensures.within;
      few = c.in_ok-reach.ensures.few;
      passes = λ depth slots runs are.
          let w = l.invariant.passes depth slots runs are in
          let first = takes_branch depth w.1 b (drop (k + 1) bs) runs (subst (λ xs. AreBranches (IsPlanned depth) w.1 xs runs) (here bs k b c.loop-branch-test.true c.branch-item.is) w.3) in
          let more = c.in_ok-reach.ensures.passes depth w.1 first.0 first.1 in
          (w.0 ++ more.0, first.0, w.2 ∙ ap (λ xs. w.0 ++ xs) more.1 ∙ sym (append_assoc w.0 more.0 first.0), first.2, slots_pass w.0 more.0 c.args.packet.now c.args.from l.reach to c.args.kept.now.numbers l.kept.numbers c.pass_branch.new.kept.numbers w.4 more.2);
    }

pub pass_branches-returns-clause-passes : goal.pass_branches-returns-clause-passes
pass_branches-returns-clause-passes t c = λ depth slots runs are.
    let l = c.loop-branch in
    let w = l.invariant.passes depth slots runs are in
    let all : drop l.branch-index c.args.branches.now ≡ [] = drop_of_length-le c.args.branches.now (omega (arith, c.loop-branch-test.false)) in
    (w.0, w.1, w.2, subst (λ xs. AreBranches (IsPlanned depth) w.1 xs runs) all w.3, w.4)

pub pass_branches-pass_branch-requires : goal.pass_branches-pass_branch-requires
pass_branches-pass_branch-requires t c =
    let l = c.loop-branch in
    (search (rules, arith, at_most), (has_branch c.args.branches.now l.branch-index c.branch-item.result c.requires.are c.loop-branch-test.true c.branch-item.is, (l.invariant.within, l.invariant.few)))

pub pass_branched-returns-then-are_empty-clause-passes : goal.pass_branched-returns-then-are_empty-clause-passes
pass_branched-returns-then-are_empty-clause-passes t c = λ depth slots planned.
    let p = c.args.plan.now in
    let packet = c.args.packet.now in
    let ns = c.args.kept.now.numbers in
    let ms = c.pass_branches.new.kept.numbers in
    let mid = c.in_ok-reach.reach in
    let same : c.as_slice.result.now ≡ listed_in p.branches = search rules in
    let all = planned_listed depth slots p planned in
    let branches = c.in_ok-reach.ensures.passes all.0 slots p.runs (subst (λ bs. AreBranches (IsPlanned all.0) slots bs p.runs) (sym same) all.1) in
    let none : branches.1 ≡ [] = search rules in
    let used : slots ≡ branches.0 = branches.2 ∙ ap (λ xs. branches.0 ++ xs) none ∙ append-nil branches.0 in
    subst (λ ss. PassesSlots ss packet c.args.from ns mid ms) (sym used) branches.4

pub pass_branched-pass_some-requires-clause-near : goal.pass_branched-pass_some-requires-clause-near
pass_branched-pass_some-requires-clause-near t c =
    let p = c.args.plan.now in
    let is = c.requires.is in
    let same : c.as_slice.result.now ≡ listed_in p.branches = search rules in
    let all = planned_listed is.depth is.slots p is.are in
    let branches = c.in_ok-reach.ensures.passes all.0 is.slots p.runs (subst (λ bs. AreBranches (IsPlanned all.0) is.slots bs p.runs) (sym same) all.1) in
    subst (All IsNear) (sym c.as_slice-runs.ensures) (runs_near branches.1 p.runs branches.3)

pub pass_branched-returns-clause-passes : goal.pass_branched-returns-clause-passes
pass_branched-returns-clause-passes t c = λ depth slots planned.
    let p = c.args.plan.now in
    let packet = c.args.packet.now in
    let ns = c.args.kept.now.numbers in
    let ms = c.pass_branches.new.kept.numbers in
    let mid = c.in_ok-reach.reach in
    let same : c.as_slice.result.now ≡ listed_in p.branches = search rules in
    let all = planned_listed depth slots p planned in
    let branches = c.in_ok-reach.ensures.passes all.0 slots p.runs (subst (λ bs. AreBranches (IsPlanned all.0) slots bs p.runs) (sym same) all.1) in
    IfSome_then c.pass_some.result (c.pass_some.ensures.passes branches.1 (subst (AreRuns branches.1) (sym c.as_slice-runs.ensures) branches.3)) (λ to passes.
    let runs = runs_pass branches.1 p.runs packet mid to ms branches.3 passes in
    subst (λ ss. PassesSlots ss packet c.args.from ns to ms) (sym branches.2) (slots_pass branches.0 branches.1 packet c.args.from mid to ns ms ms branches.4 runs))

pub pass_branch-pass_before-requires-clause-near : goal.pass_branch-pass_before-requires-clause-near
pass_branch-pass_before-requires-clause-near t c =
    let takes = c.requires.is.takes in
    subst (All IsNear) (sym c.as_slice.ensures) (runs_near takes.0 c.args.branch.now.runs takes.3)

pub pass_branch-returns-clause-passes : goal.pass_branch-returns-clause-passes
pass_branch-returns-clause-passes t c = λ depth slots others takes.
    let b = c.args.branch.now in
    let packet = c.args.packet.now in
    let used = takes.0 in
    let s = takes.1 in
    let is = takes.4 in
    let P = IsPlanned depth in
    let ns = c.args.kept.now.numbers in
    let ms = c.pass_nested.new.kept.numbers in
    let mid = c.in_ok-reach.reach in
    let inner = c.in_ok-inner.inner in
    let to : Reach = record { place = inner.place; more = mid.more + inner.more } in
    let plans : c.as_slice-2.result.now ≡ each_in b.plans = search rules in
    let nested = subst (IsNested P s b.nested) (sym plans) (nested_listed P s b.nested b.plans is.nested) in
    let begins : c.in_ok-place.place ≡ next_multiple_of mid.place s.align = c.in_ok-place.ensures.begin ∙ ap (next_multiple_of mid.place) is.align in
    let runs = runs_pass used b.runs packet c.args.from mid ns takes.3 (c.in_ok-reach.ensures.passes used (subst (AreRuns used) (sym c.as_slice.ensures) takes.3)) in
    let one : PassesSlots (s ∷ []) packet mid ns to ms = λ before. (let p = c.in_ok-inner.ensures.passes depth s nested mid.place mid.more begins before in (p.0, (reached to p.0, ms, p.1, (refl, refl)))) in
    (used ++ s ∷ [], takes.2 ∙ sym (append_assoc used (s ∷ []) others), slots_pass used (s ∷ []) packet c.args.from mid to ns ns ms runs one)

pub pass_nested-returns-in-Number-clause-passes : goal.pass_nested-returns-in-Number-clause-passes
pass_nested-returns-in-Number-clause-passes t c = λ depth s is.
    let so = subst (λ x. IsNested (IsPlanned depth) s x c.args.plans.now) c.in-Number.is is in
    c.pass_number.ensures.passes s so.0 so.1

pub pass_nested-returns-in-Label-clause-passes : goal.pass_nested-returns-in-Label-clause-passes
pass_nested-returns-in-Label-clause-passes t c = λ depth s is.
    let so = subst (λ x. IsNested (IsPlanned depth) s x c.args.plans.now) c.in-Label.is is in
    c.pass_label.ensures.passes s so.0 so.1

pub pass_nested-returns-in-Variant-clause-passes : goal.pass_nested-returns-in-Variant-clause-passes
pass_nested-returns-in-Variant-clause-passes t c = λ depth s is.
    let so = subst (λ x. IsNested (IsPlanned depth) s x c.args.plans.now) c.in-Variant.is is in
    c.pass_variant.ensures.passes depth s so.0 so.1

pub pass_nested-returns-in-Array-clause-passes : goal.pass_nested-returns-in-Array-clause-passes
pass_nested-returns-in-Array-clause-passes t c = λ depth s is.
    let so = subst (λ x. IsNested (IsPlanned depth) s x c.args.plans.now) c.in-Array.is is in
    c.pass_array.ensures.passes depth s so.0 so.1

pub pass_nested-returns-in-Text-clause-passes : goal.pass_nested-returns-in-Text-clause-passes
pass_nested-returns-in-Text-clause-passes t c = λ depth s is.
    let so = subst (λ x. IsNested (IsPlanned depth) s x c.args.plans.now) c.in-Text.is is in
    c.pass_text.ensures.passes s so.1 so.0 so.2 so.3

pub pass_variant-returns-clause-passes : goal.pass_variant-returns-clause-passes
pass_variant-returns-clause-passes t c = λ depth s kept is.
    let v = c.args.variant.now in
    let packet = c.args.packet.now in
    let place = c.args.place in
    let ns = c.args.kept.now.numbers in
    let chooses = c.in_ok-option.ensures in
    let tagged = sym c.number.ensures ∙ chooses.1 in
    let there = IfSome_then c.pass_option.result (c.pass_option.ensures.passes depth s.known is.options is.are) (λ to option.
    slot_passes s packet place to ns ns (λ line. (let o = option.3 line in (o.0, variant_there (IsPlanned depth) s v c.args.plans.now packet place c.in_ok-option.option chooses.0 option.0 to line o.0 ns kept is c.requires.start tagged chooses.2 option.1 option.2 o.1)))) in
    kept_same c.pass_option.result (λ xs to. (from more : ℕ) → place ≡ next_multiple_of from s.align → Passes (λ before after. PutsSlot s packet.bytes.now packet.end (after_value from more lasts.Unknown before) ns (after_value to.place (more + to.more) lasts.Unknown after) xs)) ns c.pass_option.new.kept.numbers c.pass_option.ensures.kept there

pub pass_array-returns-clause-passes : goal.pass_array-returns-clause-passes
pass_array-returns-clause-passes t c = λ depth s kept is.
    let a = c.args.array.now in
    let packet = c.args.packet.now in
    let place = c.args.place in
    let ns = c.args.kept.now.numbers in
    let there = IfSome_then c.pass_items.result (c.pass_items.ensures.passes depth s.known is.element is.align is.are) (λ to array.
    slot_passes s packet place to ns ns (λ line. (let o = array line in (o.0, array_there (IsPlanned depth) s a c.args.plans.now packet place c.in_ok-count.count to line o.0 ns kept is c.requires.start c.in_ok-count.ensures o.1)))) in
    kept_same c.pass_items.result (λ xs to. (from more : ℕ) → place ≡ next_multiple_of from s.align → Passes (λ before after. PutsSlot s packet.bytes.now packet.end (after_value from more lasts.Unknown before) ns (after_value to.place (more + to.more) lasts.Unknown after) xs)) ns c.pass_items.new.kept.numbers c.pass_items.ensures.kept there

pub pass_items-returns-clause-passes : goal.pass_items-returns-clause-passes
pass_items-returns-clause-passes t c = λ depth known k aligned are line.
    let e = c.in_ok-ends.ends in
    let count = c.args.items.count in
    let p = c.in_ok-ends.ensures.passes depth known k are line in
    let to : Reach = record { place = e.place; more = count + e.more } in
    let end : MembersEnd = record { place = e.place; text = 0; more = e.more } in
    (p.0, row_array (Within known c.args.kept.now.numbers) k count c.args.packet.now c.args.place c.in_ok-begin.begin (count + e.more) c.args.items.elements.now.align end to line p.0 aligned c.in_ok-begin.ensures.begin c.in_ok-begin.ensures.within refl refl refl p.1)

pub pass_element-returns-clause-passes : goal.pass_element-returns-clause-passes
pass_element-returns-clause-passes t c = λ depth known k is before.
    let p = c.args.plan.now in
    let packet = c.args.packet.now in
    let to = c.in_ok-inner.inner in
    let w = c.in_ok-inner.ensures.passes depth (scope_slots [] known k is.0) is.4 before in
    let after = w.0 ++ ends p.ended in
    let end : Reach = record { place = to.place; more = to.more + c.from.result } in
    let counted : end.more ≡ to.more + p.count = ap (λ x. to.more + x) c.from.ensures in
    (after, element_there depth known k p packet to end c.args.place c.args.kept.now.numbers c.pass_branched.new.kept.numbers before w.0 after is w.1 refl counted refl)

pub pass_element-returns-clause-kept : goal.pass_element-returns-clause-kept
pass_element-returns-clause-kept t c =
    let has = c.requires.is in
    let packet = c.args.packet.now in
    let w = c.in_ok-inner.ensures.passes has.depth (scope_slots [] has.known has.class has.is.0) has.is.4 [] in
    let longer = slots_longer packet.bytes.now packet.end (scope_slots [] has.known has.class has.is.0) (after_value c.args.place 0 lasts.Unknown []) (reached c.in_ok-inner.inner w.0) c.args.kept.now.numbers c.pass_branched.new.kept.numbers w.1 in
    c.forget.ensures ∙ first_kept c.args.kept.now.numbers longer.0 c.pass_branched.new.kept.numbers c.len-count.result c.len-count.ensures longer.1

pub pass_planned_row-loop-i-init : goal.pass_planned_row-loop-i-init
pass_planned_row-loop-i-init t c = record {
  within = c.requires.start;
  few = search (rules, arith);
  begun = λ none. refl;
  none = λ none. refl;
  kept = refl;
  going = λ depth known k is. passing_begins (Within known c.args.kept.now.numbers) k c.args.count c.args.packet.now c.args.place;
}

pub pass_planned_row-loop-i-preserved : goal.pass_planned_row-loop-i-preserved
pass_planned_row-loop-i-preserved t c =
    let l = c.loop-i in
    let next = c.in_ok-next.next in
    let ns = c.args.kept.now.numbers in
    record {
      within = c.in_ok-next.ensures.within;
      few = search (rules, arith);
      begun = λ none. absurd (omega (arith, none));
      none = λ none. absurd (omega (arith, none));
      kept = c.in_ok-next.ensures.kept ∙ l.invariant.kept;
      going = λ depth known k is. passing_on (Within known ns) k c.args.count c.args.packet.now c.args.place l.i l.at l.more next c.loop-i-test.true (l.invariant.going depth known k is) (subst (λ xs. Passes (λ before after. PutsWhere (Within known xs) (form k) (value_text k) c.args.packet.now.bytes.now c.args.packet.now.end l.at before (next_at next) after)) l.invariant.kept (c.in_ok-next.ensures.passes depth known k is));
    }

pub pass_planned_row-returns-clause-passes : goal.pass_planned_row-returns-clause-passes
pass_planned_row-returns-clause-passes t c = λ depth known k is.
    let l = c.loop-i in
    let packet = c.args.packet.now in
    let Where = Within known c.args.kept.now.numbers in
    let all : l.i ≡ c.args.count = omega (arith, c.loop-i-test.false, l.auto.i-end) in
    passing_ends Where k c.args.count packet c.args.place l.at l.more (λ none. l.invariant.begun (all ∙ none)) (λ none. l.invariant.none (all ∙ none)) (subst (λ i. PassesGoing Where k c.args.count packet c.args.place i l.at l.more) all (l.invariant.going depth known k is))

pub pass_option-pass_branched-requires : goal.pass_option-pass_branched-requires
pass_option-pass_branched-requires t c =
    (search (rules, arith, at_most), (option_fields c.args.plans.now c.args.option c.index-plans-option.result c.requires.are (search (rules, arith)) c.index-plans-option.is, (c.requires.start, search (rules, arith))))

pub pass_option-returns-clause-passes : goal.pass_option-returns-clause-passes
pass_option-returns-clause-passes t c = λ depth known options are.
    let p = c.index-plans-option.result in
    let found = option_plan (IsPlanned depth) known options c.args.plans.now c.args.option p are (search (rules, arith)) c.index-plans-option.is in
    let packet = c.args.packet.now in
    let place = c.args.place in
    let to = c.in_ok-inner.inner in
    let end : Reach = record { place = to.place; more = to.more + c.from.result + 1 } in
    let counted : end.more ≡ to.more + p.count + 1 = ap (λ k. to.more + k + 1) c.from.ensures in
    let fields = option_planned depth known found.0 p found.3 in
    (found.0, found.1, found.2, option_passes depth known found.0 p packet to end place c.args.kept.now.numbers c.pass_branched.new.kept.numbers found.3 (c.in_ok-inner.ensures.passes fields.depth fields.slots fields.are) counted refl)

pub pass_option-returns-clause-kept : goal.pass_option-returns-clause-kept
pass_option-returns-clause-kept t c =
    let is = option_fields c.args.plans.now c.args.option c.index-plans-option.result c.requires.are (search (rules, arith)) c.index-plans-option.is in
    let packet = c.args.packet.now in
    let w = c.in_ok-inner.ensures.passes is.depth is.slots is.are [] in
    let longer = slots_longer packet.bytes.now packet.end is.slots (after_value c.args.place 0 lasts.Unknown []) (reached c.in_ok-inner.inner w.0) c.args.kept.now.numbers c.pass_branched.new.kept.numbers w.1 in
    c.forget.ensures ∙ first_kept c.args.kept.now.numbers longer.0 c.pass_branched.new.kept.numbers c.len-count.result c.len-count.ensures longer.1

pub pass_row-pass_planned_row-requires : goal.pass_row-pass_planned_row-requires
pass_row-pass_planned_row-requires t c =
    (search (rules, arith, at_most), (has_element c.args.items.elements.now c.args.plans.now c.index-plans-0.result c.requires.are (search rules) c.index-plans-0.is, c.requires.start))

pub pass_row-returns-clause-passes : goal.pass_row-returns-clause-passes
pass_row-returns-clause-passes t c = λ depth known k are.
    let none : c.args.items.elements.now.shown ≡ None = search rules in
    c.pass_planned_row.ensures.passes depth known k (item_plan (IsPlanned depth) known k c.args.items.elements.now.shown c.args.plans.now c.index-plans-0.result are none c.index-plans-0.is)

pub pass_branched-pass_branches-requires : goal.pass_branched-pass_branches-requires
pass_branched-pass_branches-requires t c =
    (search (rules, arith, at_most, listed.the_lemmas), (has_branches c.args.plan.now c.as_slice.result.now c.requires.is (search rules), (c.requires.start, c.requires.few)))

pub pass_branch-pass_nested-requires : goal.pass_branch-pass_nested-requires
pass_branch-pass_nested-requires t c =
    (search (rules, arith, at_most, each.the_lemmas), (has_nested c.args.branch.now c.as_slice-2.result.now c.requires.is (search rules), c.in_ok-place.ensures.within))

pub pass_nested-pass_array-requires : goal.pass_nested-pass_array-requires
pass_nested-pass_array-requires t c =
    (search (rules, arith, at_most), (has_items c.args.nested.now c.in-Array.array c.args.plans.now c.requires.is c.in-Array.is, c.requires.start))

pub pass_row-returns-in-Some-clause-passes : goal.pass_row-returns-in-Some-clause-passes
pass_row-returns-in-Some-clause-passes t c = λ depth known k are.
    let is = item_shown (IsPlanned depth) known k c.args.items.elements.now.shown c.in-Some.shown c.args.plans.now are (search rules) in
    IfSome_then c.pass_shown_row.result (c.pass_shown_row.ensures.passes k is) (λ to passes before. (let p = passes before in (p.0, row_less (enclosed 91 93) known c.args.kept.now.numbers k c.args.items.count c.args.packet.now c.args.place before (record { place = to.place; text = 0; more = to.more }) p.0 p.1)))
