use Rattle.std.proofs.Common.{rules, None, ◌≡◌, ◌<◌, ◌+◌, ◌++◌, ◌∷◌, [], take, drop, subst, refl, sym, ap, ◌∙◌, arith, append_assoc, append-nil}
use Rattle.std.specs.Int.{next_multiple_of}
use Rattle.std.specs.List.{All}
use denote.Param.Weighed.{at_most}
use Rattle.ctf_class.specs.declared.record_plan.Branches as listed
use Rattle.ctf_class.specs.declared.record_plan.InnerPlans as each
use Rattle.std.proofs.Math.ListN.{drop_of_length-le}
use Rattle.std.proofs.lemmas.Option.{IfSome_then}
use Rattle.ctf_class.specs.Records.{AreBranches, AreRuns, IsNested, IsPlanned, ends, scope_slots}
use Rattle.ctf_decode.specs.Views.{form}
use Rattle.ctf_format.specs.Branches.{IsSlotThere, come, ends_at}
use Rattle.ctf_format.specs.Kept.{PutsSlots, Within}
use Rattle.ctf_format.specs.Records.{IsNear, after_value, reached}
use Rattle.ctf_format.specs.Rows.{row}
use Rattle.ctf_format.specs.Standing.{PutsWhere}
use Rattle.ctf_format.specs.Texts.{element_text, value_text}
use Rattle.ctf_format.specs.declared.planned_record.Reach.{Reach}
use Rattle.ctf_format.specs.Passing.{next_at}
use Rattle.ctf_format.specs.declared.standing.Last.TheVariants as lasts
use Rattle.ctf_format.proofs.BranchesLemmas.{array_there, each_in, element_puts, element_there, has_branch, has_branches, has_element, has_items, has_near, has_nested, item_plan, kept_same, item_shown, listed_in, nested_listed, option_fields, option_plan, option_planned, option_there, planned_listed, planned_runs, row_array, row_less, takes_branch, variant_there}
use Rattle.ctf_format.proofs.KeptLemmas.{first_kept}
use Rattle.ctf_format.proofs.NamesLemmas.{here}
use Rattle.ctf_format.proofs.RecordsLemmas.{fields_slots, runs_near, runs_plain, slots_join, slots_longer}
use Rattle.ctf_format.proofs.ElementsLemmas as items
use Rattle.ctf_format.proofs.Chains.{of_ok}
use Rattle.ctf_format.proofs.StandingLemmas.{mark_next}
use Rattle.ctf_format.proofs.branches.+branches.Goals as goal

pub put_fields-put_last_runs-requires-clause-near : goal.put_fields-put_last_runs-requires-clause-near
put_fields-put_last_runs-requires-clause-near t c =
    let p = c.args.plan.now in
    let none : listed_in p.branches ≡ [] = search rules in
    let is = c.requires.is in
    subst (All IsNear) (sym c.as_slice.ensures) (runs_near is.slots p.runs (planned_runs is.depth is.slots p none is.are))

pub put_fields-returns-then-is_empty-clause-puts : goal.put_fields-returns-then-is_empty-clause-puts
put_fields-returns-then-is_empty-clause-puts t c = λ depth slots planned.
    let p = c.args.plan.now in
    let packet = c.args.packet.now in
    let none : listed_in p.branches ≡ [] = search rules in
    let are = planned_runs depth slots p none planned in
    let from = come c.args.from (take c.args.from.text c.args.buffer.now.items) in
    IfSome_then c.put_last_runs.result (c.put_last_runs.ensures.puts slots (subst (AreRuns slots) (sym c.as_slice.ensures) are)) (λ end puts. (puts.0, fields_slots packet.bytes.now packet.end slots from (come end puts.0) c.args.kept.now.numbers (runs_plain slots p.runs are) puts.1, puts.2))

pub put_option-returns-clause-puts : goal.put_option-returns-clause-puts
put_option-returns-clause-puts t c = λ depth known options are.
    let p = c.index-plans-option.result in
    let found = option_plan (IsPlanned depth) known options c.args.plans.now c.args.option p are (search (rules, arith)) c.index-plans-option.is in
    let packet = c.args.from.packet.now in
    let place = c.args.from.place in
    let ends_so = c.in_ok-ends.ends in
    let to : Reach = record { place = ends_so.place; more = ends_so.more } in
    let before = take c.args.from.text c.args.buffer.now.items in
    let after = take c.in_ok-text.text c.put_more_ends.new.buffer.items in
    let end : Reach = record { place = to.place; more = to.more + c.from.result + 1 } in
    let counted : end.more ≡ to.more + p.count + 1 = ap (λ k. to.more + k + 1) c.from.ensures in
    let fields = option_planned depth known found.0 p found.3 in
    let w = c.in_ok-ends.ensures.puts fields.depth fields.slots fields.are in
    let wrote = c.in_ok-text.ensures.text ∙ ap (λ xs. xs ++ ends p.ended) w.2 in
    let from : come c.first.result (take c.first.result.text c.args.buffer.now.items) ≡ after_value place 0 lasts.Unknown before = search rules in
    let puts = subst (λ r. PutsSlots fields.slots packet.bytes.now packet.end r c.args.kept.now.numbers (reached to w.0) c.put_fields.new.kept.numbers) from w.1 in
    (found.0, found.1, found.2, option_there depth known found.0 p packet to end place c.args.kept.now.numbers c.put_fields.new.kept.numbers before w.0 after found.3 puts wrote counted refl)

pub put_option-returns-clause-kept : goal.put_option-returns-clause-kept
put_option-returns-clause-kept t c =
    let is = option_fields c.args.plans.now c.args.option c.index-plans-option.result c.requires.are (search (rules, arith)) c.index-plans-option.is in
    let packet = c.args.from.packet.now in
    let w = c.in_ok-ends.ensures.puts is.depth is.slots is.are in
    let longer = slots_longer packet.bytes.now packet.end is.slots (come c.first.result (take c.first.result.text c.args.buffer.now.items)) (come c.in_ok-ends.ends w.0) c.args.kept.now.numbers c.put_fields.new.kept.numbers w.1 in
    c.forget.ensures ∙ first_kept c.args.kept.now.numbers longer.0 c.put_fields.new.kept.numbers c.len-count.result c.len-count.ensures longer.1

pub put_branch-returns-clause-puts : goal.put_branch-returns-clause-puts
put_branch-returns-clause-puts t c = λ depth slots others takes.
    let b = c.args.branch.now in
    let packet = c.args.packet.now in
    let bytes = packet.bytes.now in
    let used = takes.0 in
    let s = takes.1 in
    let is = takes.4 in
    let P = IsPlanned depth in
    let mid = c.in_ok-mid.mid in
    let n = c.in_ok-next.next in
    let ns = c.args.kept.now.numbers in
    let ms = c.put_nested.new.kept.numbers in
    let first = take c.args.from.text c.args.buffer.now.items in
    let second = take mid.text c.put_runs_before.new.buffer.items in
    let line = take c.in_ok-text.text c.put_prepared.new.buffer.items in
    let after = take n.text c.put_nested.new.buffer.items in
    let plans : c.as_slice-2.result.now ≡ each_in b.plans = search rules in
    let nested = subst (IsNested P s b.nested) (sym plans) (nested_listed P s b.nested b.plans is.nested) in
    let runs = fields_slots bytes packet.end used (come c.args.from first) (come mid second) ns (runs_plain used b.runs takes.3) (c.in_ok-mid.ensures.puts used (subst (AreRuns used) (sym c.as_slice.ensures) takes.3)) in
    let begins : c.in_ok-place.place ≡ next_multiple_of mid.place s.align = c.in_ok-place.ensures.begin ∙ ap (next_multiple_of mid.place) is.align in
    let wrote : line ≡ second ++ s.lead = c.in_ok-text.ensures.text ∙ ap (λ xs. second ++ xs) is.ready in
    let there = c.in_ok-next.ensures.puts depth s nested mid.place mid.more second begins wrote in
    let to = after_value n.place (mid.more + n.more) lasts.Unknown after in
    (used ++ s ∷ [], takes.2 ∙ sym (append_assoc used (s ∷ []) others), slots_join bytes packet.end used (s ∷ []) (come c.args.from first) (come mid second) to ns ns ms runs (to, ms, there, (refl, refl)))

pub put_nested-returns-in-Number-clause-puts : goal.put_nested-returns-in-Number-clause-puts
put_nested-returns-in-Number-clause-puts t c = λ depth s is.
    let so = subst (λ x. IsNested (IsPlanned depth) s x c.args.plans.now) c.in-Number.is is in
    c.put_number_kept.ensures.puts s so.0 so.1

pub put_nested-returns-in-Label-clause-puts : goal.put_nested-returns-in-Label-clause-puts
put_nested-returns-in-Label-clause-puts t c = λ depth s is.
    let so = subst (λ x. IsNested (IsPlanned depth) s x c.args.plans.now) c.in-Label.is is in
    c.put_label_kept.ensures.puts s so.0 so.1

pub put_nested-returns-in-Variant-clause-puts : goal.put_nested-returns-in-Variant-clause-puts
put_nested-returns-in-Variant-clause-puts t c = λ depth s is.
    let so = subst (λ x. IsNested (IsPlanned depth) s x c.args.plans.now) c.in-Variant.is is in
    c.put_variant.ensures.puts depth s so.0 so.1

pub put_nested-returns-in-Array-clause-puts : goal.put_nested-returns-in-Array-clause-puts
put_nested-returns-in-Array-clause-puts t c = λ depth s is.
    let so = subst (λ x. IsNested (IsPlanned depth) s x c.args.plans.now) c.in-Array.is is in
    c.put_counted.ensures.puts depth s so.0 so.1

pub put_nested-returns-in-Text-clause-puts : goal.put_nested-returns-in-Text-clause-puts
put_nested-returns-in-Text-clause-puts t c = λ depth s is.
    let so = subst (λ x. IsNested (IsPlanned depth) s x c.args.plans.now) c.in-Text.is is in
    c.put_text_kept.ensures.puts s so.1 so.0 so.2 so.3

pub put_variant-returns-clause-puts : goal.put_variant-returns-clause-puts
put_variant-returns-clause-puts t c = λ depth s kept is.
    let v = c.args.variant.now in
    let packet = c.args.from.packet.now in
    let ns = c.args.kept.now.numbers in
    let chooses = c.in_ok-option.ensures in
    let line = take c.args.from.text c.args.buffer.now.items in
    let tagged = sym c.number.ensures ∙ chooses.1 in
    let there = IfSome_then c.put_option.result (c.put_option.ensures.puts depth s.known is.options is.are) (λ n option.
    variant_there (IsPlanned depth) s v c.args.plans.now packet c.args.from.place c.in_ok-option.option chooses.0 option.0 (ends_at n) line (take n.text c.put_option.new.buffer.items) ns kept is c.requires.within.content tagged chooses.2 option.1 option.2 option.3) in
    kept_same c.put_option.result (λ xs n. IsSlotThere s packet c.args.from.place (ends_at n) line ns (take n.text c.put_option.new.buffer.items) xs) ns c.put_option.new.kept.numbers c.put_option.ensures.kept there

pub put_counted-returns-clause-puts : goal.put_counted-returns-clause-puts
put_counted-returns-clause-puts t c = λ depth s kept is.
    let a = c.args.array.now in
    let packet = c.args.from.packet.now in
    let place = c.args.from.place in
    let ns = c.args.kept.now.numbers in
    let line = take c.args.from.text c.args.buffer.now.items in
    let items = c.put_items.new.buffer.items in
    let there = IfSome_then c.put_items.result (c.put_items.ensures.puts depth s.known is.element is.align is.are) (λ n array.
    array_there (IsPlanned depth) s a c.args.plans.now packet place c.in_ok-count.count (ends_at n) line (take n.text items) ns kept is c.requires.within.content c.in_ok-count.ensures array) in
    kept_same c.put_items.result (λ xs n. IsSlotThere s packet place (ends_at n) line ns (take n.text items) xs) ns c.put_items.new.kept.numbers c.put_items.ensures.kept there

pub put_items-returns-clause-puts : goal.put_items-returns-clause-puts
put_items-returns-clause-puts t c = λ depth known k aligned are.
    let e = c.in_ok-ends.ends in
    let count = c.args.items.count in
    let line = take c.args.from.text c.args.buffer.now.items in
    let to : Reach = record { place = e.place; more = count + e.more } in
    row_array (Within known c.args.kept.now.numbers) k count c.args.from.packet.now c.args.from.place c.in_ok-place.place (count + e.more) c.args.items.elements.now.align e to line (take e.text c.put_bracketed.new.buffer.items) aligned c.in_ok-place.ensures.begin c.in_ok-place.ensures.within refl refl refl (c.in_ok-ends.ensures.puts depth known k are)

pub put_bracketed-returns-clause-puts : goal.put_bracketed-returns-clause-puts
put_bracketed-returns-clause-puts t c = λ depth known k are.
    let packet = c.args.from.packet.now in
    let e = c.in_ok-ends.ends in
    let some : 0 < c.args.items.count = search (rules, arith) in
    items.closed (Within known c.args.kept.now.numbers) packet.bytes.now packet.end (form k) (value_text k) c.args.items.count c.args.from.place (take c.args.from.text c.args.buffer.now.items) e c.in_ok-text-2.text (take e.text c.put_row.new.buffer.items) (take c.in_ok-text-2.text c.put_end.new.buffer.items) some (of_ok _ _ c.in_ok-text-2.ensures.value c.put_end.ensures).text (c.in_ok-ends.ensures.puts depth known k are)

pub put_branches-loop-branch-preserved : goal.put_branches-loop-branch-preserved
put_branches-loop-branch-preserved t c =
    let packet = c.args.packet.now in
    let bs = c.args.branches.now in
    let l = c.loop-branch in
    let k = l.branch-index in
    let b = c.branch-item.result in
    let before = take c.args.from.text c.args.buffer.now.items in
    let line = take l.at.text l.buffer.items in
    let to = c.in_ok-at.at in
    let after = take to.text c.put_branch.new.buffer.items in
    record {
      within = c.in_ok-at.ensures.within;
      few = c.in_ok-at.ensures.few;
      puts = λ depth slots runs are.
          let w = l.invariant.puts depth slots runs are in
          let first = takes_branch depth w.1 b (drop (k + 1) bs) runs (subst (λ xs. AreBranches (IsPlanned depth) w.1 xs runs) (here bs k b c.loop-branch-test.true c.branch-item.is) w.3) in
          let more = c.in_ok-at.ensures.puts depth w.1 first.0 first.1 in
          (w.0 ++ more.0, first.0, w.2 ∙ ap (λ xs. w.0 ++ xs) more.1 ∙ sym (append_assoc w.0 more.0 first.0), first.2, slots_join packet.bytes.now packet.end w.0 more.0 (come c.args.from before) (come l.at line) (come to after) c.args.kept.now.numbers l.kept.numbers c.put_branch.new.kept.numbers w.4 more.2);
    }

pub put_branches-returns-clause-puts : goal.put_branches-returns-clause-puts
put_branches-returns-clause-puts t c = λ depth slots runs are.
    let l = c.loop-branch in
    let w = l.invariant.puts depth slots runs are in
    let all : drop l.branch-index c.args.branches.now ≡ [] = drop_of_length-le c.args.branches.now (omega (arith, c.loop-branch-test.false)) in
    (w.0, w.1, w.2, subst (λ xs. AreBranches (IsPlanned depth) w.1 xs runs) all w.3, w.4)

pub put_branched-returns-then-are_empty-clause-puts : goal.put_branched-returns-then-are_empty-clause-puts
put_branched-returns-then-are_empty-clause-puts t c = λ depth slots planned.
    let p = c.args.plan.now in
    let packet = c.args.packet.now in
    let ns = c.args.kept.now.numbers in
    let ms = c.put_branches.new.kept.numbers in
    let same : c.as_slice.result.now ≡ listed_in p.branches = search rules in
    let all = planned_listed depth slots p planned in
    let branches = c.in_ok-mid.ensures.puts all.0 slots p.runs (subst (λ bs. AreBranches (IsPlanned all.0) slots bs p.runs) (sym same) all.1) in
    let from = come c.args.from (take c.args.from.text c.args.buffer.now.items) in
    let line = take c.in_ok-mid.mid.text c.put_branches.new.buffer.items in
    let none : branches.1 ≡ [] = search rules in
    let used : slots ≡ branches.0 = branches.2 ∙ ap (λ xs. branches.0 ++ xs) none ∙ append-nil branches.0 in
    (line, subst (λ ss. PutsSlots ss packet.bytes.now packet.end from ns (come c.in_ok-mid.mid line) ms) (sym used) branches.4, (of_ok _ _ c.in_ok-text.ensures.value c.put_end.ensures).text)

pub put_branched-put_last_runs-requires-clause-near : goal.put_branched-put_last_runs-requires-clause-near
put_branched-put_last_runs-requires-clause-near t c =
    let p = c.args.plan.now in
    let is = c.requires.is in
    let same : c.as_slice.result.now ≡ listed_in p.branches = search rules in
    let all = planned_listed is.depth is.slots p is.are in
    let branches = c.in_ok-mid.ensures.puts all.0 is.slots p.runs (subst (λ bs. AreBranches (IsPlanned all.0) is.slots bs p.runs) (sym same) all.1) in
    subst (All IsNear) (sym c.as_slice-runs.ensures) (runs_near branches.1 p.runs branches.3)

pub put_branched-returns-clause-puts : goal.put_branched-returns-clause-puts
put_branched-returns-clause-puts t c = λ depth slots planned.
    let p = c.args.plan.now in
    let packet = c.args.packet.now in
    let ns = c.args.kept.now.numbers in
    let ms = c.put_branches.new.kept.numbers in
    let same : c.as_slice.result.now ≡ listed_in p.branches = search rules in
    let all = planned_listed depth slots p planned in
    let branches = c.in_ok-mid.ensures.puts all.0 slots p.runs (subst (λ bs. AreBranches (IsPlanned all.0) slots bs p.runs) (sym same) all.1) in
    let from = come c.args.from (take c.args.from.text c.args.buffer.now.items) in
    let mid = come c.in_ok-mid.mid (take c.in_ok-mid.mid.text c.put_branches.new.buffer.items) in
    IfSome_then c.put_last_runs.result (c.put_last_runs.ensures.puts branches.1 (subst (AreRuns branches.1) (sym c.as_slice-runs.ensures) branches.3)) (λ end more.
    let to = come end more.0 in
    let runs = fields_slots packet.bytes.now packet.end branches.1 mid to ms (runs_plain branches.1 p.runs branches.3) more.1 in
    (more.0, subst (λ ss. PutsSlots ss packet.bytes.now packet.end from ns to ms) (sym branches.2) (slots_join packet.bytes.now packet.end branches.0 branches.1 from mid to ns ms ms branches.4 runs), more.2))

pub put_option-put_fields-requires : goal.put_option-put_fields-requires
put_option-put_fields-requires t c =
    (search (rules, arith, at_most), (option_fields c.args.plans.now c.args.option c.index-plans-option.result c.requires.are (search (rules, arith)) c.index-plans-option.is, (search rules, search (rules, arith))))

pub put_branches-put_branch-requires : goal.put_branches-put_branch-requires
put_branches-put_branch-requires t c =
    let l = c.loop-branch in
    (search (rules, arith, at_most), (has_branch c.args.branches.now l.branch-index c.branch-item.result c.requires.are c.loop-branch-test.true c.branch-item.is, (l.invariant.within, l.invariant.few)))

pub put_row-put_shown_row-requires-clause-near : goal.put_row-put_shown_row-requires-clause-near
put_row-put_shown_row-requires-clause-near t c = has_near c.args.items.elements.now c.in-Some.shown c.args.plans.now c.requires.are (search rules)

pub put_row-put_planned_row-requires : goal.put_row-put_planned_row-requires
put_row-put_planned_row-requires t c =
    (search (rules, arith, at_most), (has_element c.args.items.elements.now c.args.plans.now c.index-plans-0.result c.requires.are (search rules) c.index-plans-0.is, c.requires.within))

pub put_row-returns-clause-puts : goal.put_row-returns-clause-puts
put_row-returns-clause-puts t c = λ depth known k are.
    let none : c.args.items.elements.now.shown ≡ None = search rules in
    c.put_planned_row.ensures.puts depth known k (item_plan (IsPlanned depth) known k c.args.items.elements.now.shown c.args.plans.now c.index-plans-0.result are none c.index-plans-0.is)

pub put_branched-put_branches-requires : goal.put_branched-put_branches-requires
put_branched-put_branches-requires t c =
    (search (rules, arith, at_most, listed.the_lemmas), (has_branches c.args.plan.now c.as_slice.result.now c.requires.is (search rules), (c.requires.within, c.requires.few)))

pub put_branch-put_nested-requires : goal.put_branch-put_nested-requires
put_branch-put_nested-requires t c =
    (search (rules, arith, at_most, each.the_lemmas), (has_nested c.args.branch.now c.as_slice-2.result.now c.requires.is (search rules), search rules))

pub put_nested-put_counted-requires : goal.put_nested-put_counted-requires
put_nested-put_counted-requires t c =
    (search (rules, arith, at_most), (has_items c.args.nested.now c.in-Array.array c.args.plans.now c.requires.is c.in-Array.is, c.requires.within))

pub put_row-returns-in-Some-clause-puts : goal.put_row-returns-in-Some-clause-puts
put_row-returns-in-Some-clause-puts t c = λ depth known k are.
    let is = item_shown (IsPlanned depth) known k c.args.items.elements.now.shown c.in-Some.shown c.args.plans.now are (search rules) in
    let line = take c.args.from.text c.args.buffer.now.items in
    IfSome_then c.put_shown_row.result (c.put_shown_row.ensures.puts k is) (λ end puts. row_less (row 91) known c.args.kept.now.numbers k c.args.items.count c.args.from.packet.now c.args.from.place line end (take end.text c.put_shown_row.new.buffer.items) puts)

pub put_element-returns-clause-puts : goal.put_element-returns-clause-puts
put_element-returns-clause-puts t c = λ depth known k is.
    let p = c.args.plan.now in
    let packet = c.args.from.packet.now in
    let place = c.args.from.place in
    let ns = c.args.kept.now.numbers in
    let ends_so = c.in_ok-ends.ends in
    let to : Reach = record { place = ends_so.place; more = ends_so.more } in
    let from = take c.args.from.text c.args.buffer.now.items in
    let line = take c.in_ok-text.text c.put_index.new.buffer.items in
    let after = take c.in_ok-text-2.text c.put_ends.new.buffer.items in
    let w = c.in_ok-ends.ensures.puts depth (scope_slots [] known k is.0) is.4 in
    let end : Reach = record { place = to.place; more = to.more + c.from.result } in
    let counted : end.more ≡ to.more + p.count = ap (λ x. to.more + x) c.from.ensures in
    let wrote : after ≡ w.0 ++ ends p.ended = c.in_ok-text-2.ensures.puts w.0 w.2 in
    element_puts (Within known ns) c.args.lead k packet place from line (next_at end) after (of_ok _ _ c.in_ok-text.ensures.value c.put_index.ensures.put).text (element_there depth known k p packet to end place ns c.put_fields.new.kept.numbers line w.0 after is w.1 wrote counted refl)

pub put_element-returns-clause-kept : goal.put_element-returns-clause-kept
put_element-returns-clause-kept t c =
    let has = c.requires.is in
    let packet = c.args.from.packet.now in
    let slots = scope_slots [] has.known has.class has.is.0 in
    let line = take c.in_ok-text.text c.put_index.new.buffer.items in
    let w = c.in_ok-ends.ensures.puts has.depth slots has.is.4 in
    let longer = slots_longer packet.bytes.now packet.end slots (after_value c.args.from.place 0 lasts.Unknown line) (come c.in_ok-ends.ends w.0) c.args.kept.now.numbers c.put_fields.new.kept.numbers w.1 in
    c.forget.ensures ∙ first_kept c.args.kept.now.numbers longer.0 c.put_fields.new.kept.numbers c.len-count.result c.len-count.ensures longer.1

pub put_planned_row-loop-i-preserved : goal.put_planned_row-loop-i-preserved
put_planned_row-loop-i-preserved t c =
    let l = c.loop-i in
    let packet = c.args.from.packet.now in
    let ns = c.args.kept.now.numbers in
    let next = c.in_ok-next.next in
    let after = take next.text c.put_element.new.buffer.items in
    record {
      within = c.in_ok-next.ensures.within;
      few = search (rules, arith);
      kept = c.in_ok-next.ensures.kept ∙ l.invariant.kept;
      marked = mark_next 91 l.i;
      going = λ depth known k is.
          let puts = subst (λ xs. PutsWhere (Within known xs) (form k) (λ v. l.mark ∷ 32 ∷ element_text (value_text k) l.i v) packet.bytes.now packet.end l.at.place (take l.at.text l.buffer.items) (next_at (ends_at next)) after) l.invariant.kept (c.in_ok-next.ensures.puts depth known k is) in
          items.going_on (Within known ns) packet.bytes.now packet.end (form k) (value_text k) c.args.count c.args.from.place (take c.args.from.text c.args.buffer.now.items) l.i l.at.place l.at.more l.mark (take l.at.text l.buffer.items) (next_at (ends_at next)) after c.loop-i-test.true l.invariant.marked (l.invariant.going depth known k is) puts;
    }

pub put_planned_row-returns-clause-puts : goal.put_planned_row-returns-clause-puts
put_planned_row-returns-clause-puts t c = λ depth known k is.
    let l = c.loop-i in
    let packet = c.args.from.packet.now in
    let Where = Within known c.args.kept.now.numbers in
    let before = take c.args.from.text c.args.buffer.now.items in
    let after = take l.at.text l.buffer.items in
    let all : l.i ≡ c.args.count = omega (arith, c.loop-i-test.false, l.auto.i-end) in
    items.going_ends Where packet.bytes.now packet.end (form k) (value_text k) c.args.count c.args.from.place before l.at.place l.at.more l.at.text after (subst (λ i. items.Going Where packet.bytes.now packet.end (form k) (value_text k) c.args.count c.args.from.place i l.at.place l.at.more before after) all (l.invariant.going depth known k is))
