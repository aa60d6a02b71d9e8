-- Plans of event records that are made one field after the other.
use Rattle.std.proofs.Common.{◌≡◌, ℕ, zero, suc, ◌+◌, ◌%◌, ◌^◌, ◌<◌, ◌≤◌, max, List, [], ◌∷◌, ◌++◌, false, length, map, take, get_or, Option, Some, None, refl, sym, ap, subst, ◌∙◌, arith, append_assoc, append-nil}
use Rattle.std.proofs.Common.{All, Bool, Ok, Err, IfOk, IsTrue}
use Rattle.std.specs.declared.result.Result.{Result}
use Rattle.ctf_list.specs.declared.no_memory.NoMemory.{NoMemory}
use Rattle.std.proofs.lemmas.List.{take_more, length-take-le}
use Rattle.ctf_class.specs.Alignment.{IsLarger}
use Rattle.ctf_class.specs.Names.{field_text}
use Rattle.ctf_class.specs.declared.class.Class.{Class}
use Rattle.ctf_class.specs.declared.class.Kind as kind
use Rattle.ctf_class.specs.declared.class.Member.{Member}
use Rattle.ctf_class.specs.declared.record_plan.Branch.{Branch}
use Rattle.ctf_class.specs.declared.record_plan.Branches.{Branches, Branches-F, out-Branches}
use Rattle.ctf_class.specs.declared.record_plan.InnerPlans.{InnerPlans, InnerPlans-F, out-InnerPlans}
use Rattle.ctf_class.specs.declared.record_plan.Branches.TheVariants as branches
use Rattle.ctf_class.specs.declared.record_plan.InnerPlans.TheVariants as inner_plans
use Rattle.ctf_class.specs.declared.record_plan.Nested.{Nested}
use Rattle.ctf_class.specs.declared.record_plan.Nested.TheVariants as nested
use Rattle.ctf_class.specs.declared.record_plan.PlannedArray.{PlannedArray}
use Rattle.ctf_class.specs.declared.record_plan.PlannedVariant.{PlannedVariant}
use Rattle.ctf_class.specs.declared.known.Move.TheVariants.{Within, Inside, After, Later}
use Rattle.ctf_class.specs.declared.route.Route.{Route}
use Rattle.ctf_class.specs.declared.route.Scope.{Scope}
use Rattle.ctf_class.specs.declared.route.Scope.TheVariants.{StreamEventContext, EventContext, EventFields}
use Rattle.ctf_class.specs.declared.shown.Shown.{Shown}
use Rattle.ctf_class.specs.declared.record_plan.PlannedField.{PlannedField}
use Rattle.ctf_class.specs.declared.record_plan.RecordPlan.{RecordPlan}
use Rattle.ctf_class.specs.declared.plan_builder.PlanBuilder.{PlanBuilder}
use Rattle.ctf_class.specs.declared.plan_builder.Lead.{Lead}
use Rattle.ctf_class.specs.declared.record_plan.PlannedRun.{PlannedRun}
use Rattle.ctf_class.specs.declared.many.Many.{Many}
use Rattle.ctf_class.specs.declared.planned_number.PlannedNumber.{PlannedNumber}
use Rattle.ctf_class.specs.PlanBuilding.{AddsElement, AddsPiece, AddsPieces, BranchesTo, IsBare, IsNestedOf, IsOpen, IsMade, IsMadeOf, at_of, before_scope, empty_scope, known_last, moved_by, runs_by, slot_of, with_branch, with_field, with_number, with_scope, with_structure}
use Rattle.ctf_class.specs.Records.{IsInPacket, Slot, At, Piece, Pieces, alone, inner, no_pieces, more_pieces, Scoped, ScopeClass, IsPiece, ArePieces, member_of, members_of, inside, insides, ended_by, ended_after, ends, ended_last, first_at, later_at, known_by, known_after, known_index, known_scope, from_inside, opened_lead, piece_slots, pieces_slots, all_alone, member_slots, scope_slots, slots, ended_in, before_next, all_slots, values_in, with_kept, AreScoped, and_scope, scopes_of, IsNumber, AreInRun, TakesNumbers, IsStructure, IsField, AreRuns, AreBranches, AreThose, AreEach, IsListed, IsNested, IsVariant, IsArray, IsBranch, IsElement, IsItem, IsOfPieces, IsOption, IsPlanned, IsPlanOf, have_special, numbers_room, room_of}

-- one number more after the others
numbers_more : (base from span : ℕ) (ss : List Slot) (ns : List PlannedNumber) (s : Slot) (rest : List Slot) (n : PlannedNumber) → AreInRun base from ss ns span (s ∷ rest) → IsNumber base span s n → AreInRun base from ss (ns ++ n ∷ []) (n.window.place + n.window.size) rest
numbers_more base from span ss [] s rest n are is =
    subst (λ xs. AreInRun base from xs (n ∷ []) (n.window.place + n.window.size) rest) are.1 (subst (λ f. IsNumber base f s n) are.0 is, (refl, refl))
numbers_more base from span [] (y ∷ ns) s rest n are is = absurd are
numbers_more base from span (x ∷ ss) (y ∷ ns) s rest n are is = (are.0, numbers_more base (y.window.place + y.window.size) span ss ns s rest n are.1 is)

-- a run of one number, and of one more
abbrev pub GoesOn : ℕ → ℕ → Slot → List PlannedNumber → Type 0
GoesOn align run s [] = IsLarger run s.align s.class.align
GoesOn align run s (n ∷ ns) = run ≡ align

takes_more : (align run : ℕ) (ss : List Slot) (ns : List PlannedNumber) (span : ℕ) (s : Slot) (rest : List Slot) (n : PlannedNumber) → GoesOn align run s ns → TakesNumbers align ss ns span (s ∷ rest) → IsNumber (max 8 run) span s n
    → TakesNumbers run ss (ns ++ n ∷ []) (n.window.place + n.window.size) rest
takes_more align run ss [] span s rest n on takes is =
    subst (λ xs. TakesNumbers run xs (n ∷ []) (n.window.place + n.window.size) rest) takes.1.1 (on, (subst (λ f. IsNumber (max 8 run) f s n) takes.1.0 is, (refl, refl)))
takes_more align run [] (y ∷ ns) span s rest n on takes is = absurd takes.0
takes_more align run (x ∷ ss) (y ∷ ns) span s rest n on takes is =
    subst (λ r. TakesNumbers r (x ∷ ss) ((y ∷ ns) ++ n ∷ []) (n.window.place + n.window.size) rest) (sym on) (takes.0, numbers_more (max 8 align) 0 span (x ∷ ss) (y ∷ ns) s rest n takes.1 (subst (λ r. IsNumber (max 8 r) span s n) on is))

pub goes_on : (align run : ℕ) (s : Slot) (ns : List PlannedNumber) → (ns ≡ [] → IsLarger run s.align s.class.align) → (0 < length ns → run ≡ align) → GoesOn align run s ns
goes_on align run s [] first later = first refl
goes_on align run s (n ∷ ns) first later = later (omega arith)

-- the room of one number more, and of a field after the numbers
room_number : (ns : List PlannedNumber) (n : PlannedNumber) → room_of (ns ++ n ∷ []) None ≡ room_of ns None + (length n.ready + 66)
room_number [] n = omega arith
room_number (x ∷ ns) n = let more = room_number ns n in omega (arith, more)

room_field : (ns : List PlannedNumber) (f : PlannedField) → room_of ns (Some f) ≡ room_of ns None + (length f.ready + 66)
room_field [] f = omega arith
room_field (x ∷ ns) f = let more = room_field ns f in omega (arith, more)

-- a field more in the open run
open_number : (align run : ℕ) (now : List Slot) (ns : List PlannedNumber) (span : ℕ) (s : Slot) (n : PlannedNumber) → GoesOn align run s ns → IsOpen align now ns span → IsNumber (max 8 run) span s n → IsOpen run (now ++ s ∷ []) (ns ++ n ∷ []) (n.window.place + n.window.size)
open_number align run now ns span s n on last is rest =
    subst (λ xs. TakesNumbers run xs (ns ++ n ∷ []) (n.window.place + n.window.size) rest) (sym (append_assoc now (s ∷ []) rest)) (takes_more align run (now ++ s ∷ rest) ns span s rest n on (last (s ∷ rest)) is)

-- fields of which one more is the last
one_more : (done before full now : List Slot) (s : Slot) → done ≡ before ++ (full ++ now) → done ++ s ∷ [] ≡ before ++ (full ++ (now ++ s ∷ []))
one_more done before full now s are = ap (λ d. d ++ s ∷ []) are ∙ append_assoc before (full ++ now) (s ∷ []) ∙ ap (λ xs. before ++ xs) (append_assoc full now (s ∷ []))

pub made_number : (done : List Slot) (s : Slot) (m : PlanBuilder) (run : ℕ) (n : PlannedNumber) → GoesOn m.align run s m.numbers → IsNumber (max 8 run) m.span s n → n.window.place + n.window.size ≤ 2 ^ 33 → IsMade done m → IsMade (done ++ s ∷ []) (with_number m run n)
made_number done s m run n on is near made = record {
  depth = made.depth;
  before = made.before;
  full = made.full;
  now = made.now ++ s ∷ [];
  are = one_more done made.before made.full made.now s made.are;
  branched = made.branched;
  whole = made.whole;
  last = open_number m.align run made.now m.numbers m.span s n on made.last is;
  room = ap (λ r. r + (length n.ready + 66)) made.room ∙ sym (room_number m.numbers n);
  bounded = near;
}

-- the open run with a field after it
pub made_field : (done : List Slot) (s : Slot) (m : PlanBuilder) (f : PlannedField) → IsField s f → IsMade done m → IsMade (done ++ s ∷ []) (with_field m f)
made_field done s m f is made = record {
  depth = made.depth;
  before = made.before;
  full = made.full ++ (made.now ++ s ∷ []);
  now = [];
  are = one_more done made.before made.full made.now s made.are ∙ ap (λ xs. made.before ++ xs) (sym (append-nil (made.full ++ (made.now ++ s ∷ []))));
  branched = made.branched;
  whole = λ rest rs others.
      let run : PlannedRun = record { align = m.align; numbers = m.numbers; has_special = have_special m.numbers; span = m.span; room = m.room + (length f.ready + 66); field = Some f } in
      let room : run.room ≡ room_of m.numbers (Some f) = ap (λ r. r + (length f.ready + 66)) made.room ∙ sym (room_field m.numbers f) in
      let whole : AreRuns (made.full ++ (made.now ++ s ∷ rest)) (m.runs ++ run ∷ rs) = made.whole (made.now ++ s ∷ rest) (run ∷ rs) (s ∷ rest, made.last (s ∷ rest), room, made.bounded, refl, (is, others)) in
      let slots_are : made.full ++ (made.now ++ s ∷ rest) ≡ (made.full ++ (made.now ++ s ∷ [])) ++ rest = ap (λ xs. made.full ++ xs) (sym (append_assoc made.now (s ∷ []) rest)) ∙ sym (append_assoc made.full (made.now ++ s ∷ []) rest) in
      subst (λ xs. AreRuns xs ((m.runs ++ run ∷ []) ++ rs)) slots_are (subst (AreRuns (made.full ++ (made.now ++ s ∷ rest))) (sym (append_assoc m.runs (run ∷ []) rs)) whole);
  last = λ rest. (refl, (refl, refl));
  room = refl;
  bounded = omega arith;
}

-- plans of less depth are of more
module _ (P Q : List Slot → RecordPlan → Type 0) (more : (ss : List Slot) (p : RecordPlan) → P ss p → Q ss p) where
  pub option_by : (known : List Route) (m : Member) (p : RecordPlan) → IsOption P known m p → IsOption Q known m p
  option_by known m p is = (is.0, is.1, is.2, is.3, is.4, more (piece_slots (first_at (123 ∷ 32 ∷ []) 1 known) is.0) p is.5)

  pub element_by : (known : List Route) (k : Class) (p : RecordPlan) → IsElement P known k p → IsElement Q known k p
  element_by known k p is = (is.0, is.1, is.2, is.3, more (scope_slots [] known k is.0) p is.4)

  pub each_by : (known : List Route) (ms : List Member) (ps : List RecordPlan) → AreEach P known ms ps → AreEach Q known ms ps
  each_by known [] [] are = tt
  each_by known [] (p ∷ ps) are = absurd are
  each_by known (m ∷ ms) [] are = absurd are
  each_by known (m ∷ ms) (p ∷ ps) are = (option_by known m p are.0, each_by known ms ps are.1)

  variant_by : (s : Slot) (v : PlannedVariant) (ps : List RecordPlan) → IsVariant P s v ps → IsVariant Q s v ps
  variant_by s v ps is = record { tag = is.tag; options = is.options; is = is.is; leads = is.leads; are = each_by s.known is.options ps is.are }

  item_by : (known : List Route) (k : Class) (shown : Option Shown) (ps : List RecordPlan) → IsItem P known k shown ps → IsItem Q known k shown ps
  item_by known k (Some shown) ps is = is
  item_by known k None ps is = (is.0, is.1, element_by known k is.0 is.2)

  array_by : (s : Slot) (a : PlannedArray) (ps : List RecordPlan) → IsArray P s a ps → IsArray Q s a ps
  array_by s a ps is = record { length = is.length; element = is.element; is = is.is; counts = is.counts; align = is.align; are = item_by s.known is.element a.elements.shown ps is.are }

  nested_by : (s : Slot) (n : Nested) (ps : List RecordPlan) → IsNested P s n ps → IsNested Q s n ps
  nested_by s (nested.Number lone) ps is = is
  nested_by s (nested.Label labelled) ps is = is
  nested_by s (nested.Variant v) ps is = (is.0, variant_by s v ps is.1)
  nested_by s (nested.Array a) ps is = (is.0, array_by s a ps is.1)
  nested_by s (nested.Text count) ps is = is

  listed_by : (s : Slot) (n : Nested) (x : InnerPlans-F Branches InnerPlans Branch RecordPlan) → IsListed P s n x → IsListed Q s n x
  listed_by s n (InnerPlans-F.Each ps) is = nested_by s n ps is

  branch_by : (s : Slot) (b : Branch) → IsBranch P s b → IsBranch Q s b
  branch_by s b is = record { align = is.align; ready = is.ready; nested = listed_by s b.nested (out-InnerPlans b.plans) is.nested }

  branches_by : (ss : List Slot) (bs : List Branch) (rs : List PlannedRun) → AreBranches P ss bs rs → AreBranches Q ss bs rs
  branches_by ss [] rs are = are
  branches_by ss (b ∷ bs) rs are = (are.0, are.1, are.2, are.3, are.4, branch_by are.1 b are.5, branches_by are.2 bs rs are.6)

  those_by : (ss : List Slot) (x : Branches-F Branches InnerPlans Branch RecordPlan) (rs : List PlannedRun) → AreThose P ss x rs → AreThose Q ss x rs
  those_by ss (Branches-F.Listed bs) rs are = branches_by ss bs rs are

planned_deeper : (d : ℕ) (ss : List Slot) (p : RecordPlan) → IsPlanned d ss p → IsPlanned (suc d) ss p
planned_deeper zero ss p is = absurd is
planned_deeper (suc d) ss p is = those_by (IsPlanned d) (IsPlanned (suc d)) (planned_deeper d) ss (out-Branches p.branches) p.runs is

pub planned_deep : (k d : ℕ) (ss : List Slot) (p : RecordPlan) → IsPlanned d ss p → IsPlanned (k + d) ss p
planned_deep zero d ss p is = (let same : d ≡ 0 + d = omega arith in subst (λ n. IsPlanned n ss p) same is)
planned_deep (suc k) d ss p is = (let more : suc (k + d) ≡ suc k + d = omega arith in subst (λ n. IsPlanned n ss p) more (planned_deeper (k + d) ss p (planned_deep k d ss p is)))

-- routes from where they were
pub moved_within : (rs : List Route) → map (moved_by Within) rs ≡ rs
moved_within [] = refl
moved_within (r ∷ rs) = ap (λ xs. r ∷ xs) (moved_within rs)

-- an option more
pub each_and : (P : List Slot → RecordPlan → Type 0) (known : List Route) (ms : List Member) (ps : List RecordPlan) (m : Member) (p : RecordPlan) → AreEach P known ms ps → IsOption P known m p → AreEach P known (ms ++ m ∷ []) (ps ++ p ∷ [])
each_and P known [] [] m p are is = (is, tt)
each_and P known [] (q ∷ ps) m p are is = absurd are
each_and P known (n ∷ ms) [] m p are is = absurd are
each_and P known (n ∷ ms) (q ∷ ps) m p are is = (are.0, each_and P known ms ps m p are.1 is)

pub option_more : (known : List Route) (ms : List Member) (ps : List RecordPlan) (m : Member) (p : RecordPlan) → (depth : ℕ) × AreEach (IsPlanned depth) known ms ps → (depth : ℕ) × IsOption (IsPlanned depth) known m p → (depth : ℕ) × AreEach (IsPlanned depth) known (ms ++ m ∷ []) (ps ++ p ∷ [])
option_more known ms ps m p are is =
    let same : are.0 + is.0 ≡ is.0 + are.0 = omega arith in
    let P = IsPlanned (is.0 + are.0) in
    let option : IsOption P known m p = subst (λ n. IsOption (IsPlanned n) known m p) same (option_by (IsPlanned is.0) (IsPlanned (are.0 + is.0)) (planned_deep are.0 is.0) known m p is.1) in
    (is.0 + are.0, each_and P known ms ps m p (each_by (IsPlanned are.0) P (planned_deep is.0 are.0) known ms ps are.1) option)

-- the plan of an option
pub option_made : (place : ℕ) (at : At) (known : List Route) (m : Member) (old new : PlanBuilder) (p : RecordPlan) → at ≡ first_at (123 ∷ 32 ∷ []) 1 known → old.count ≡ 0 → AddsPiece place at m [] old new → ((done : List Slot) → IsMade done new → (depth : ℕ) × IsPlanned depth done p) → p.count ≡ new.count → p.ended ≡ new.ended → (depth : ℕ) × IsOption (IsPlanned depth) known m p
option_made place at known m old new p here none adds planned count ended =
    let is = planned (piece_slots at adds.0) adds.6 in
    let slots_are = ap (λ a. piece_slots a adds.0) here in
    let values : p.count ≡ inside adds.0 = (let a = adds.3 in omega (arith, a, none, count)) in
    (is.0, (adds.0, adds.1, subst (λ (a : At). IsPiece a.align adds.0) here adds.2, values, ended ∙ adds.4, subst (λ ss. IsPlanned is.0 ss p) slots_are is.1))

-- that of an element
pub element_made : (k : Class) (old new : PlanBuilder) (p : RecordPlan) → old.count ≡ 0 → AddsElement k old new → ((done : List Slot) → IsMade done new → (depth : ℕ) × IsPlanned depth done p) → p.count ≡ new.count → p.ended ≡ new.ended → (depth : ℕ) × IsElement (IsPlanned depth) old.known k p
element_made k old new p none adds planned count ended =
    let is = planned (scope_slots [] old.known k adds.0) adds.4 in
    let values : p.count ≡ length (members_of adds.0) + insides adds.0 = (let a = adds.2 in omega (arith, a, none, count)) in
    (is.0, (adds.0, adds.1, values, ended ∙ adds.3, is.1))

-- what is listed in a branch
listed_of : (P : List Slot → RecordPlan → Type 0) (s : Slot) (nest : Nested) (ps : List RecordPlan) (b : Branch) → b.nested ≡ nest → b.plans ≡ inner_plans.Each ps → IsNested P s nest ps → IsListed P s b.nested (out-InnerPlans b.plans)
listed_of P s nest ps b same each is = subst (λ x. IsListed P s b.nested x) (sym (ap out-InnerPlans each ∙ inner_plans.outs-Each ps)) (subst (λ n. IsNested P s n ps) (sym same) is)

-- a field that has plans is that of a branch
pub branch_made : (s : Slot) (known : List Route) (kept : Bool) (k : Class) (nest : Nested) (ps : List RecordPlan) (b : Branch) → IsNestedOf known kept k nest ps → s.class ≡ k → s.known ≡ known → s.kept ≡ kept → b.runs ≡ [] → b.align ≡ s.align → b.ready ≡ s.lead → b.nested ≡ nest → b.plans ≡ inner_plans.Each ps → IsBare s b
branch_made s known kept k nest ps b is class leads keeps none align ready same each = record {
  runs = none;
  depth = is.0;
  is = record { align = align; ready = ready; nested = listed_of (IsPlanned is.0) s nest ps b same each (is.1 s class leads keeps) };
}

-- nothing yet
pub made_none : (given : List Route) (m : PlanBuilder) → m.branches ≡ [] → m.runs ≡ [] → m.align ≡ 1 → m.numbers ≡ [] → m.span ≡ 0 → m.room ≡ 24 → m.count ≡ 0 → m.ended ≡ 0 → m.known ≡ given → IsMadeOf given [] m
made_none given m branches runs align numbers span room count ended known = record {
  scopes = [];
  are = tt;
  count = count;
  ended = ended;
  known = known;
  made = record {
    depth = 0;
    before = [];
    full = [];
    now = [];
    are = refl;
    branched = λ more rest bs rs others. subst (λ xs. AreBranches (IsPlanned (more + 0)) rest (xs ++ bs) rs) (sym branches) others;
    whole = λ rest rs others. subst (λ ns. AreRuns rest (ns ++ rs)) (sym runs) others;
    last = λ rest. subst (λ ns. TakesNumbers m.align rest ns m.span rest) (sym numbers) (align, (span, refl));
    room = room ∙ ap (λ ns. room_of ns None) (sym numbers);
    bounded = omega (arith, span);
  };
}

-- so no field
pub made_nothing : (given : List Route) (m : PlanBuilder) → IsMadeOf given [] m → IsMade [] m
made_nothing given m of = nothing of.scopes of.are of.made
  where
    nothing : (ss : List Scoped) → AreScoped [] ss → IsMade (all_slots [] given ss) m → IsMade [] m
    nothing [] are made = made
    nothing (s ∷ ss) are made = absurd are

-- the plan of what was made, with the runs that are left after the last branch
planned_by : (done rest : List Slot) (m : PlanBuilder) (p : RecordPlan) (made : IsMade done m) → p.branches ≡ branches.Listed m.branches → rest ≡ made.full ++ made.now → AreRuns rest p.runs → (depth : ℕ) × IsPlanned depth done p
planned_by done rest m p made listed left are =
    let O = IsPlanned (0 + made.depth) in
    let all : AreBranches O (made.before ++ rest) (m.branches ++ []) p.runs = made.branched 0 rest [] p.runs are in
    let whole : AreBranches O done m.branches p.runs = subst (λ xs. AreBranches O xs m.branches p.runs) (sym (made.are ∙ ap (λ xs. made.before ++ xs) (sym left))) (subst (λ bs. AreBranches O (made.before ++ rest) bs p.runs) (append-nil m.branches) all) in
    (suc (0 + made.depth), subst (λ bs. AreThose O done bs p.runs) (sym (ap out-Branches listed ∙ branches.outs-Listed m.branches)) whole)

pub planned : (done : List Slot) (m : PlanBuilder) (p : RecordPlan) → p.branches ≡ branches.Listed m.branches → p.runs ≡ m.runs ++ record { align = m.align; numbers = m.numbers; has_special = have_special m.numbers; span = m.span; room = m.room; field = None } ∷ [] → IsMade done m → (depth : ℕ) × IsPlanned depth done p
planned done m p listed are made =
    let run : PlannedRun = record { align = m.align; numbers = m.numbers; has_special = have_special m.numbers; span = m.span; room = m.room; field = None } in
    let numbers : TakesNumbers m.align made.now m.numbers m.span [] = subst (λ xs. TakesNumbers m.align xs m.numbers m.span []) (append-nil made.now) (made.last []) in
    let whole : AreRuns (made.full ++ made.now) (m.runs ++ run ∷ []) = made.whole made.now (run ∷ []) ([], numbers, made.room, made.bounded, refl, refl) in
    planned_by done (made.full ++ made.now) m p made listed refl (subst (AreRuns (made.full ++ made.now)) (sym are) whole)

-- the plan of what was made where the open run has no number
pub planned_whole : (done : List Slot) (m : PlanBuilder) (p : RecordPlan) → p.branches ≡ branches.Listed m.branches → p.runs ≡ m.runs → m.numbers ≡ [] → IsMade done m → (depth : ℕ) × IsPlanned depth done p
planned_whole done m p listed are none made =
    let left : TakesNumbers m.align (made.now ++ []) [] m.span [] = subst (λ ns. TakesNumbers m.align (made.now ++ []) ns m.span []) none (made.last []) in
    let nothing : made.now ≡ [] = sym (append-nil made.now) ∙ sym left.1.1 in
    let whole : AreRuns (made.full ++ made.now) (m.runs ++ []) = made.whole made.now [] nothing in
    planned_by done (made.full ++ made.now) m p made listed refl (subst (AreRuns (made.full ++ made.now)) (append-nil m.runs ∙ sym are) whole)

-- the runs that are whole once the open one is
closed_runs : (done : List Slot) (m : PlanBuilder) (made : IsMade done m) (ns : List PlannedNumber) → ns ≡ m.numbers → AreRuns (made.full ++ made.now) (runs_by m ns)
closed_runs done m made [] none =
    let left : TakesNumbers m.align (made.now ++ []) [] m.span [] = subst (λ ns. TakesNumbers m.align (made.now ++ []) ns m.span []) (sym none) (made.last []) in
    let nothing : made.now ≡ [] = sym (append-nil made.now) ∙ sym left.1.1 in
    subst (AreRuns (made.full ++ made.now)) (append-nil m.runs) (made.whole made.now [] nothing)
closed_runs done m made (n ∷ ns) some =
    let run : PlannedRun = record { align = m.align; numbers = m.numbers; has_special = have_special m.numbers; span = m.span; room = m.room; field = None } in
    let numbers : TakesNumbers m.align made.now m.numbers m.span [] = subst (λ xs. TakesNumbers m.align xs m.numbers m.span []) (append-nil made.now) (made.last []) in
    made.whole made.now (run ∷ []) ([], numbers, made.room, made.bounded, refl, refl)

-- the field of a branch after these
pub made_branch : (done : List Slot) (s : Slot) (b : Branch) (old : PlanBuilder) → IsBare s b → IsMade done old → IsMade (done ++ s ∷ []) (with_branch old b)
made_branch done s b old bare made =
    let closed : Branch = record b { runs = runs_by old old.numbers } in
    let depth = bare.depth + made.depth in
    record {
      depth = depth;
      before = done ++ s ∷ [];
      full = [];
      now = [];
      are = sym (append-nil (done ++ s ∷ []));
      branched = λ more rest bs rs are.
          let own : more + bare.depth + made.depth ≡ more + depth = omega arith in
          let theirs : more + made.depth + bare.depth ≡ more + depth = omega arith in
          let O = IsPlanned (more + depth) in
          let used = made.full ++ made.now in
          let deeper : (ss : List Slot) (p : RecordPlan) → IsPlanned bare.depth ss p → O ss p = λ ss p o. subst (λ n. IsPlanned n ss p) theirs (planned_deep (more + made.depth) bare.depth ss p o) in
          let is : IsBranch O s closed = branch_by (IsPlanned bare.depth) O deeper s closed (record { align = bare.is.align; ready = bare.is.ready; nested = bare.is.nested }) in
          let inner : AreBranches O (used ++ s ∷ rest) (closed ∷ bs) rs = (used, s, rest, refl, closed_runs done old made old.numbers refl, is, are) in
          let all : AreBranches O (made.before ++ (used ++ s ∷ rest)) (old.branches ++ closed ∷ bs) rs = subst (λ n. AreBranches (IsPlanned n) (made.before ++ (used ++ s ∷ rest)) (old.branches ++ closed ∷ bs) rs) own (made.branched (more + bare.depth) (used ++ s ∷ rest) (closed ∷ bs) rs (subst (λ n. AreBranches (IsPlanned n) (used ++ s ∷ rest) (closed ∷ bs) rs) (sym own) inner)) in
          let slots_are : made.before ++ (used ++ s ∷ rest) ≡ (done ++ s ∷ []) ++ rest = sym (append_assoc made.before used (s ∷ rest)) ∙ ap (λ d. d ++ s ∷ rest) (sym made.are) ∙ sym (append_assoc done (s ∷ []) rest) in
          subst (λ xs. AreBranches O xs ((old.branches ++ closed ∷ []) ++ bs) rs) slots_are (subst (λ ys. AreBranches O (made.before ++ (used ++ s ∷ rest)) ys rs) (sym (append_assoc old.branches (closed ∷ []) bs)) all);
      whole = λ rest rs others. others;
      last = λ rest. (refl, (refl, refl));
      room = refl;
      bounded = omega arith;
    }

-- the plan of scopes that were made
pub plan_of : (given : List Route) (ks : List ScopeClass) (m : PlanBuilder) (p : RecordPlan) → All IsInPacket given → p.given ≡ given → p.count ≡ m.count → p.ended ≡ m.ended → ((done : List Slot) → IsMade done m → (depth : ℕ) × IsPlanned depth done p) → IsMadeOf given ks m → IsPlanOf ks p
plan_of given ks m p packets same count ended planned of some =
    let is = planned (all_slots [] given of.scopes) of.made in
    let slots : IsPlanned is.0 (all_slots [] p.given of.scopes) p = subst (λ rs. IsPlanned is.0 (all_slots [] rs of.scopes) p) (sym same) is.1 in
    (subst (All IsInPacket) (sym same) packets, (of.scopes, of.are, count ∙ of.count, ended ∙ of.ended, is.0, slots))

pub finished : (given : List Route) (ks : List ScopeClass) (m : PlanBuilder) (r : Result RecordPlan NoMemory) → All IsInPacket given → IsMadeOf given ks m → IfOk r (λ p. (done : List Slot) → IsMade done m → (depth : ℕ) × IsPlanned depth done p) → IfOk r (λ p. p.given ≡ given) → IfOk r (λ p. p.count ≡ m.count) → IfOk r (λ p. p.ended ≡ m.ended) → IfOk r (IsPlanOf ks)
finished given ks m (Ok p) packets of planned same count ended = plan_of given ks m p packets same count ended planned of
finished given ks m (Err e) packets of planned same count ended = tt

-- a scope more
abbrev lead_of : List ℕ → List Scoped → List ℕ
lead_of before [] = before
lead_of before (s ∷ ss) = lead_of (before_next s.pieces) ss

abbrev comma : List ℕ
comma = 44 ∷ 32 ∷ []

before_some : (n ended : ℕ) → 0 < n → before_scope n ended ≡ ends ended ++ comma
before_some zero ended some = absurd (omega (arith, some))
before_some (suc n) ended some = refl

lead_ends : (n : ℕ) (ss : List Scoped) → lead_of (ends n ++ comma) ss ≡ ends (ended_last n ss) ++ comma
lead_ends n [] = refl
lead_ends n (s ∷ ss) = lead_ends (ended_in s.pieces) ss

lead_before : (ss : List Scoped) → lead_of [] ss ≡ before_scope (values_in ss) (ended_last 0 ss)
lead_before [] = refl
lead_before (s ∷ ss) = lead_ends (ended_in s.pieces) ss ∙ sym (before_some (values_in (s ∷ ss)) (ended_last 0 (s ∷ ss)) (omega arith))

slots_more : (before : List ℕ) (known : List Route) (ss : List Scoped) (s : Scoped) → all_slots before known (ss ++ s ∷ []) ≡ all_slots before known ss ++ slots (lead_of before ss) (known_last known ss) s
slots_more before known [] s = append-nil (slots before known s)
slots_more before known (x ∷ ss) s =
    let next = before_next x.pieces in
    let more = known_scope known x in
    ap (λ xs. slots before known x ++ xs) (slots_more next more ss s) ∙ sym (append_assoc (slots before known x) (all_slots next more ss) (slots (lead_of next ss) (known_last more ss) s))

known_more : (known : List Route) (ss : List Scoped) (s : Scoped) → known_last known (ss ++ s ∷ []) ≡ known_scope (known_last known ss) s
known_more known [] s = refl
known_more known (x ∷ ss) s = known_more (known_scope known x) ss s

values_more : (ss : List Scoped) (s : Scoped) → values_in (ss ++ s ∷ []) ≡ values_in ss + (1 + length (members_of s.pieces) + insides s.pieces)
values_more [] s = omega arith
values_more (x ∷ ss) s = let more = values_more ss s in omega (arith, more)

ending_more : (n : ℕ) (ss : List Scoped) (s : Scoped) → ended_last n (ss ++ s ∷ []) ≡ ended_in s.pieces
ending_more n [] s = refl
ending_more n (x ∷ ss) s = ending_more (ended_in x.pieces) ss s

scoped_more : (ks : List ScopeClass) (ss : List Scoped) (k : ScopeClass) (s : Scoped) → AreScoped ks ss → AreScoped (k ∷ []) (s ∷ []) → AreScoped (ks ++ k ∷ []) (ss ++ s ∷ [])
scoped_more [] [] k s are one = one
scoped_more [] (x ∷ ss) k s are one = absurd are
scoped_more (j ∷ ks) [] k s are one = absurd are
scoped_more (j ∷ ks) (x ∷ ss) k s are one = (are.0, are.1, are.2, scoped_more ks ss k s are.3 one)

-- counts, and what is led to, have no part in the runs
pub made_same : (done : List Slot) (m n : PlanBuilder) → n.branches ≡ m.branches → n.runs ≡ m.runs → n.align ≡ m.align → n.numbers ≡ m.numbers → n.span ≡ m.span → n.room ≡ m.room → IsMade done m → IsMade done n
made_same done m n branches runs align numbers span room made = record {
  depth = made.depth;
  before = made.before;
  full = made.full;
  now = made.now;
  are = made.are;
  branched = subst (BranchesTo made.depth made.before) (sym branches) made.branched;
  whole = subst (λ rs. (rest : List Slot) (others : List PlannedRun) → AreRuns rest others → AreRuns (made.full ++ rest) (rs ++ others)) (sym runs) made.whole;
  last = λ rest. subst (λ a. TakesNumbers a (made.now ++ rest) n.numbers n.span rest) (sym align) (subst (λ ns. TakesNumbers m.align (made.now ++ rest) ns n.span rest) (sym numbers) (subst (λ x. TakesNumbers m.align (made.now ++ rest) m.numbers x rest) (sym span) (made.last rest)));
  room = room ∙ made.room ∙ ap (λ ns. room_of ns None) (sym numbers);
  bounded = omega (arith, span, made.bounded);
}

-- the text where so many structures end
pub ends_on : (n : ℕ) → ends n ++ (32 ∷ 125 ∷ []) ≡ 32 ∷ 125 ∷ ends n
ends_on zero = refl
ends_on (suc n) = ap (λ xs. 32 ∷ 125 ∷ xs) (ends_on n)

pub ends_more : (n : ℕ) → ends (n + 1) ≡ ends n ++ (32 ∷ 125 ∷ [])
ends_more n = let one : n + 1 ≡ suc n = omega arith in ap ends one ∙ sym (ends_on n)

-- an index that is known, and one that is not
pub index_zero : (n i : ℕ) → n ≡ 0 → known_index n i ≡ i
index_zero n i none = ap (λ k. known_index k i) none

pub index_some : (n i : ℕ) → 0 < n → known_index n i ≡ 0
index_some zero i some = absurd (omega (arith, some))
index_some (suc n) i some = refl

-- one piece more after others
abbrev pub and_piece : Pieces → Piece → Pieces
and_piece no_pieces p = more_pieces p no_pieces
and_piece (more_pieces q ps) p = more_pieces q (and_piece ps p)

-- where a piece comes after so many others and after these
abbrev pub after_pieces : ℕ → At → Pieces → At
after_pieces i at no_pieces = at
after_pieces i at (more_pieces p ps) = after_pieces (suc i) (later_at (ended_by p) (suc i) (known_by i at.known p)) ps

-- what is led to there
after_known : (i : ℕ) (at : At) (ps : Pieces) → (after_pieces i at ps).known ≡ known_after i at.known ps
after_known i at no_pieces = refl
after_known i at (more_pieces p ps) = after_known (suc i) (later_at (ended_by p) (suc i) (known_by i at.known p)) ps

members_and : (ps : Pieces) (p : Piece) → members_of (and_piece ps p) ≡ members_of ps ++ member_of p ∷ []
members_and no_pieces p = refl
members_and (more_pieces q ps) p = ap (λ ms. member_of q ∷ ms) (members_and ps p)

insides_and : (ps : Pieces) (p : Piece) → insides (and_piece ps p) ≡ insides ps + inside p
insides_and no_pieces p = omega arith
insides_and (more_pieces q ps) p = let more = insides_and ps p in omega (arith, more)

closing_and : (n : ℕ) (ps : Pieces) (p : Piece) → ended_after n (and_piece ps p) ≡ ended_by p
closing_and n no_pieces p = refl
closing_and n (more_pieces q ps) p = closing_and (ended_by q) ps p

slots_and : (i : ℕ) (at : At) (ps : Pieces) (p : Piece) → pieces_slots i at (and_piece ps p) ≡ pieces_slots i at ps ++ piece_slots (after_pieces i at ps) p
slots_and i at no_pieces p = append-nil (piece_slots at p)
slots_and i at (more_pieces q ps) p =
    let next = later_at (ended_by q) (suc i) (known_by i at.known q) in
    ap (λ xs. piece_slots at q ++ xs) (slots_and (suc i) next ps p) ∙ sym (append_assoc (piece_slots at q) (pieces_slots (suc i) next ps) (piece_slots (after_pieces (suc i) next ps) p))

after_and : (i : ℕ) (at : At) (ps : Pieces) (p : Piece) → after_pieces i at (and_piece ps p) ≡ later_at (ended_by p) (suc (i + length (members_of ps))) (known_by (i + length (members_of ps)) (after_pieces i at ps).known p)
after_and i at no_pieces p =
    let none : i ≡ i + 0 = omega arith in
    (λ j. later_at (ended_by p) (suc (none j)) (known_by (none j) at.known p))
after_and i at (more_pieces q ps) p =
    let next = later_at (ended_by q) (suc i) (known_by i at.known q) in
    let more : suc i + length (members_of ps) ≡ i + suc (length (members_of ps)) = omega arith in
    after_and (suc i) next ps p ∙ ap (λ n. later_at (ended_by p) (suc n) (known_by n (after_pieces (suc i) next ps).known p)) more

are_and : (i : ℕ) (at : At) (ps : Pieces) (p : Piece) → ArePieces at.align ps → IsPiece (after_pieces i at ps).align p → ArePieces at.align (and_piece ps p)
are_and i at no_pieces p are is = (is, tt)
are_and i at (more_pieces q ps) p are is = (are.0, are_and (suc i) (later_at (ended_by q) (suc i) (known_by i at.known q)) ps p are.1 is)

-- the members of a structure before an index were added as pieces, and the next one comes there
abbrev pub AddedTo : At → List Member → ℕ → At → List Slot → PlanBuilder → PlanBuilder → Type 0
AddedTo first ms i at done old new =
    (ps : Pieces) × (members_of ps ≡ take i ms) × ArePieces first.align ps × (after_pieces 0 first ps ≡ at)
    × (new.count ≡ old.count + insides ps) × (new.ended ≡ ended_after old.ended ps) × (new.known ≡ at.known) × IsMade (done ++ pieces_slots 0 first ps) new

pub added_none : (first : At) (ms : List Member) (done : List Slot) (old : PlanBuilder) → old.known ≡ first.known → IsMade done old → AddedTo first ms 0 first done old old
added_none first ms done old known made = (no_pieces, refl, tt, refl, (let none : old.count ≡ old.count + 0 = omega arith in none), refl, known, subst (λ d. IsMade d old) (sym (append-nil done)) made)

pub added_more : (first : At) (ms : List Member) (i : ℕ) (m : Member) (at : At) (done : List Slot) (old mid new : PlanBuilder) → i < length ms → m ≡ get_or ms i m → (added : AddedTo first ms i at done old mid)
    → ((before : List Slot) → IsMade before mid → AddsPiece i at m before mid new)
    → AddedTo first ms (i + 1) (later_at new.ended (i + 1) new.known) done old new
added_more first ms i m at done old mid new within is added adds =
    let ps = added.0 in
    let one = adds (done ++ pieces_slots 0 first ps) added.7 in
    let p = one.0 in
    let so_far : length (members_of ps) ≡ i = ap length added.1 ∙ length-take-le i ms (omega (arith, within)) in
    let place : 0 + length (members_of ps) ≡ i = omega (arith, so_far) in
    let next : suc i ≡ i + 1 = omega arith in
    let members : members_of (and_piece ps p) ≡ take (i + 1) ms = members_and ps p ∙ (λ k. added.1 k ++ (one.1 ∙ is) k ∷ []) ∙ sym (take_more ms i m within) in
    let insides_are = insides_and ps p in
    let count : new.count ≡ old.count + insides (and_piece ps p) = (let a = one.3 in let b = added.4 in omega (arith, a, b, insides_are)) in
    let slots_are : (done ++ pieces_slots 0 first ps) ++ piece_slots at p ≡ done ++ pieces_slots 0 first (and_piece ps p) =
    ap (λ a. (done ++ pieces_slots 0 first ps) ++ piece_slots a p) (sym added.3) ∙ append_assoc done (pieces_slots 0 first ps) (piece_slots (after_pieces 0 first ps) p) ∙ ap (λ xs. done ++ xs) (sym (slots_and 0 first ps p))
    in
    let comes : after_pieces 0 first (and_piece ps p) ≡ later_at new.ended (i + 1) new.known =
    after_and 0 first ps p ∙ (λ j. later_at (ended_by p) (suc (place j)) (known_by (place j) (added.3 j).known p)) ∙ (λ j. later_at (sym one.4 j) (next j) (sym one.5 j))
    in
    (and_piece ps p, members, are_and 0 first ps p added.2 (subst (λ (a : At). IsPiece a.align p) (sym added.3) one.2), comes, count, one.4 ∙ sym (closing_and old.ended ps p), refl, subst (λ d. IsMade d new) slots_are one.6)

pub added_all : (first : At) (ms : List Member) (i : ℕ) (at : At) (done : List Slot) (old new : PlanBuilder) → take i ms ≡ ms → AddedTo first ms i at done old new → AddsPieces first ms done old new
added_all first ms i at done old new all added =
    (added.0, added.1 ∙ all, added.2, added.4, added.5, added.6 ∙ ap (λ (a : At). a.known) (sym added.3) ∙ after_known 0 first added.0, added.7)

-- a member alone, whose number is kept or is not
pub piece_alone : (lead : Lead) (known : List Route) (kept : Bool) (m : Member) (done : List Slot) (old new : PlanBuilder) → new.count ≡ old.count → new.ended ≡ 0 → new.known ≡ with_kept kept lead.place known → IsMade (done ++ slot_of lead known kept m ∷ []) new → AddsPiece lead.place (at_of lead known) m done old new
piece_alone lead known kept m done old new count ended leads made = (alone kept m, refl, tt, (let same : new.count ≡ old.count + 0 = omega (arith, count) in same), ended, leads, made)

-- a member that is gone into, from where its structure begins as far as where it ends
pub piece_inner : (place : ℕ) (at : At) (m : Member) (begin : ℕ) (ms : List Member) (done : List Slot) (old from mid to new : PlanBuilder) → m.class.kind ≡ kind.Structure ms → 0 < length ms → IsLarger begin at.align m.class.align → at.known ≡ old.known
    → from ≡ record old { trail = from.trail; known = map (moved_by Inside) old.known }
    → (IsMade done from → AddsPieces (first_at (opened_lead at.lead m.name) begin from.known) ms done from mid)
    → to ≡ record mid { trail = to.trail; known = map (moved_by (After place)) mid.known }
    → new ≡ with_structure to (length ms) → IsMade done old
    → AddsPiece place at m done old new
piece_inner place at m begin ms done old from mid to new is some larger leads goes_in adds comes_out same made =
    let begun : IsMade done from = made_same done old from (ap (λ (b : PlanBuilder). b.branches) goes_in) (ap (λ (b : PlanBuilder). b.runs) goes_in) (ap (λ (b : PlanBuilder). b.align) goes_in) (ap (λ (b : PlanBuilder). b.numbers) goes_in) (ap (λ (b : PlanBuilder). b.span) goes_in) (ap (λ (b : PlanBuilder). b.room) goes_in) made in
    let inside_known : from.known ≡ from_inside at.known = ap (λ (b : PlanBuilder). b.known) goes_in ∙ ap (map (moved_by Inside)) (sym leads) in
    let all = adds begun in
    let ps = all.0 in
    let lengths : length (members_of ps) ≡ length ms = ap length all.1 in
    let from_count : from.count ≡ old.count = ap (λ (b : PlanBuilder). b.count) goes_in in
    let to_count : to.count ≡ mid.count = ap (λ (b : PlanBuilder). b.count) comes_out in
    let count : new.count ≡ to.count + length ms = ap (λ (b : PlanBuilder). b.count) same in
    let counted : new.count ≡ old.count + (length (members_of ps) + insides ps) = (let a = all.3 in omega (arith, a, count, to_count, from_count, lengths)) in
    let no_other : ended_after from.ended ps ≡ ended_after 0 ps = some_close ps (omega (arith, lengths, some)) in
    let ended : new.ended ≡ to.ended + 1 = ap (λ (b : PlanBuilder). b.ended) same in
    let to_ended : to.ended ≡ mid.ended = ap (λ (b : PlanBuilder). b.ended) comes_out in
    let closed : new.ended ≡ suc (ended_after 0 ps) = (let a = all.4 in omega (arith, a, ended, to_ended, no_other)) in
    let known : new.known ≡ known_by place at.known (inner m begin ps) = ap (λ (b : PlanBuilder). b.known) same ∙ ap (λ (b : PlanBuilder). b.known) comes_out ∙ ap (map (moved_by (After place))) (all.5 ∙ ap (λ rs. known_after 0 rs ps) inside_known) in
    let slots_so = done ++ piece_slots at (inner m begin ps) in
    let inner_slots : done ++ pieces_slots 0 (first_at (opened_lead at.lead m.name) begin from.known) ps ≡ slots_so = ap (λ rs. done ++ pieces_slots 0 (first_at (opened_lead at.lead m.name) begin rs) ps) inside_known in
    let ended_made : IsMade (done ++ pieces_slots 0 (first_at (opened_lead at.lead m.name) begin from.known) ps) new = made_same _ mid new
    (ap (λ (b : PlanBuilder). b.branches) same ∙ ap (λ (b : PlanBuilder). b.branches) comes_out) (ap (λ (b : PlanBuilder). b.runs) same ∙ ap (λ (b : PlanBuilder). b.runs) comes_out) (ap (λ (b : PlanBuilder). b.align) same ∙ ap (λ (b : PlanBuilder). b.align) comes_out)
    (ap (λ (b : PlanBuilder). b.numbers) same ∙ ap (λ (b : PlanBuilder). b.numbers) comes_out) (ap (λ (b : PlanBuilder). b.span) same ∙ ap (λ (b : PlanBuilder). b.span) comes_out) (ap (λ (b : PlanBuilder). b.room) same ∙ ap (λ (b : PlanBuilder). b.room) comes_out) all.6
    in
    (inner m begin ps, refl, (is ∙ ap kind.Structure (sym all.1), omega (arith, lengths, some), larger, all.2), counted, closed, known, subst (λ d. IsMade d new) inner_slots ended_made)
  where
    some_close : (ps : Pieces) → 0 < length (members_of ps) → ended_after from.ended ps ≡ ended_after 0 ps
    some_close no_pieces some = absurd (omega (arith, some))
    some_close (more_pieces p ps) some = refl

-- a scope with members
scope_some : (before : List ℕ) (known : List Route) (k : Class) (ps : Pieces) → 0 < length (members_of ps) → scope_slots before known k ps ≡ pieces_slots 0 (first_at (before ++ (123 ∷ 32 ∷ [])) k.align (from_inside known)) ps
scope_some before known k no_pieces some = absurd (omega (arith, some))
scope_some before known k (more_pieces p ps) some = refl

ended_some : (n : ℕ) (ps : Pieces) → 0 < length (members_of ps) → suc (ended_after n ps) ≡ ended_in ps
ended_some n no_pieces some = absurd (omega (arith, some))
ended_some n (more_pieces p ps) some = refl

-- a member that is the field of a branch
pub nested_added : (lead : Lead) (m : Member) (ready : List ℕ) (old new : PlanBuilder) (r : Result Bool NoMemory) → ready ≡ lead.text.now ++ field_text m.name → IfOk r (λ took. IsTrue took → new.count ≡ old.count) → IfOk r (λ took. IsTrue took → new.ended ≡ 0) → IfOk r (λ took. IsTrue took → new.known ≡ old.known)
    → IfOk r (λ took. IsTrue took → (done : List Slot) (s : Slot) → s.lead ≡ ready → s.align ≡ lead.align → s.class ≡ m.class → s.known ≡ old.known → s.kept ≡ false → IsMade done old → IsMade (done ++ s ∷ []) new)
    → IfOk r (λ took. IsTrue took → (done : List Slot) → IsMade done old → AddsPiece lead.place (at_of lead old.known) m done old new)
nested_added lead m ready old new (Ok b) is counted ended known makes = λ took done made. piece_alone lead old.known false m done old new (counted took) (ended took) (known took) (makes took done (slot_of lead old.known false m) (sym is) refl refl refl refl made)
nested_added lead m ready old new (Err e) is counted ended known makes = tt

-- an element that is one
pub field_added : (k : Class) (ready : List ℕ) (one : ℕ) (old new : PlanBuilder) (r : Result Bool NoMemory) → ready ≡ [] → one ≡ 1 → IfOk r (λ took. IsTrue took → new.count ≡ old.count) → IfOk r (λ took. IsTrue took → new.ended ≡ 0)
    → IfOk r (λ took. IsTrue took → (done : List Slot) (s : Slot) → s.lead ≡ ready → s.align ≡ one → s.class ≡ k → s.known ≡ old.known → s.kept ≡ false → IsMade done old → IsMade (done ++ s ∷ []) new)
    → IfOk r (λ took. IsTrue took → IsMade [] old → AddsElement k old new)
field_added k ready one old new (Ok b) empty aligned counted ended makes = λ took made.
    let same = counted took in
    let count : new.count ≡ old.count + 0 + 0 = omega (arith, same) in
    (no_pieces, tt, count, ended took, makes took [] (record { lead = []; align = 1; index = 0; known = old.known; kept = false; class = k }) (sym empty) (sym aligned) refl refl refl made)
field_added k ready one old new (Err e) empty aligned counted ended makes = tt

pieces_of : (k : Class) (ps : Pieces) → k.kind ≡ kind.Structure (members_of ps) → ArePieces k.align ps → IsOfPieces k ps
pieces_of k no_pieces is are = tt
pieces_of k (more_pieces p ps) is are = (is, are)

-- the members of an element
pub element_added : (k : Class) (ms : List Member) (lead : List ℕ) (old from mid new : PlanBuilder) → k.kind ≡ kind.Structure ms → 0 < length ms → lead ≡ 123 ∷ 32 ∷ [] → from ≡ record old { trail = from.trail; known = map (moved_by Inside) old.known }
    → (IsMade [] from → AddsPieces (first_at lead k.align from.known) ms [] from mid) → new ≡ with_structure mid (length ms) → IsMade [] old → AddsElement k old new
element_added k ms lead old from mid new is some leads goes_in adds same made =
    let begun : IsMade [] from = made_same [] old from (ap (λ (b : PlanBuilder). b.branches) goes_in) (ap (λ (b : PlanBuilder). b.runs) goes_in) (ap (λ (b : PlanBuilder). b.align) goes_in) (ap (λ (b : PlanBuilder). b.numbers) goes_in) (ap (λ (b : PlanBuilder). b.span) goes_in) (ap (λ (b : PlanBuilder). b.room) goes_in) made in
    let known : from.known ≡ from_inside old.known = ap (λ (b : PlanBuilder). b.known) goes_in in
    let from_count : from.count ≡ old.count = ap (λ (b : PlanBuilder). b.count) goes_in in
    let all = adds begun in
    let ps = all.0 in
    let lengths : length (members_of ps) ≡ length ms = ap length all.1 in
    let members : 0 < length (members_of ps) = omega (arith, lengths, some) in
    let slots_are : pieces_slots 0 (first_at lead k.align from.known) ps ≡ scope_slots [] old.known k ps = (λ j. pieces_slots 0 (first_at (leads j) k.align (known j)) ps) ∙ sym (scope_some [] old.known k ps members) in
    let counted : new.count ≡ mid.count + length ms = ap (λ (m : PlanBuilder). m.count) same in
    let count : new.count ≡ old.count + length (members_of ps) + insides ps = (let a = all.3 in omega (arith, counted, a, from_count, lengths)) in
    let one : mid.ended + 1 ≡ suc mid.ended = omega arith in
    let ended : new.ended ≡ ended_in ps = ap (λ (m : PlanBuilder). m.ended) same ∙ one ∙ ap suc all.4 ∙ ended_some from.ended ps members in
    let whole : IsMade (pieces_slots 0 (first_at lead k.align from.known) ps) new = subst (IsMade (pieces_slots 0 (first_at lead k.align from.known) ps)) (sym same) (made_same _ mid (with_structure mid (length ms)) refl refl refl refl refl refl all.6) in
    (ps, pieces_of k ps (is ∙ ap kind.Structure (sym all.1)) all.2, count, ended, subst (λ d. IsMade d new) slots_are whole)

-- one scope more
one_scope : (given : List Route) (ks : List ScopeClass) (old new : PlanBuilder) (s : Scoped) → (of : IsMadeOf given ks old) → s.class.kind ≡ kind.Structure (members_of s.pieces) → ArePieces s.class.align s.pieces → new.count ≡ old.count + (1 + length (members_of s.pieces) + insides s.pieces) → new.ended ≡ ended_in s.pieces → new.known ≡ known_scope old.known s
    → IsMade (all_slots [] given of.scopes ++ slots (before_scope old.count old.ended) old.known s) new → IsMadeOf given (ks ++ (s.scope, s.class) ∷ []) new
one_scope given ks old new s of is are count ended known made =
    let before : before_scope old.count old.ended ≡ lead_of [] of.scopes = (λ j. before_scope (of.count j) (of.ended j)) ∙ sym (lead_before of.scopes) in
    let slots_are : all_slots [] given of.scopes ++ slots (before_scope old.count old.ended) old.known s ≡ all_slots [] given (of.scopes ++ s ∷ []) = (λ j. all_slots [] given of.scopes ++ slots (before j) (of.known j) s) ∙ sym (slots_more [] given of.scopes s) in
    let values = values_more of.scopes s in
    record {
      scopes = of.scopes ++ s ∷ [];
      are = scoped_more ks of.scopes (s.scope, s.class) s of.are (refl, is, are, tt);
      count = (let b = of.count in omega (arith, count, b, values));
      ended = ended ∙ sym (ending_more 0 of.scopes s);
      known = known ∙ ap (λ rs. known_scope rs s) of.known ∙ sym (known_more given of.scopes s);
      made = subst (λ d. IsMade d new) slots_are made;
    }

-- the members of a scope, from where it begins as far as where it ends
pub made_scope : (given : List Route) (ks : List ScopeClass) (scope : Scope) (k : Class) (ms : List Member) (lead : List ℕ) (old from mid closed new : PlanBuilder) → k.kind ≡ kind.Structure ms → 0 < length ms → lead ≡ before_scope old.count old.ended ++ (123 ∷ 32 ∷ [])
    → from ≡ record old { trail = from.trail; known = map (moved_by Inside) old.known }
    → ((done : List Slot) → IsMade done from → AddsPieces (first_at lead k.align from.known) ms done from mid)
    → closed ≡ with_structure mid (length ms + 1) → new ≡ record closed { known = map (moved_by (Later scope)) closed.known } → IsMadeOf given ks old → IsMadeOf given (ks ++ (scope, k) ∷ []) new
made_scope given ks scope k ms lead old from mid closed new is some leads goes_in adds same goes_on of =
    let done = all_slots [] given of.scopes in
    let begun : IsMade done from = made_same done old from (ap (λ (b : PlanBuilder). b.branches) goes_in) (ap (λ (b : PlanBuilder). b.runs) goes_in) (ap (λ (b : PlanBuilder). b.align) goes_in) (ap (λ (b : PlanBuilder). b.numbers) goes_in) (ap (λ (b : PlanBuilder). b.span) goes_in) (ap (λ (b : PlanBuilder). b.room) goes_in) of.made in
    let inside_known : from.known ≡ from_inside old.known = ap (λ (b : PlanBuilder). b.known) goes_in in
    let from_count : from.count ≡ old.count = ap (λ (b : PlanBuilder). b.count) goes_in in
    let all = adds done begun in
    let ps = all.0 in
    let s : Scoped = record { scope = scope; class = k; pieces = ps } in
    let lengths : length (members_of ps) ≡ length ms = ap length all.1 in
    let members : 0 < length (members_of ps) = omega (arith, lengths, some) in
    let first : pieces_slots 0 (first_at lead k.align from.known) ps ≡ slots (before_scope old.count old.ended) old.known s = (λ j. pieces_slots 0 (first_at (leads j) k.align (inside_known j)) ps) ∙ sym (scope_some (before_scope old.count old.ended) old.known k ps members) in
    let whole : new ≡ record (with_structure mid (length ms + 1)) { known = map (moved_by (Later scope)) mid.known } = goes_on ∙ ap (λ (b : PlanBuilder). record b { known = map (moved_by (Later scope)) b.known }) same in
    let counted : new.count ≡ mid.count + (length ms + 1) = ap (λ (m : PlanBuilder). m.count) whole in
    let count : new.count ≡ old.count + (1 + length (members_of ps) + insides ps) = (let a = all.3 in omega (arith, counted, a, from_count, lengths)) in
    let one : mid.ended + 1 ≡ suc mid.ended = omega arith in
    let ended : new.ended ≡ ended_in ps = ap (λ (m : PlanBuilder). m.ended) whole ∙ one ∙ ap suc all.4 ∙ ended_some from.ended ps members in
    let known : new.known ≡ known_scope old.known s = ap (λ (m : PlanBuilder). m.known) whole ∙ ap (map (moved_by (Later scope))) (all.5 ∙ ap (λ rs. known_after 0 rs ps) inside_known) in
    one_scope given ks old new s of (is ∙ ap kind.Structure (sym all.1)) all.2 count ended known
    (subst (λ d. IsMade d new) (ap (λ xs. done ++ xs) first) (made_same _ mid new (ap (λ (b : PlanBuilder). b.branches) whole) (ap (λ (b : PlanBuilder). b.runs) whole) (ap (λ (b : PlanBuilder). b.align) whole) (ap (λ (b : PlanBuilder). b.numbers) whole) (ap (λ (b : PlanBuilder). b.span) whole) (ap (λ (b : PlanBuilder). b.room) whole) all.6))

-- a scope without members
pub made_empty : (given : List Route) (ks : List ScopeClass) (scope : Scope) (k : Class) (text : List ℕ) (align : ℕ) (old from mid new : PlanBuilder) → k.kind ≡ kind.Structure [] → align ≡ k.align → text ≡ before_scope old.count old.ended
    → from ≡ record old { trail = from.trail; known = map (moved_by Inside) old.known } → mid ≡ with_scope from (empty_scope text align) → new ≡ record mid { known = map (moved_by (Later scope)) mid.known } → IsMadeOf given ks old → IsMadeOf given (ks ++ (scope, k) ∷ []) new
made_empty given ks scope k text align old from mid new is aligned leads goes_in same goes_on of =
    let s : Scoped = record { scope = scope; class = k; pieces = no_pieces } in
    let f = empty_scope text align in
    let done = all_slots [] given of.scopes in
    let before = before_scope old.count old.ended in
    let begun : IsMade done from = made_same done old from (ap (λ (b : PlanBuilder). b.branches) goes_in) (ap (λ (b : PlanBuilder). b.runs) goes_in) (ap (λ (b : PlanBuilder). b.align) goes_in) (ap (λ (b : PlanBuilder). b.numbers) goes_in) (ap (λ (b : PlanBuilder). b.span) goes_in) (ap (λ (b : PlanBuilder). b.room) goes_in) of.made in
    let slot : Slot = record { lead = before; align = 1; index = 0; known = old.known; kept = false; class = k } in
    let field : IsField slot f = record { kept = refl; align = refl; ready = leads; shown = (is, aligned) } in
    let whole : new ≡ record (with_scope from f) { known = map (moved_by (Later scope)) from.known } = goes_on ∙ ap (λ (b : PlanBuilder). record b { known = map (moved_by (Later scope)) b.known }) same in
    let known : new.known ≡ known_scope old.known s = ap (λ (b : PlanBuilder). b.known) whole ∙ ap (map (moved_by (Later scope))) (ap (λ (b : PlanBuilder). b.known) goes_in) in
    let made : IsMade (done ++ slot ∷ []) new = made_same _ (with_field from f) new (ap (λ (b : PlanBuilder). b.branches) whole) (ap (λ (b : PlanBuilder). b.runs) whole) (ap (λ (b : PlanBuilder). b.align) whole) (ap (λ (b : PlanBuilder). b.numbers) whole) (ap (λ (b : PlanBuilder). b.span) whole) (ap (λ (b : PlanBuilder). b.room) whole) (made_field done slot from f field begun) in
    let count : new.count ≡ old.count + (1 + 0 + 0) = (let a : new.count ≡ from.count + 1 = ap (λ (b : PlanBuilder). b.count) whole in let b : from.count ≡ old.count = ap (λ (b : PlanBuilder). b.count) goes_in in omega (arith, a, b)) in
    one_scope given ks old new s of is tt count (ap (λ (b : PlanBuilder). b.ended) whole) known made

-- members of which none is gone into, one more
alones_and : (xs : List Member) (m : Member) → all_alone (xs ++ m ∷ []) ≡ and_piece (all_alone xs) (alone false m)
alones_and [] m = refl
alones_and (x ∷ xs) m = ap (more_pieces (alone false x)) (alones_and xs m)

alones_length : (xs : List Member) → length (members_of (all_alone xs)) ≡ length xs
alones_length [] = refl
alones_length (x ∷ xs) = ap suc (alones_length xs)

-- where the next of them comes
pub alone_next : (at : At) (ms : List Member) (i : ℕ) (m : Member) → i < length ms → m ≡ get_or ms i m → (after_pieces 0 at (all_alone (take i ms))).known ≡ [] → after_pieces 0 at (all_alone (take (i + 1) ms)) ≡ later_at 0 (i + 1) []
alone_next at ms i m within is nothing =
    let so_far : length (members_of (all_alone (take i ms))) ≡ i = alones_length (take i ms) ∙ length-take-le i ms (omega (arith, within)) in
    let place : suc (0 + length (members_of (all_alone (take i ms)))) ≡ i + 1 = omega (arith, so_far) in
    ap (λ xs. after_pieces 0 at (all_alone xs)) (take_more ms i m within ∙ ap (λ x. take i ms ++ x ∷ []) (sym is)) ∙ ap (after_pieces 0 at) (alones_and (take i ms) m) ∙ after_and 0 at (all_alone (take i ms)) (alone false m) ∙ (λ j. later_at 0 (place j) (nothing j))

pub alone_more : (at : At) (ms : List Member) (i : ℕ) (m : Member) (lead : List ℕ) (align index : ℕ) → i < length ms → m ≡ get_or ms i m → after_pieces 0 at (all_alone (take i ms)) ≡ record { lead = lead; align = align; index = index; known = [] }
    → pieces_slots 0 at (all_alone (take (i + 1) ms)) ≡ pieces_slots 0 at (all_alone (take i ms)) ++ record { lead = lead ++ field_text m.name; align = align; index = index; known = []; kept = false; class = m.class } ∷ []
alone_more at ms i m lead align index within is comes =
    let before = all_alone (take i ms) in
    ap (λ xs. pieces_slots 0 at (all_alone xs)) (take_more ms i m within ∙ ap (λ x. take i ms ++ x ∷ []) (sym is)) ∙ ap (pieces_slots 0 at) (alones_and (take i ms) m) ∙ slots_and 0 at before (alone false m) ∙ ap (λ a. pieces_slots 0 at before ++ piece_slots a (alone false m)) comes

-- the scopes of a record, one after the other
pub scopes_are : (shared own : Option Class) (fields : Class) → ((and_scope StreamEventContext shared []) ++ and_scope EventContext own []) ++ (EventFields, fields) ∷ [] ≡ scopes_of shared own fields
scopes_are None None fields = refl
scopes_are None (Some o) fields = refl
scopes_are (Some s) None fields = refl
scopes_are (Some s) (Some o) fields = refl

-- the room of numbers without a field
room_plain : (ns : List PlannedNumber) → room_of ns None ≡ numbers_room ns
room_plain [] = refl
room_plain (n ∷ ns) = ap (λ r. length n.ready + 66 + r) (room_plain ns)

-- no branch has no fields
nothing_before : (depth : ℕ) (before : List Slot) (bs : List Branch) → bs ≡ [] → BranchesTo depth before bs → before ≡ []
nothing_before depth before bs none branched = sym (append-nil before) ∙ subst (λ xs. AreBranches (IsPlanned (0 + depth)) (before ++ []) (xs ++ []) []) none (branched 0 [] [] [] refl)

-- the numbers of one structure alone
pub structure_made : (k : Class) (ms : List Member) (m : PlanBuilder) (values : ℕ) (several : Many) → k.kind ≡ kind.Structure ms → 0 < length ms → values ≡ 1 + length ms → m.branches ≡ [] → m.runs ≡ [] → m.align ≡ k.align → m.align % 8 ≡ 0 → IsMade (member_slots k.align ms) m
    → IsStructure k (record { align = m.align; numbers = m.numbers; has_special = have_special m.numbers; span = m.span; room = m.room; count = values; many = several })
structure_made k ms m values several is some count bare none begins whole made =
    let full : made.full ≡ [] = sym (append-nil made.full) ∙ subst (λ rs. AreRuns (made.full ++ []) (rs ++ [])) none (made.whole [] [] refl) in
    let before : made.before ≡ [] = nothing_before made.depth made.before m.branches bare made.branched in
    let now : made.now ≡ member_slots k.align ms = sym (made.are ∙ ap (λ b. b ++ (made.full ++ made.now)) before ∙ ap (λ f. f ++ made.now) full) in
    let takes : TakesNumbers m.align made.now m.numbers m.span [] = subst (λ xs. TakesNumbers m.align xs m.numbers m.span []) (append-nil made.now) (made.last []) in
    record { members = ms; is = is; begins = begins; whole = whole; some = some; count = count; numbers = subst (λ xs. TakesNumbers m.align xs m.numbers m.span []) now takes; room = made.room ∙ room_plain m.numbers; bounded = made.bounded; special = refl }
