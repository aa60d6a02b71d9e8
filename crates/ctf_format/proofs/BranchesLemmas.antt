-- Fields that are kept, or go by what is kept, variants and arrays that are written by their plans are shown as their
-- classes say.
use Rattle.std.proofs.Common.{◌≡◌, ℕ, ℤ, zero, suc, ◌+◌, ◌<◌, ◌≤◌, true, false, List, [], ◌∷◌, ◌++◌, map, length, get_or, Option, Some, None, IfSome, Ok, refl, sym, ap, subst, ◌∙◌, arith, append_assoc, append-nil}
use Rattle.std.proofs.Common.{codes}
use Rattle.std.specs.Fmt.{decimal}
use Rattle.std.specs.Int.{next_multiple_of}
use Rattle.std.specs.Prelude.{option_and_then}
use Rattle.ctf_class.proofs.RecordsLemmas.{ends_on}
use Rattle.ctf_class.specs.Records.{Slot, Piece, Pieces, no_pieces, more_pieces, AreBranches, AreEach, AreRuns, AreThose, IsArray, IsCount, IsElement, IsInteger, IsItem, IsLabelled, IsListed, IsNested, IsOfPieces, IsOption, IsPlanned, IsShown, IsVariant, LeadsTo, member_of, members_of, inside, insides, ended_by, ended_in, ends, first_at, piece_slots, scope_slots}
use Rattle.ctf_class.specs.declared.class.Kind as kind
use Rattle.ctf_class.specs.declared.class.Member.{Member}
use Rattle.ctf_class.specs.declared.record_plan.Branch.{Branch}
use Rattle.ctf_class.specs.declared.record_plan.Branches.{Branches, Branches-F, out-Branches}
use Rattle.ctf_class.specs.declared.record_plan.Count.{Count}
use Rattle.ctf_class.specs.declared.record_plan.Count.TheVariants as counts
use Rattle.ctf_class.specs.declared.record_plan.InnerPlans.{InnerPlans, InnerPlans-F, out-InnerPlans}
use Rattle.ctf_class.specs.declared.record_plan.Elements.{Elements}
use Rattle.ctf_class.specs.declared.record_plan.Nested.{Nested}
use Rattle.ctf_class.specs.declared.record_plan.Nested.TheVariants as nested
use Rattle.ctf_class.specs.declared.record_plan.PlannedArray.{PlannedArray}
use Rattle.ctf_class.specs.declared.record_plan.PlannedRun.{PlannedRun}
use Rattle.ctf_class.specs.declared.record_plan.PlannedVariant.{PlannedVariant}
use Rattle.ctf_class.specs.declared.record_plan.RecordPlan.{RecordPlan}
use Rattle.ctf_class.specs.declared.class.Class.{Class}
use Rattle.ctf_class.specs.declared.route.Length.{Length}
use Rattle.ctf_class.specs.declared.route.Length.TheVariants as lengths
use Rattle.ctf_class.specs.declared.route.Route.{Route}
use Rattle.ctf_class.specs.declared.shown.Labelled.{Labelled}
use Rattle.ctf_class.specs.declared.shown.LoneInteger.{LoneInteger}
use Rattle.ctf_class.specs.declared.shown.Shown.{Shown as PlannedShown}
use Rattle.ctf_class.specs.declared.route.Scope.{Scope}
use Rattle.ctf_decode.specs.Forms as forms
use Rattle.ctf_decode.specs.Forms.{Form, parts_of}
use Rattle.ctf_decode.specs.Input.{Env, Input}
use Rattle.ctf_decode.specs.Routes.{chosen, found, length_of, number_of, option_at, tag_of}
use Rattle.ctf_decode.specs.Values.{Val, choice, label, unsigned}
use Rattle.ctf_decode.specs.Views as views
use Rattle.ctf_decode.specs.Views.{form}
use Rattle.ctf_decode.specs.Walk.{and_then, as_choice, walk, walk_option, with_option}
use Rattle.ctf_decode.specs.declared.scopes.TheConstants.{MOST_VALUES}
use Rattle.ctf_decode.proofs.Steps.{choice_ok}
use Rattle.ctf_format.specs.Found.{Finds}
use Rattle.ctf_format.specs.Branches.{Anywhere, HasBranch, HasBranches, HasElement, HasFields, HasItems, HasNested, HasOptions, IsArrayThere, IsSlotThere, IsThere, PassesSlots, PutsRowOf, TakesBranch}
use Rattle.ctf_format.specs.Kept.{CountsWhere, IsCounted, KeepsIf, PutsSlot, PutsSlots, Within}
use Rattle.ctf_format.specs.Passing.{Passes, next_at}
use Rattle.ctf_format.specs.Records.{PutsFields, Reached, IsNearShown, after_last, after_value, reached}
use Rattle.ctf_format.specs.Rows.{enclosed}
use Rattle.ctf_format.specs.Standing.{Before, Counts, PutsNext, PutsOne, PutsWhere, StandsAs, ValueIs, among, array_text, variant_text}
use Rattle.ctf_format.specs.Texts.{Shown, element_text, enumeration_text, integer_text, member_part, part_text, string_text, value_text}
use Rattle.ctf_format.specs.declared.content.Content.{Content}
use Rattle.ctf_format.specs.declared.planned_record.Reach.{Reach}
use Rattle.ctf_format.specs.declared.standing.Last.{Last}
use Rattle.ctf_format.specs.declared.standing.Last.TheVariants as lasts
use Rattle.ctf_format.specs.declared.element.ElementLead.{ElementLead}
use Rattle.ctf_format.specs.declared.standing.MembersEnd.{MembersEnd}
use Rattle.ctf_format.specs.declared.standing.Next.{Next}
use Rattle.ctf_format.proofs.ElementsLemmas.{counted_array, Going, closed, counted_text, element_after, going_begins, going_ends, going_on, items_walk, no_items, form_any, form_enumeration, form_variant, text_any, text_enumeration, text_variant}
use Rattle.ctf_format.proofs.KeptLemmas.{knows_at}
use Rattle.ctf_format.proofs.PartsLemmas.{closed_option, option_shown}
use Rattle.ctf_format.proofs.RecordsLemmas.{fields_slots, piece_next, pieces_scope, runs_plain, shown_near, slots_join}
use Rattle.ctf_format.proofs.StandingLemmas.{begins, form_integer, form_text, mark_at, puts_next, text_integer, text_text}
use Rattle.ctf_format.proofs.StartsLemmas.{at_one}

-- what is listed
abbrev in_list : Branches-F Branches InnerPlans Branch RecordPlan → List Branch
in_list (Branches-F.Listed bs) = bs

abbrev pub listed_in : Branches → List Branch
listed_in bs = in_list (out-Branches bs)

-- the fields of a plan are those of the branches that it has
pub planned_listed : (depth : ℕ) (slots : List Slot) (p : RecordPlan) → IsPlanned depth slots p → (inner : ℕ) × AreBranches (IsPlanned inner) slots (listed_in p.branches) p.runs
planned_listed zero slots p planned = absurd planned
planned_listed (suc inner) slots p planned = (inner, listed (out-Branches p.branches) planned)
  where
    listed : (those : Branches-F Branches InnerPlans Branch RecordPlan) → AreThose (IsPlanned inner) slots those p.runs → AreBranches (IsPlanned inner) slots (in_list those) p.runs
    listed (Branches-F.Listed bs) are = are

-- of one without any they are those of its runs
pub planned_runs : (depth : ℕ) (slots : List Slot) (p : RecordPlan) → listed_in p.branches ≡ [] → IsPlanned depth slots p → AreRuns slots p.runs
planned_runs depth slots p none planned =
    let all = planned_listed depth slots p planned in
    subst (λ bs. AreBranches (IsPlanned all.0) slots bs p.runs) none all.1

-- the first of some branches
pub takes_branch : (depth : ℕ) (ss : List Slot) (b : Branch) (bs : List Branch) (rs : List PlannedRun) → AreBranches (IsPlanned depth) ss (b ∷ bs) rs → (others : List Slot) × TakesBranch depth ss b others × AreBranches (IsPlanned depth) others bs rs
takes_branch depth ss b bs rs are = (are.2, (are.0, are.1, are.3, are.4, are.5), are.6)

abbrev each_of : InnerPlans-F Branches InnerPlans Branch RecordPlan → List RecordPlan
each_of (InnerPlans-F.Each ps) = ps

abbrev pub each_in : InnerPlans → List RecordPlan
each_in ps = each_of (out-InnerPlans ps)

-- a field has the plans that are listed
pub nested_listed : (P : List Slot → RecordPlan → Type 0) (s : Slot) (n : Nested) (ps : InnerPlans) → IsListed P s n (out-InnerPlans ps) → IsNested P s n (each_in ps)
nested_listed P s n ps is = listed (out-InnerPlans ps) is
  where
    listed : (those : InnerPlans-F Branches InnerPlans Branch RecordPlan) → IsListed P s n those → IsNested P s n (each_of those)
    listed (InnerPlans-F.Each qs) is = is

-- the option of an index, and its plan
pub option_plan : (P : List Slot → RecordPlan → Type 0) (known : List Route) (ms : List Member) (ps : List RecordPlan) (i : ℕ) (p : RecordPlan) → AreEach P known ms ps → i < length ps → p ≡ get_or ps i p → (m : Member) × (i < length ms) × (m ≡ get_or ms i m) × IsOption P known m p
option_plan P known [] [] i p are within is = absurd (omega (arith, within))
option_plan P known [] (q ∷ ps) i p are within is = absurd are
option_plan P known (m ∷ ms) [] i p are within is = absurd are
option_plan P known (m ∷ ms) (q ∷ ps) zero p are within is = (m, omega arith, refl, subst (IsOption P known m) (sym is) are.0)
option_plan P known (m ∷ ms) (q ∷ ps) (suc i) p are within is =
    let o = option_plan P known ms ps i p are.1 (omega (arith, within)) is in
    (o.0, omega (arith, o.1), o.2, o.3)

-- so each of some plans has fields
pub option_planned : (depth : ℕ) (known : List Route) (m : Member) (p : RecordPlan) → IsOption (IsPlanned depth) known m p → HasFields p
option_planned depth known m p is = record { depth = depth; slots = piece_slots (first_at (123 ∷ 32 ∷ []) 1 known) is.0; are = is.5 }

pub option_fields : (ps : List RecordPlan) (i : ℕ) (p : RecordPlan) → HasOptions ps → i < length ps → p ≡ get_or ps i p → HasFields p
option_fields ps i p has within is =
    let found = option_plan (IsPlanned has.depth) has.known has.options ps i p has.are within is in
    option_planned has.depth has.known found.0 p found.3

pub element_planned : (p : RecordPlan) → HasElement p → HasFields p
element_planned p has = record { depth = has.depth; slots = scope_slots [] has.known has.class has.is.0; are = has.is.4 }

-- the plan of elements that are not shown otherwise is the first
pub item_plan : (P : List Slot → RecordPlan → Type 0) (known : List Route) (k : Class) (shown : Option PlannedShown) (ps : List RecordPlan) (p : RecordPlan) → IsItem P known k shown ps → shown ≡ None → p ≡ get_or ps 0 p → IsElement P known k p
item_plan P known k (Some shown) ps p are none is = absurd (some_none none)
  where
    some_none : Some shown ≡ None → ⊥
    some_none same = cc
item_plan P known k None ps p are none is = subst (IsElement P known k) (sym (is ∙ ap (λ qs. get_or qs 0 p) are.1)) are.2

pub has_element : (e : Elements) (ps : List RecordPlan) (p : RecordPlan) → HasItems e ps → e.shown ≡ None → p ≡ get_or ps 0 p → HasElement p
has_element e ps p has none is = record { depth = has.depth; known = has.known; class = has.class; is = item_plan (IsPlanned has.depth) has.known has.class e.shown ps p has.are none is }

-- what is shown otherwise is near
pub item_shown : (P : List Slot → RecordPlan → Type 0) (known : List Route) (k : Class) (shown : Option PlannedShown) (what : PlannedShown) (ps : List RecordPlan) → IsItem P known k shown ps → shown ≡ Some what → IsShown 0 k what
item_shown P known k shown what ps are is = subst (λ o. IsItem P known k o ps) is are

pub has_near : (e : Elements) (what : PlannedShown) (ps : List RecordPlan) → HasItems e ps → e.shown ≡ Some what → IsNearShown what
has_near e what ps has is = shown_near 0 has.class what (item_shown (IsPlanned has.depth) has.known has.class e.shown what ps has.are is)

-- and each branch of a plan, and its plans
branch_at : (depth : ℕ) (ss : List Slot) (bs : List Branch) (rs : List PlannedRun) (i : ℕ) (b : Branch) → AreBranches (IsPlanned depth) ss bs rs → i < length bs → b ≡ get_or bs i b → HasBranch b
branch_at depth ss [] rs i b are within is = absurd (omega (arith, within))
branch_at depth ss (a ∷ bs) rs zero b are within is =
    let first = takes_branch depth ss a bs rs are in
    subst HasBranch (sym is) (record { depth = depth; slots = ss; others = first.0; takes = first.1 })
branch_at depth ss (a ∷ bs) rs (suc i) b are within is = branch_at depth are.2 bs rs i b are.6 (omega (arith, within)) is

pub has_branch : (bs : List Branch) (i : ℕ) (b : Branch) → HasBranches bs → i < length bs → b ≡ get_or bs i b → HasBranch b
has_branch bs i b has within is = branch_at has.depth has.slots bs has.runs i b has.are within is

pub has_branches : (p : RecordPlan) (bs : List Branch) → HasFields p → bs ≡ listed_in p.branches → HasBranches bs
has_branches p bs has same =
    let all = planned_listed has.depth has.slots p has.are in
    record { depth = all.0; slots = has.slots; runs = p.runs; are = subst (λ xs. AreBranches (IsPlanned all.0) has.slots xs p.runs) (sym same) all.1 }

pub has_nested : (b : Branch) (ps : List RecordPlan) → HasBranch b → ps ≡ each_in b.plans → HasNested b.nested ps
has_nested b ps has same =
    let P = IsPlanned has.depth in
    let s = has.takes.1 in
    record { depth = has.depth; slot = s; is = subst (IsNested P s b.nested) (sym same) (nested_listed P s b.nested b.plans has.takes.4.nested) }

pub has_items : (n : Nested) (a : PlannedArray) (ps : List RecordPlan) → HasNested n ps → n ≡ nested.Array a → HasItems a.elements ps
has_items n a ps has is =
    let so = (subst (λ x. IsNested (IsPlanned has.depth) has.slot x ps) is has.is).1 in
    record { depth = has.depth; known = has.slot.known; class = so.element; are = so.are }

-- braces after a text, and one more before them
one_more : (n : ℕ) (line : List ℕ) → (line ++ (32 ∷ 125 ∷ [])) ++ ends n ≡ (line ++ ends n) ++ (32 ∷ 125 ∷ [])
one_more n line = append_assoc line (32 ∷ 125 ∷ []) (ends n) ∙ ap (λ xs. line ++ xs) (sym (ends_on n)) ∙ sym (append_assoc line (ends n) (32 ∷ 125 ∷ []))

-- within a structure where something is known is within one
anywhere_of : (known : List Route) (ns : List Last) (earlier : Scope → Option Val) (env : Env) → Within known ns earlier env → Anywhere earlier env
anywhere_of known ns earlier [] there = absurd there
anywhere_of known ns earlier (vs ∷ env) there = tt

pub where_less : (known : List Route) (ns : List Last) (k : Form) (shown : Shown) (packet : List ℕ) (content place : ℕ) (line : List ℕ) (n : Next) (after : List ℕ) → PutsWhere Anywhere k shown packet content place line n after → PutsWhere (Within known ns) k shown packet content place line n after
where_less known ns k shown packet content place line n after puts spent room earlier env there = puts spent room earlier env (anywhere_of known ns earlier env there)

pub row_less : (together : List (List ℕ) → List ℕ) (known : List Route) (ns : List Last) (k : Class) (count : ℕ) (packet : Content) (place : ℕ) (line : List ℕ) (end : MembersEnd) (after : List ℕ) → PutsRowOf together Anywhere k count packet place line end after → PutsRowOf together (Within known ns) k count packet place line end after
row_less together known ns k count packet place line end after puts spent room earlier env there = puts spent room earlier env (anywhere_of known ns earlier env there)

-- the fields of an option's plan, and the braces after them, are the option
pub option_there : (depth : ℕ) (known : List Route) (m : Member) (p : RecordPlan) (packet : Content) (to end : Reach) (place : ℕ) (ns ms : List Last) (before line after : List ℕ) (is : IsOption (IsPlanned depth) known m p) → PutsSlots (option_planned depth known m p is).slots packet.bytes.now packet.end (after_value place 0 lasts.Unknown before) ns (reached to line) ms
    → after ≡ (line ++ (32 ∷ 125 ∷ [])) ++ ends p.ended → end.more ≡ to.more + p.count + 1 → end.place ≡ to.place → IsThere known ns m packet place end before after
unfolding option_planned
option_there depth known m p packet to end place ns ms before line after is puts wrote counted ends_at =
    let piece : Piece = is.0 in
    let o : Member = member_of piece in
    let ended = ended_by piece in
    let some = to.more + inside piece in
    let total : end.more ≡ 1 + some = (let b = is.3 in omega (arith, counted, b)) in
    let shown : Shown = λ v. enclosed 123 125 (part_text (member_part o) v ∷ []) in
    let longer = line ++ ends ended in
    let braced : after ≡ longer ++ (32 ∷ 125 ∷ []) = wrote ∙ ap (λ k. (line ++ (32 ∷ 125 ∷ [])) ++ ends k) is.4 ∙ one_more ended line in
    let there : Next = record { place = end.place; text = 0; more = some; last = lasts.Unknown } in
    let next : (spent : ℕ) → spent + some < MOST_VALUES → (earlier : Scope → Option Val) (env : Env) → Within known ns earlier env → (v : Val) × (walk (form o.class) (among packet.bytes.now packet.end earlier) env place spent ≡ Ok (v, end.place, spent + 1 + some)) × (after ≡ before ++ shown v) × ValueIs lasts.Unknown v = λ spent room earlier env within. in_structure spent room earlier env within in
    subst (λ x. IsThere known ns x packet place end before after) is.1 (some, total, next)
  where
    in_structure : (spent : ℕ) → spent + (to.more + inside is.0) < MOST_VALUES → (earlier : Scope → Option Val) (env : Env) → Within known ns earlier env → (v : Val) × (walk (form (member_of is.0).class) (among packet.bytes.now packet.end earlier) env place spent ≡ Ok (v, end.place, spent + 1 + (to.more + inside is.0))) × (after ≡ before ++ enclosed 123 125 (part_text (member_part (member_of is.0)) v ∷ [])) × ValueIs lasts.Unknown v
    in_structure spent room earlier [] within = absurd within
    in_structure spent room earlier (vs ∷ env) within =
        let piece : Piece = is.0 in
        let o : Member = member_of piece in
        let ended = ended_by piece in
        let one = piece_next packet.bytes.now packet.end piece (length vs) (first_at (123 ∷ 32 ∷ []) 1 known) [] 123 (after_value place 0 lasts.Unknown before) (reached to line) ns ms refl is.2 within.0 puts in
        let same : to.more ≡ one.0 = (let a = one.1 in omega (arith, a)) in
        let v = one.4 spent (omega (arith, room, same)) earlier env vs refl tt tt within.1 in
        let longer = line ++ ends ended in
        let braced : after ≡ longer ++ (32 ∷ 125 ∷ []) = wrote ∙ ap (λ k. (line ++ (32 ∷ 125 ∷ [])) ++ ends k) is.4 ∙ one_more ended line in
        let begun : longer ≡ before ++ (123 ∷ 32 ∷ part_text (member_part o) v.0) = v.2 ∙ ap (λ xs. xs ++ (123 ∷ 32 ∷ part_text (member_part o) v.0)) (append-nil before) in
        let sum : spent + 1 + (one.0 + inside piece) ≡ spent + 1 + (to.more + inside piece) = omega (arith, same) in
        (v.0, ap (λ q. walk (form o.class) (among packet.bytes.now packet.end earlier) (vs ∷ env) q spent) (sym (at_one place)) ∙ v.1 ∙ (λ j. Ok (v.0, sym ends_at j, sum j)), braced ∙ closed_option (o ∷ []) 0 o v.0 longer before (omega arith) refl begun, tt)

-- so are those that are passed over
pub option_passes : (depth : ℕ) (known : List Route) (m : Member) (p : RecordPlan) (packet : Content) (to end : Reach) (place : ℕ) (ns ms : List Last) (is : IsOption (IsPlanned depth) known m p) → Passes (λ before line. PutsSlots (option_planned depth known m p is).slots packet.bytes.now packet.end (after_value place 0 lasts.Unknown before) ns (reached to line) ms)
    → end.more ≡ to.more + p.count + 1 → end.place ≡ to.place → Passes (IsThere known ns m packet place end)
option_passes depth known m p packet to end place ns ms is passes counted ends_at before =
    let w = passes before in
    let after = (w.0 ++ (32 ∷ 125 ∷ [])) ++ ends p.ended in
    (after, option_there depth known m p packet to end place ns ms before w.0 after is w.1 refl counted ends_at)

-- as far as a value
abbrev pub reach_of : Next → Reach
reach_of n = record { place = n.place; more = n.more }

-- of a value nothing need be known
pub where_ends : (Where : (Scope → Option Val) → Env → Type 0) (k : Form) (shown : Shown) (packet : List ℕ) (content place : ℕ) (line : List ℕ) (n : Next) (after : List ℕ) → PutsWhere Where k shown packet content place line n after → PutsWhere Where k shown packet content place line (next_at (reach_of n)) after
where_ends Where k shown packet content place line n after puts spent room earlier env there =
    let p = puts spent room earlier env there in
    (p.0, p.1, p.2, tt)

-- a value after what is printed before it is a field
pub nested_slot : (s : Slot) (packet : Content) (place : ℕ) (n : Next) (line after : List ℕ) (ns ms : List Last) → place ≤ packet.end → PutsWhere (Within s.known ns) (form s.class) (value_text s.class) packet.bytes.now packet.end place line n after → KeepsIf s.kept (form s.class) packet.bytes.now packet.end place ns ms
    → IsSlotThere s packet place (reach_of n) line ns after ms
nested_slot s packet place n line after ns ms within puts keeps from more before begins led =
    let bytes = packet.bytes.now in
    let begun = next_multiple_of from s.align in
    let shown : Shown = λ v. s.lead ++ value_text s.class v in
    let at : place ≡ begun = begins in (
      omega (arith, begins, within),
      n.more,
      refl,
      λ spent room earlier env vs counted last there.
          let p = puts spent room earlier (vs ∷ env) there in
          let text = value_text s.class p.0 in
          (p.0, ap (λ q. walk (form s.class) (among bytes packet.end earlier) (vs ∷ env) q spent) (sym at) ∙ p.1, p.2 ∙ ap (λ xs. xs ++ text) led ∙ append_assoc before s.lead text, tt),
      tt,
      subst (λ q. KeepsIf s.kept (form s.class) bytes packet.end q ns ms) at keeps,
    )

-- one whose number is not kept
unkept : (s : Slot) (packet : Content) (place : ℕ) (ns : List Last) → s.kept ≡ false → KeepsIf s.kept (form s.class) packet.bytes.now packet.end place ns ns
unkept s packet place ns none = subst (λ b. KeepsIf b (form s.class) packet.bytes.now packet.end place ns ns) (sym none) refl

-- what is decoded before has no part in a value
abbrev IsBlind : Form → Type 0
IsBlind f = (c : Input) (env : Env) (place spent : ℕ) → walk f c env place spent ≡ walk f c ([] ∷ env) place spent

-- what is known of a value alone that was written stands there
last_stands : (l : Last) (f : Form) (shown : Shown) (packet : List ℕ) (content place : ℕ) (line : List ℕ) (n : Next) (after : List ℕ) → IsBlind f → l ≡ n.last → n.more ≡ 0 → PutsNext (after_last 0 lasts.Unknown) f shown packet content place line n after → StandsAs l f packet content place
last_stands lasts.Unknown f shown packet content place line n after blind is none puts = tt
last_stands (lasts.Unsigned m) f shown packet content place line n after blind is none puts = λ spent few earlier env.
    let p = puts spent (omega (arith, few, none)) earlier env [] tt tt in
    let known : p.0 ≡ unsigned m = subst (λ k. ValueIs k p.0) (sym is) p.3 in
    let total : spent + 1 + n.more ≡ spent + 1 = omega (arith, none) in
    (n.place, blind (among packet content earlier) env place spent ∙ p.1 ∙ (λ j. Ok (known j, n.place, total j)))
last_stands (lasts.Label z) f shown packet content place line n after blind is none puts = λ spent few earlier env.
    let p = puts spent (omega (arith, few, none)) earlier env [] tt tt in
    let known : p.0 ≡ label z = subst (λ k. ValueIs k p.0) (sym is) p.3 in
    let total : spent + 1 + n.more ≡ spent + 1 = omega (arith, none) in
    (n.place, blind (among packet content earlier) env place spent ∙ p.1 ∙ (λ j. Ok (known j, n.place, total j)))

-- a value after members of which nothing is known is anywhere in a structure
pub next_anywhere : (k : Form) (shown : Shown) (packet : List ℕ) (content place : ℕ) (line : List ℕ) (n : Next) (after : List ℕ) → PutsNext (after_last 0 lasts.Unknown) k shown packet content place line n after → PutsWhere Anywhere k shown packet content place line n after
next_anywhere k shown packet content place line n after puts spent room earlier [] there = absurd there
next_anywhere k shown packet content place line n after puts spent room earlier (vs ∷ env) there = puts spent room earlier env vs tt tt

-- a value alone whose number is kept
kept_there : (s : Slot) (f : Form) (shown : Shown) (packet : Content) (place : ℕ) (n : Next) (line after : List ℕ) (ns ms : List Last) → IsBlind f → f ≡ form s.class → shown ≡ value_text s.class → s.kept ≡ true → place ≤ packet.end → n.more ≡ 0 → ms ≡ ns ++ n.last ∷ []
    → PutsNext (after_last 0 lasts.Unknown) f shown packet.bytes.now packet.end place line n after → IsSlotThere s packet place (record { place = n.place; more = 0 }) line ns after ms
kept_there s f shown packet place n line after ns ms blind forms_are texts_are kept within none keeps puts =
    let bytes = packet.bytes.now in
    let stands = last_stands n.last f shown bytes packet.end place line n after blind refl none puts in
    let told : PutsWhere (Within s.known ns) f shown bytes packet.end place line n after = where_less s.known ns f shown bytes packet.end place line n after (next_anywhere f shown bytes packet.end place line n after puts) in
    let as_class : PutsWhere (Within s.known ns) (form s.class) (value_text s.class) bytes packet.end place line n after = subst (λ t. PutsWhere (Within s.known ns) (form s.class) t bytes packet.end place line n after) texts_are (subst (λ g. PutsWhere (Within s.known ns) g shown bytes packet.end place line n after) forms_are told) in
    let keeps_it : KeepsIf s.kept (form s.class) bytes packet.end place ns ms = subst (λ b. KeepsIf b (form s.class) bytes packet.end place ns ms) (sym kept) (n.last, subst (λ g. StandsAs n.last g bytes packet.end place) forms_are stands, keeps) in
    subst (λ m. IsSlotThere s packet place (record { place = n.place; more = m }) line ns after ms) none (nested_slot s packet place n line after ns ms within as_class keeps_it)

pub number_there : (s : Slot) (lone : LoneInteger) (packet : Content) (place : ℕ) (n : Next) (line after : List ℕ) (ns ms : List Last) → IsInteger s.class lone.integer lone.align → s.kept ≡ true → place ≤ packet.end → n.more ≡ 0 → ms ≡ ns ++ n.last ∷ []
    → PutsNext (after_last 0 lasts.Unknown) (forms.integer lone.align lone.integer) (integer_text lone.integer) packet.bytes.now packet.end place line n after → IsSlotThere s packet place (record { place = n.place; more = 0 }) line ns after ms
number_there s lone packet place n line after ns ms is kept within none keeps puts =
    let i = lone.integer in
    let forms_are : forms.integer lone.align i ≡ form s.class = ap (λ x. forms.integer x i) is.1 ∙ form_integer s.class i is.0 in
    kept_there s (forms.integer lone.align i) (integer_text i) packet place n line after ns ms (λ c env q r. refl) forms_are (text_integer s.class i is.0) kept within none keeps puts

pub label_there : (s : Slot) (labelled : Labelled) (packet : Content) (place : ℕ) (n : Next) (line after : List ℕ) (ns ms : List Last) → IsLabelled s.class labelled → s.kept ≡ true → place ≤ packet.end → n.more ≡ 0 → ms ≡ ns ++ n.last ∷ []
    → PutsNext (after_last 0 lasts.Unknown) (forms.enumeration labelled.align labelled.container) (enumeration_text labelled.container labelled.labels) packet.bytes.now packet.end place line n after → IsSlotThere s packet place (record { place = n.place; more = 0 }) line ns after ms
label_there s labelled packet place n line after ns ms is kept within none keeps puts =
    let k = labelled.container in
    let forms_are : forms.enumeration labelled.align k ≡ form s.class = ap (λ x. forms.enumeration x k) is.1 ∙ form_enumeration s.class k labelled.labels is.0 in
    kept_there s (forms.enumeration labelled.align k) (enumeration_text k labelled.labels) packet place n line after ns ms (λ c env q r. refl) forms_are (text_enumeration s.class k labelled.labels is.0) kept within none keeps puts

-- the number that a route leads to is the kept one
found_number : (known : List Route) (ns : List Last) (place n : ℕ) (r : Route) (earlier : Scope → Option Val) (env : Env) → LeadsTo known r place → get_or ns place lasts.Unknown ≡ lasts.Unsigned n → Within known ns earlier env → found r earlier env ≡ Some (unsigned n)
found_number known ns place n r earlier [] leads is there = absurd there
found_number known ns place n r earlier (vs ∷ env) leads is there = subst (λ l. Finds l (found r earlier (vs ∷ env))) is (knows_at known ns place r earlier (vs ∷ env) leads there.1)

found_label : (known : List Route) (ns : List Last) (place : ℕ) (z : ℤ) (r : Route) (earlier : Scope → Option Val) (env : Env) → LeadsTo known r place → get_or ns place lasts.Unknown ≡ lasts.Label z → Within known ns earlier env → found r earlier env ≡ Some (label z)
found_label known ns place z r earlier [] leads is there = absurd there
found_label known ns place z r earlier (vs ∷ env) leads is there = subst (λ l. Finds l (found r earlier (vs ∷ env))) is (knows_at known ns place r earlier (vs ∷ env) leads there.1)

-- how many elements a length says
pub counts_where : (known : List Route) (ns : List Last) (many : Length) (c : Count) (n : ℕ) → IsCount known many c → IsCounted c ns n → CountsWhere (Within known ns) many n
counts_where known ns many (counts.Fixed m) n is counted earlier env there = ap (λ l. length_of l earlier env) is ∙ sym counted
counts_where known ns many (counts.Kept place) n is counted earlier env there = ap (λ l. length_of l earlier env) is.1 ∙ ap number_of (found_number known ns place n is.0 earlier env is.2 counted there)

-- the option that a tag chooses is the value of its variant
pub variant_there : (P : List Slot → RecordPlan → Type 0) (s : Slot) (v : PlannedVariant) (ps : List RecordPlan) (packet : Content) (place i : ℕ) (z : ℤ) (m : Member) (end : Reach) (line after : List ℕ) (ns : List Last) → s.kept ≡ false → (is : IsVariant P s v ps) → place ≤ packet.end → get_or ns v.tag lasts.Unknown ≡ lasts.Label z → chosen v.choices z ≡ Some i → i < length is.options → m ≡ get_or is.options i m
    → IsThere s.known ns m packet place end line after → IsSlotThere s packet place end line ns after ns
variant_there P s v ps packet place i z m end line after ns kept is within tagged chooses few option there =
    let ms = is.options in
    let a = s.class.align in
    let bytes = packet.bytes.now in
    let k = forms.variant a is.tag v.choices (parts_of (map views.member_part ms)) in
    let to = next_at end in
    let puts : PutsWhere (Within s.known ns) k (variant_text ms) bytes packet.end place line to after = λ spent room earlier env around.
    let c = among bytes packet.end earlier in
    let more = there.1 in
    let p = there.2 (spent + 1) (omega (arith, room, more)) earlier env around in
    let parts = parts_of (map views.member_part ms) in
    let rest = λ (x : ℕ). and_then (walk_option parts x c env place (spent + 1)) (as_choice x) in
    let total : spent + 1 + 1 + there.0 ≡ spent + 1 + end.more = omega (arith, more) in
    let choice_is : option_at is.tag v.choices earlier env ≡ Some i = ap (λ o. option_and_then (chosen v.choices) (tag_of o)) (found_label s.known ns v.tag z is.tag earlier env is.leads tagged around) ∙ chooses in
    let walked = begins c spent (with_option (option_at is.tag v.choices earlier env) rest) (omega (arith, room)) ∙ ap (λ o. with_option o rest) choice_is ∙ choice_ok c env ms i m few option place (spent + 1) p.0 end.place (spent + 1 + 1 + there.0) p.1 ∙ ap (λ x. Ok (choice i p.0, end.place, x)) total in
    (choice i p.0, walked, p.2 ∙ ap (λ xs. line ++ xs) (sym (option_shown ms i m p.0 few option)), tt)
    in
    let as_class : PutsWhere (Within s.known ns) (form s.class) (value_text s.class) bytes packet.end place line to after = subst (λ t. PutsWhere (Within s.known ns) (form s.class) t bytes packet.end place line to after) (text_variant s.class is.tag v.choices ms is.is) (subst (λ f. PutsWhere (Within s.known ns) f (variant_text ms) bytes packet.end place line to after) (form_variant s.class is.tag v.choices ms is.is) puts) in
    nested_slot s packet place to line after ns ns within as_class (unkept s packet place ns kept)

-- an array of as many elements as its count says
pub array_there : (P : List Slot → RecordPlan → Type 0) (s : Slot) (a : PlannedArray) (ps : List RecordPlan) (packet : Content) (place count : ℕ) (to : Reach) (line after : List ℕ) (ns : List Last) → s.kept ≡ false → (is : IsArray P s a ps) → place ≤ packet.end → IsCounted a.count ns count
    → IsArrayThere (Within s.known ns) is.element count packet place to line after → IsSlotThere s packet place to line ns after ns
array_there P s a ps packet place count to line after ns kept is within counted there =
    let bytes = packet.bytes.now in
    let n = next_at to in
    let k = forms.array s.class.align is.length (form is.element) in
    let puts = there is.length s.class.align (counts_where s.known ns is.length a.count count is.counts counted) in
    let as_class : PutsWhere (Within s.known ns) (form s.class) (value_text s.class) bytes packet.end place line n after = subst (λ t. PutsWhere (Within s.known ns) (form s.class) t bytes packet.end place line n after) (text_any s.class is.length is.element is.is) (subst (λ f. PutsWhere (Within s.known ns) f (array_text (value_text is.element)) bytes packet.end place line n after) (form_any s.class is.length is.element is.is) puts) in
    nested_slot s packet place n line after ns ns within as_class (unkept s packet place ns kept)

-- a text of so many bytes
pub text_there : (s : Slot) (many : Length) (c : Count) (packet : Content) (place end count text : ℕ) (line after : List ℕ) (ns : List Last) → s.kept ≡ false → s.class.kind ≡ kind.Text many → IsCount s.known many c → place ≤ packet.end → IsCounted c ns count
    → PutsOne (forms.text s.class.align (lengths.Fixed count)) string_text packet.bytes.now packet.end place end line after → IsSlotThere s packet place (record { place = end; more = 0 }) line ns after ns
text_there s many c packet place end count text line after ns kept is counts within counted puts =
    let bytes = packet.bytes.now in
    let a = s.class.align in
    let n : Next = record { place = end; text = text; more = 0; last = lasts.Unknown } in
    let told : PutsWhere (Within s.known ns) (forms.text a many) string_text bytes packet.end place line n after = λ spent room earlier env there.
    let p = puts spent (omega (arith, room)) earlier env in
    let same = counted_text a many count (among bytes packet.end earlier) env place spent (counts_where s.known ns many c count counts counted earlier env there) in
    let none : spent + 1 ≡ spent + 1 + 0 = omega arith in
    (p.0, same ∙ p.1 ∙ ap (λ x. Ok (p.0, end, x)) none, p.2, tt)
    in
    let as_class : PutsWhere (Within s.known ns) (form s.class) (value_text s.class) bytes packet.end place line n after = subst (λ t. PutsWhere (Within s.known ns) (form s.class) t bytes packet.end place line n after) (text_text s.class many is) (subst (λ f. PutsWhere (Within s.known ns) f string_text bytes packet.end place line n after) (form_text s.class many is) told) in
    nested_slot s packet place n line after ns ns within as_class (unkept s packet place ns kept)

-- what holds where the numbers kept are those before
pub kept_same : {A : Type 0} (r : Option A) (P : List Last → A → Type 0) (ns ms : List Last) → IfSome r (λ x. ms ≡ ns) → IfSome r (P ns) → IfSome r (P ms)
kept_same None P ns ms same holds = tt
kept_same (Some x) P ns ms same holds = subst (λ xs. P xs x) (sym same) holds

-- a field is passed over as it is written
pub slot_passes : (s : Slot) (packet : Content) (place : ℕ) (to : Reach) (ns ms : List Last) → ((line : List ℕ) → (after : List ℕ) × IsSlotThere s packet place to line ns after ms)
    → (from more : ℕ) → place ≡ next_multiple_of from s.align → Passes (λ before after. PutsSlot s packet.bytes.now packet.end (after_value from more lasts.Unknown before) ns (after_value to.place (more + to.more) lasts.Unknown after) ms)
slot_passes s packet place to ns ms there from more begins before =
    let w = there (before ++ s.lead) in
    (w.0, w.1 from more before begins refl)

-- fields that are passed over, one after the other
pub slots_pass : (xs ys : List Slot) (packet : Content) (from mid to : Reach) (ns ks ms : List Last) → PassesSlots xs packet from ns mid ks → PassesSlots ys packet mid ks to ms → PassesSlots (xs ++ ys) packet from ns to ms
slots_pass xs ys packet from mid to ns ks ms first second before =
    let a = first before in
    let b = second a.0 in
    (b.0, slots_join packet.bytes.now packet.end xs ys (reached from before) (reached mid a.0) (reached to b.0) ns ks ms a.1 b.1)

pub runs_pass : (ss : List Slot) (rs : List PlannedRun) (packet : Content) (from to : Reach) (ns : List Last) → AreRuns ss rs → Passes (λ before after. PutsFields ss packet.bytes.now packet.end (reached from before) (reached to after)) → PassesSlots ss packet from ns to ns
runs_pass ss rs packet from to ns are passes before =
    let a = passes before in
    (a.0, fields_slots packet.bytes.now packet.end ss (reached from before) (reached to a.0) ns (runs_plain ss rs are) a.1)

-- a value after a text that is printed before it
pub where_after : (Where : (Scope → Option Val) → Env → Type 0) (k : Form) (shown told : Shown) (packet : List ℕ) (content place : ℕ) (from lead line : List ℕ) (n : Next) (after : List ℕ) → line ≡ from ++ lead → ((v : Val) → told v ≡ lead ++ shown v) → PutsWhere Where k shown packet content place line n after → PutsWhere Where k told packet content place from n after
where_after Where k shown told packet content place from lead line n after wrote is puts spent room earlier env there =
    let p = puts spent room earlier env there in
    (p.0, p.1, p.2 ∙ ap (λ xs. xs ++ shown p.0) wrote ∙ append_assoc from lead (shown p.0) ∙ ap (λ xs. from ++ xs) (sym (is p.0)), p.3)

-- the index of an element
abbrev pub index_of : ℕ → ℕ → List ℕ
index_of mark i = mark ∷ 32 ∷ 91 ∷ (decimal i ++ codes "] = ")

-- an element after its mark and its index
pub element_puts : (Where : (Scope → Option Val) → Env → Type 0) (lead : ElementLead) (k : Class) (packet : Content) (place : ℕ) (from line : List ℕ) (n : Next) (after : List ℕ) → line ≡ from ++ index_of lead.mark lead.index → PutsWhere Where (form k) (value_text k) packet.bytes.now packet.end place line n after
    → PutsWhere Where (form k) (λ v. lead.mark ∷ 32 ∷ element_text (value_text k) lead.index v) packet.bytes.now packet.end place from n after
element_puts Where lead k packet place from line n after wrote puts = where_after Where (form k) (value_text k) (λ v. lead.mark ∷ 32 ∷ element_text (value_text k) lead.index v) packet.bytes.now packet.end place from (index_of lead.mark lead.index) line n after wrote (element_after (value_text k) lead.mark lead.index) puts

-- elements that are passed over, one after the other
module _ (Where : (Scope → Option Val) → Env → Type 0) (k : Class) (count : ℕ) (packet : Content) (place : ℕ) where
  abbrev pub PassesGoing : ℕ → ℕ → ℕ → Type 0
  PassesGoing i at more = Passes (λ before line. Going Where packet.bytes.now packet.end (form k) (value_text k) count place i at more before line)

  pub passing_begins : PassesGoing 0 place 0
  passing_begins before = (before, going_begins Where packet.bytes.now packet.end (form k) (value_text k) count place before)

  pub passing_on : (i at more : ℕ) (to : Reach) → i < count → PassesGoing i at more → Passes (λ before after. PutsWhere Where (form k) (value_text k) packet.bytes.now packet.end at before (next_at to) after) → PassesGoing (i + 1) to.place (more + to.more)
  passing_on i at more to few so_far there before =
      let g = so_far before in
      let mark = mark_at 91 i in
      let line = g.0 ++ index_of mark i in
      let one = there line in
      let element = element_puts Where (record { mark = mark; index = i }) k packet at g.0 line (next_at to) one.0 refl one.1 in
      (one.0, going_on Where packet.bytes.now packet.end (form k) (value_text k) count place before i at more mark g.0 (next_at to) one.0 few refl g.1 element)

  pub passing_ends : (at more : ℕ) → (count ≡ 0 → at ≡ place) → (count ≡ 0 → more ≡ 0) → PassesGoing count at more → Passes (λ before after. PutsRowOf (enclosed 91 93) Where k count packet place before (record { place = at; text = 0; more = more }) after)
  passing_ends at more here none all before = by count refl
    where
      by : (n : ℕ) → count ≡ n → (after : List ℕ) × PutsRowOf (enclosed 91 93) Where k count packet place before (record { place = at; text = 0; more = more }) after
      by zero zeroed =
          let after = before ++ (91 ∷ 32 ∷ 93 ∷ []) in
          let bare = no_items Where packet.bytes.now packet.end (form k) (value_text k) count place 0 before after zeroed refl in
          (after, subst (λ q. PutsRowOf (enclosed 91 93) Where k count packet place before (record { place = q; text = 0; more = more }) after) (sym (here zeroed)) (subst (λ q. PutsRowOf (enclosed 91 93) Where k count packet place before (record { place = place; text = 0; more = q }) after) (sym (none zeroed)) bare))
      by (suc n) some =
          let g = all before in
          let after = g.0 ++ (32 ∷ 93 ∷ []) in
          let ends_so = going_ends Where packet.bytes.now packet.end (form k) (value_text k) count place before at more 0 g.0 g.1 in
          (after, closed Where packet.bytes.now packet.end (form k) (value_text k) count place before (record { place = at; text = 0; more = more }) 0 g.0 after (omega (arith, some)) refl ends_so)

-- an array of elements that are there
pub row_array : (Where : (Scope → Option Val) → Env → Type 0) (k : Class) (count : ℕ) (packet : Content) (place start more align : ℕ) (end : MembersEnd) (to : Reach) (line after : List ℕ) → align ≡ k.align → start ≡ next_multiple_of place align → start ≤ packet.end → more ≡ count + end.more → to.place ≡ end.place → to.more ≡ more
    → PutsRowOf (enclosed 91 93) Where k count packet start line end after → IsArrayThere Where k count packet place to line after
row_array Where k count packet place start more align end to line after aligned begins within sum at total row many a counts spent room earlier env there =
    let starts : start ≡ next_multiple_of place k.align = begins ∙ ap (next_multiple_of place) aligned in
    let v = items_walk Where packet.bytes.now packet.end a many k place start count more end line after starts within sum row spent (omega (arith, room, total)) earlier env there (counts earlier env there) in
    (v.0, v.1 ∙ (λ j. Ok (v.0, sym at j, spent + 1 + sym total j)), v.2, tt)

-- a value alone that is passed over
pub one_passes : (k : Class) (packet : Content) (place end : ℕ) → Passes (PutsOne (form k) (value_text k) packet.bytes.now packet.end place end) → (before : Before) → Passes (λ line after. PutsNext before (form k) (value_text k) packet.bytes.now packet.end place line (record { place = end; text = 0; more = 0; last = lasts.Unknown }) after)
one_passes k packet place end passes before line =
    let p = passes line in
    (p.0, puts_next before (form k) (value_text k) packet.bytes.now packet.end place end 0 line p.0 p.1)

-- a length that is fixed
pub counts_so : (many : Length) (count : ℕ) (before : Before) → many ≡ lengths.Fixed count → Counts many before count
counts_so many count before is earlier env vs counted last = ap (λ l. length_of l earlier (vs ∷ env)) is

-- the fields of an element's pieces, and the braces after them, are the element
element_pieces : (ps : Pieces) (k : Class) (known : List Route) (packet : List ℕ) (content place : ℕ) (to : Reach) (ns ms : List Last) (before line : List ℕ) → IsOfPieces k ps → PutsSlots (scope_slots [] known k ps) packet content (after_value place 0 lasts.Unknown before) ns (reached to line) ms
    → (spent : ℕ) → spent + (to.more + (length (members_of ps) + insides ps)) < MOST_VALUES → (earlier : Scope → Option Val) (env : Env) → Within known ns earlier env
    → (v : Val) × (walk (form k) (among packet content earlier) env place spent ≡ Ok (v, to.place, spent + 1 + (to.more + (length (members_of ps) + insides ps)))) × (line ++ ends (ended_in ps) ≡ before ++ value_text k v)
element_pieces ps k known packet content place to ns ms before line is puts spent room earlier [] there = absurd there
element_pieces no_pieces k known packet content place to ns ms before line is puts spent room earlier (vs ∷ env) there =
    let f = puts.2 in
    let ends_so : (reached to line) ≡ puts.0 = puts.3.0 in
    let more : to.more ≡ f.1 = (let a = ap (λ (r : Reached). r.more) ends_so in let b = f.2 in omega (arith, a, b)) in
    let p = f.3 spent (omega (arith, room, more)) earlier env vs tt tt there in
    let total : spent + 1 + f.1 ≡ spent + 1 + (to.more + (0 + 0)) = omega (arith, more) in
    let place_is : puts.0.place ≡ to.place = ap (λ (r : Reached). r.place) (sym ends_so) in
    let line_is : line ≡ puts.0.line = ap (λ (r : Reached). r.line) ends_so in
    (p.0, ap (λ q. walk (form k) (among packet content earlier) (vs ∷ env) q spent) (sym (at_one place)) ∙ p.1 ∙ (λ j. Ok (p.0, place_is j, total j)), append-nil line ∙ line_is ∙ p.2)
element_pieces (more_pieces p ps) k known packet content place to ns ms before line is puts spent room earlier (vs ∷ env) there =
    let all = more_pieces p ps in
    let one = pieces_scope packet content all k k.align [] known (after_value place 0 lasts.Unknown before) (reached to line) ns ms is.0 (omega arith) is.1 there.0 puts in
    let same : to.more ≡ one.0 = (let a = one.1 in omega (arith, a)) in
    let v = one.3 place refl spent (omega (arith, room, same)) earlier (vs ∷ env) there.1 in
    let total : spent + 1 + length (members_of all) + insides all + one.0 ≡ spent + 1 + (to.more + (length (members_of all) + insides all)) = omega (arith, same) in
    (v.0, v.1 ∙ ap (λ c. Ok (v.0, to.place, c)) total, ap (λ xs. line ++ xs) (sym (ends_on _)) ∙ v.2 ∙ ap (λ xs. xs ++ value_text k v.0) (append-nil before))

pub element_there : (depth : ℕ) (known : List Route) (k : Class) (p : RecordPlan) (packet : Content) (to end : Reach) (place : ℕ) (ns ms : List Last) (before line after : List ℕ) (is : IsElement (IsPlanned depth) known k p) → PutsSlots (scope_slots [] known k is.0) packet.bytes.now packet.end (after_value place 0 lasts.Unknown before) ns (reached to line) ms
    → after ≡ line ++ ends p.ended → end.more ≡ to.more + p.count → end.place ≡ to.place → PutsWhere (Within known ns) (form k) (value_text k) packet.bytes.now packet.end place before (next_at end) after
element_there depth known k p packet to end place ns ms before line after is puts wrote counted ends_there spent room earlier env there =
    let text : after ≡ line ++ ends (ended_in is.0) = wrote ∙ ap (λ c. line ++ ends c) is.3 in
    let more : to.more + (length (members_of is.0) + insides is.0) ≡ end.more = ap (λ c. to.more + c) (sym is.2) ∙ sym counted in
    let v = element_pieces is.0 k known packet.bytes.now packet.end place to ns ms before line is.1 puts spent (omega (arith, room, more)) earlier env there in
    (v.0, v.1 ∙ (λ j. Ok (v.0, sym ends_there j, spent + 1 + more j)), text ∙ v.2, tt)

-- An array that is there by any length that counts so many is there by one that kept numbers tell.
pub array_counted : (n : Next) (known : List Route) (ns : List Last) (k : Class) (e : Form) (shown : Shown) (count : ℕ) (packet : Content) (place : ℕ) (line after : List ℕ) → e ≡ form k → shown ≡ value_text k
    → ((before : Before) (many : Length) (a : ℕ) → Counts many before count → PutsNext before (forms.array a many e) (array_text shown) packet.bytes.now packet.end place line n after)
    → IsArrayThere (Within known ns) k count packet place (reach_of n) line after
array_counted n known ns k e shown count packet place line after forms_are texts_are writes many a counts =
    let Where = Within known ns in
    let to = next_at (reach_of n) in
    subst (λ t. PutsWhere Where (forms.array a many (form k)) (array_text t) packet.bytes.now packet.end place line to after) texts_are
    (subst (λ f. PutsWhere Where (forms.array a many f) (array_text shown) packet.bytes.now packet.end place line to after) forms_are there)
  where
    there : PutsWhere (Within known ns) (forms.array a many e) (array_text shown) packet.bytes.now packet.end place line (next_at (reach_of n)) after
    there spent room earlier [] within = absurd within
    there spent room earlier (vs ∷ env) within =
        let p = writes (record { index = length vs; last = lasts.Unknown }) (lengths.Fixed count) a (λ ea en ws counted last. refl) spent room earlier env vs tt tt in
        (p.0, counted_array a e many count (among packet.bytes.now packet.end earlier) (vs ∷ env) place spent (counts earlier (vs ∷ env) within) ∙ p.1, p.2, tt)
