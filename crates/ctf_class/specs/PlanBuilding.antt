-- Plans of event records while they are built (all own).
use Rattle.std.specs.Prelude.{◌≡◌, ℕ, zero, suc, ◌+◌, ◌^◌, ◌≤◌, Bool, List, [], ◌∷◌, ◌++◌, length, Some, None}
use Rattle.ctf_class.specs.Names.{field_text}
use Rattle.ctf_class.specs.declared.class.Class.{Class}
use Rattle.ctf_class.specs.declared.class.Member.{Member}
use Rattle.ctf_class.specs.declared.record_plan.Branch.{Branch}
use Rattle.ctf_class.specs.declared.record_plan.Nested.{Nested}
use Rattle.ctf_class.specs.declared.record_plan.PlannedField.{PlannedField}
use Rattle.ctf_class.specs.declared.plan_builder.PlanBuilder.{PlanBuilder}
use Rattle.ctf_class.specs.declared.plan_builder.Lead.{Lead}
use Rattle.ctf_class.specs.declared.known.Move.{Move}
use Rattle.ctf_class.specs.declared.known.Move.TheVariants.{Within, Inside, After, Later}
use Rattle.ctf_class.specs.declared.record_plan.PlannedRun.{PlannedRun}
use Rattle.ctf_class.specs.declared.record_plan.RecordPlan.{RecordPlan}
use Rattle.ctf_class.specs.declared.planned_number.PlannedNumber.{PlannedNumber}
use Rattle.ctf_class.specs.declared.route.Route.{Route}
use Rattle.ctf_class.specs.declared.shown.Shown.TheVariants as shown
use Rattle.ctf_class.specs.Records.{Slot, At, Piece, Pieces, Scoped, ScopeClass, IsPiece, ArePieces, IsOfPieces, scope_slots, ended_in, member_of, members_of, inside, insides, ended_by, ended_after, ends, ended_last, known_by, known_after, known_scope, further_out, of_scope, outside, piece_slots, pieces_slots, all_slots, values_in, AreScoped, TakesNumbers, AreRuns, AreBranches, IsNested, IsBranch, IsPlanned, have_special, room_of}

-- the route to the same number from where a plan goes on
abbrev pub moved_by : Move → Route → Route
moved_by Within r = r
moved_by Inside r = record { origin = further_out r.origin; steps = r.steps }
moved_by (After index) r = outside index r.origin r.steps
moved_by (Later scope) r = record { origin = of_scope scope r.origin; steps = r.steps }

-- where a member with so much before it comes, and the field that it is alone
abbrev pub at_of : Lead → List Route → At
at_of lead known =
    record { lead = lead.text.now; align = lead.align; index = lead.index; known = known }

abbrev pub slot_of : Lead → List Route → Bool → Member → Slot
slot_of lead known kept m = record {
  lead = lead.text.now ++ field_text m.name;
  align = lead.align;
  index = lead.index;
  known = known;
  kept = kept;
  class = m.class;
}

-- fields are these runs, whatever runs are after them
abbrev pub RunsTo : List Slot → List PlannedRun → Type 0
RunsTo full runs =
    (rest : List Slot) (rs : List PlannedRun) → AreRuns rest rs
    → AreRuns (full ++ rest) (runs ++ rs)

-- fields are the numbers of a run of this alignment, whatever fields are after them
abbrev pub IsOpen : ℕ → List Slot → List PlannedNumber → ℕ → Type 0
IsOpen align now numbers span =
    (rest : List Slot) → TakesNumbers align (now ++ rest) numbers span rest

-- fields are those of these branches, whatever branches and runs are after them, at each depth that is not less
abbrev pub BranchesTo : ℕ → List Slot → List Branch → Type 0
BranchesTo depth before branches =
    (more : ℕ) (rest : List Slot) (bs : List Branch) (rs : List PlannedRun)
    → AreBranches (IsPlanned (more + depth)) rest bs rs
    → AreBranches (IsPlanned (more + depth)) (before ++ rest) (branches ++ bs) rs

-- fields are those of the branches, of the whole runs and of the open one
pub record IsMade (done : List Slot) (m : PlanBuilder) : Type 0 where
  pub depth : ℕ
  pub before : List Slot
  pub full : List Slot
  pub now : List Slot
  pub are : done ≡ before ++ (full ++ now)
  pub branched : BranchesTo depth before m.branches
  pub whole : RunsTo full m.runs
  pub last : IsOpen m.align now m.numbers m.span
  pub room : m.room ≡ room_of m.numbers None
  pub bounded : m.span ≤ 2 ^ 33

-- what is led to after some scopes
abbrev pub known_last : List Route → List Scoped → List Route
known_last known [] = known
known_last known (s ∷ ss) = known_last (known_scope known s) ss

-- so are those of the structures that scopes are, before which these routes lead to numbers
pub record IsMadeOf (given : List Route) (ks : List ScopeClass) (m : PlanBuilder) : Type 0 where
  pub scopes : List Scoped
  pub are : AreScoped ks scopes
  pub count : m.count ≡ values_in scopes
  pub ended : m.ended ≡ ended_last 0 scopes
  pub known : m.known ≡ known_last given scopes
  pub made : IsMade (all_slots [] given scopes) m

-- a member was added as a piece after some fields, as the one of an index
abbrev pub AddsPiece : ℕ → At → Member → List Slot → PlanBuilder → PlanBuilder → Type 0
AddsPiece place at m done old new =
    (p : Piece) × (member_of p ≡ m) × IsPiece at.align p × (new.count ≡ old.count + inside p)
    × (new.ended ≡ ended_by p) × (new.known ≡ known_by place at.known p)
    × IsMade (done ++ piece_slots at p) new

-- so were the members of a structure, the first of them there
abbrev pub AddsPieces : At → List Member → List Slot → PlanBuilder → PlanBuilder → Type 0
AddsPieces at ms done old new =
    (ps : Pieces) × (members_of ps ≡ ms) × ArePieces at.align ps
    × (new.count ≡ old.count + insides ps) × (new.ended ≡ ended_after old.ended ps)
    × (new.known ≡ known_after 0 at.known ps) × IsMade (done ++ pieces_slots 0 at ps) new

-- an element was added to nothing, as a structure's members or as a field
abbrev pub AddsElement : Class → PlanBuilder → PlanBuilder → Type 0
AddsElement k old new =
    (ps : Pieces) × IsOfPieces k ps
    × (new.count ≡ old.count + length (members_of ps) + insides ps) × (new.ended ≡ ended_in ps)
    × IsMade (scope_slots [] old.known k ps) new

-- what is before a scope after so many values, where so many structures end
abbrev pub before_scope : ℕ → ℕ → List ℕ
before_scope zero ended = []
before_scope (suc n) ended = ends ended ++ (44 ∷ 32 ∷ [])

-- with a structure of so many values ended
abbrev pub with_structure : PlanBuilder → ℕ → PlanBuilder
with_structure m values = record m { count = m.count + values; ended = m.ended + 1 }

-- with one number more in the open run, which is of this alignment then
abbrev pub with_number : PlanBuilder → ℕ → PlannedNumber → PlanBuilder
with_number m align n = record m {
  align = align;
  numbers = m.numbers ++ n ∷ [];
  span = n.window.place + n.window.size;
  room = m.room + (length n.ready + 66);
  ended = 0;
}

-- with a field after the open run, which is whole then
abbrev pub with_field : PlanBuilder → PlannedField → PlanBuilder
with_field m f = record m {
  runs = m.runs ++ record {
    align = m.align;
    numbers = m.numbers;
    has_special = have_special m.numbers;
    span = m.span;
    room = m.room + (length f.ready + 66);
    field = Some f;
  } ∷ [];
  align = 1;
  numbers = [];
  span = 0;
  room = 24;
  ended = 0;
}

-- a scope without members of this alignment, as a field after a text
abbrev pub empty_scope : List ℕ → ℕ → PlannedField
empty_scope text align = record { ready = text; align = 1; shown = shown.Empty align }

-- with a scope after the open run, which is whole then, as a field
abbrev pub with_scope : PlanBuilder → PlannedField → PlanBuilder
with_scope m f = record (with_field m f) { count = m.count + 1 }

-- a field of this class, which is kept or is not, is that of a branch that has these plans
abbrev pub IsNestedOf : List Route → Bool → Class → Nested → List RecordPlan → Type 0
IsNestedOf known kept k nested plans =
    (depth : ℕ)
    × ((s : Slot) → s.class ≡ k → s.known ≡ known → s.kept ≡ kept
    → IsNested (IsPlanned depth) s nested plans)

-- a field is the one of a branch without runs
pub record IsBare (s : Slot) (b : Branch) : Type 0 where
  pub runs : b.runs ≡ []
  pub depth : ℕ
  pub is : IsBranch (IsPlanned depth) s b

-- the runs with the open one, if that has numbers
abbrev pub runs_by : PlanBuilder → List PlannedNumber → List PlannedRun
runs_by m [] = m.runs
runs_by m (n ∷ ns) = m.runs ++ record {
  align = m.align;
  numbers = m.numbers;
  has_special = have_special m.numbers;
  span = m.span;
  room = m.room;
  field = None;
} ∷ []

-- with a branch after these
abbrev pub with_branch : PlanBuilder → Branch → PlanBuilder
with_branch m b = record m {
  branches = m.branches ++ record b { runs = runs_by m m.numbers } ∷ [];
  runs = [];
  align = 1;
  numbers = [];
  span = 0;
  room = 24;
  ended = 0;
}
