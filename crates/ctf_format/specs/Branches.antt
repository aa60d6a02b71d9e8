-- Variants and arrays that are written by their plans (all own).
use Rattle.std.specs.Prelude.{◌≡◌, ℕ, ◌+◌, ◌<◌, List, [], ◌∷◌, ◌++◌, length, get_or, take, Option, IfSome, ⊤}
use Rattle.std.specs.Int.{next_multiple_of}
use Rattle.ctf_class.specs.Records.{Slot, AreBranches, AreEach, AreRuns, IsBranch, IsElement, IsItem, IsNested, IsPlanned}
use Rattle.ctf_class.specs.declared.class.Class.{Class}
use Rattle.ctf_class.specs.declared.class.Member.{Member}
use Rattle.ctf_class.specs.declared.record_plan.Branch.{Branch}
use Rattle.ctf_class.specs.declared.record_plan.Elements.{Elements}
use Rattle.ctf_class.specs.declared.record_plan.Nested.{Nested}
use Rattle.ctf_class.specs.declared.record_plan.PlannedRun.{PlannedRun}
use Rattle.ctf_class.specs.declared.record_plan.RecordPlan.{RecordPlan}
use Rattle.ctf_class.specs.declared.route.Length.{Length}
use Rattle.ctf_class.specs.declared.route.Route.{Route}
use Rattle.ctf_class.specs.declared.route.Scope.{Scope}
use Rattle.ctf_decode.specs.Forms as forms
use Rattle.ctf_decode.specs.Input.{Env}
use Rattle.ctf_decode.specs.Values.{Val}
use Rattle.ctf_decode.specs.Views.{form}
use Rattle.ctf_format.specs.Kept.{CountsWhere, PutsSlot, PutsSlots, Within}
use Rattle.ctf_format.specs.Passing.{Passes, next_at}
use Rattle.ctf_format.specs.Records.{Reached, after_value, reached}
use Rattle.ctf_format.specs.Rows.{enclosed}
use Rattle.ctf_format.specs.Standing.{PutsRow, PutsWhere, array_text}
use Rattle.ctf_format.specs.Texts.{element_text, member_part, part_text, value_text}
use Rattle.ctf_format.specs.declared.content.Content.{Content}
use Rattle.ctf_format.specs.declared.element.ElementLead.{ElementLead}
use Rattle.ctf_format.specs.declared.planned_record.Reach.{Reach}
use Rattle.ctf_format.specs.declared.standing.Last.{Last}
use Rattle.ctf_format.specs.declared.standing.Last.TheVariants as lasts
use Rattle.ctf_format.specs.declared.standing.MembersEnd.{MembersEnd}

-- a plan is that of some fields
pub record HasFields (p : RecordPlan) : Type 0 where
  pub depth : ℕ
  pub slots : List Slot
  pub are : IsPlanned depth slots p

-- plans are those of some options
pub record HasOptions (ps : List RecordPlan) : Type 0 where
  pub depth : ℕ
  pub known : List Route
  pub options : List Member
  pub are : AreEach (IsPlanned depth) known options ps

-- a plan is that of elements of some class
pub record HasElement (p : RecordPlan) : Type 0 where
  pub depth : ℕ
  pub known : List Route
  pub class : Class
  pub is : IsElement (IsPlanned depth) known class p

-- elements and their plans are of some class
pub record HasItems (e : Elements) (ps : List RecordPlan) : Type 0 where
  pub depth : ℕ
  pub known : List Route
  pub class : Class
  pub are : IsItem (IsPlanned depth) known class e.shown ps

-- so is the field of a branch, which is some field
pub record HasNested (n : Nested) (ps : List RecordPlan) : Type 0 where
  pub depth : ℕ
  pub slot : Slot
  pub is : IsNested (IsPlanned depth) slot n ps

-- a branch takes the first of these fields, and these are left
abbrev pub TakesBranch : ℕ → List Slot → Branch → List Slot → Type 0
TakesBranch depth ss b others =
    (used : List Slot) × (s : Slot) × (ss ≡ used ++ s ∷ others)
    × AreRuns used b.runs × IsBranch (IsPlanned depth) s b

-- a branch is that of some fields
pub record HasBranch (b : Branch) : Type 0 where
  pub depth : ℕ
  pub slots : List Slot
  pub others : List Slot
  pub takes : TakesBranch depth slots b others

-- branches are those of some fields
pub record HasBranches (bs : List Branch) : Type 0 where
  pub depth : ℕ
  pub slots : List Slot
  pub runs : List PlannedRun
  pub are : AreBranches (IsPlanned depth) slots bs runs

-- as far as fields came, with this line
abbrev pub come : MembersEnd → List ℕ → Reached
come e line = after_value e.place e.more lasts.Unknown line

-- The fields of a branch, if they were written, come after others from where these came to where the buffer says now,
-- and these numbers are kept before them and then.
abbrev pub PutsBranch : Option MembersEnd → ℕ → Branch → Content → MembersEnd → List ℕ → List Last
    → List ℕ → List Last → Type 0
PutsBranch result depth b packet from before ns items ms =
    (slots others : List Slot) → TakesBranch depth slots b others
    → IfSome result (λ end.
    (used : List Slot) × (slots ≡ used ++ others)
    × PutsSlots used packet.bytes.now packet.end (come from before) ns
    (come end (take end.text items)) ms)

-- a field comes after others from where these came, which begins at a place then, and goes to another with so many
-- values in it
abbrev pub IsSlotThere : Slot → Content → ℕ → Reach → List ℕ → List Last → List ℕ → List Last → Type 0
IsSlotThere s packet place to line ns after ms =
    (from more : ℕ) (before : List ℕ) → place ≡ next_multiple_of from s.align
    → line ≡ before ++ s.lead
    → PutsSlot s packet.bytes.now packet.end (after_value from more lasts.Unknown before) ns
    (after_value to.place (more + to.more) lasts.Unknown after) ms

-- as far as fields or elements, without their text
abbrev pub ends_at : MembersEnd → Reach
ends_at e = record { place = e.place; more = e.more }

-- this field, if it was written after a line that ends with what is before it, is there
abbrev pub PutsNested : Option MembersEnd → Slot → Content → ℕ → List ℕ → List Last → List ℕ → List Last
    → Type 0
PutsNested result s packet place line ns items ms =
    IfSome result (λ end.
    IsSlotThere s packet place (ends_at end) line ns (take end.text items) ms)

-- An option of a variant, with its braces, goes from a place as far as this, where routes lead to these numbers from the
-- structure of the variant, and its text follows a text. Its value is one more.
abbrev pub IsThere : List Route → List Last → Member → Content → ℕ → Reach → List ℕ → List ℕ → Type 0
IsThere known ns m packet place to before after =
    (some : ℕ) × (to.more ≡ 1 + some)
    × PutsWhere (Within known ns) (form m.class)
    (λ v. enclosed 123 125 (part_text (member_part m) v ∷ [])) packet.bytes.now packet.end place
    before (record { place = to.place; text = 0; more = some; last = lasts.Unknown }) after

-- the option of an index, if one was written by its plan, is there, and its text is after a line now
abbrev pub PutsOption : Option MembersEnd → ℕ → List RecordPlan → ℕ → Content → ℕ → List ℕ → List Last
    → List ℕ → Type 0
PutsOption result depth plans index packet place line ns items =
    (known : List Route) (options : List Member) → AreEach (IsPlanned depth) known options plans
    → IfSome result (λ end.
    (m : Member) × (index < length options) × (m ≡ get_or options index m)
    × IsThere known ns m packet place (ends_at end) line (take end.text items))

-- so it is where it was passed over
abbrev pub PassesOption : Option Reach → ℕ → List RecordPlan → ℕ → Content → ℕ → List Last → Type 0
PassesOption result depth plans index packet place ns =
    (known : List Route) (options : List Member) → AreEach (IsPlanned depth) known options plans
    → IfSome result (λ to.
    (m : Member) × (index < length options) × (m ≡ get_or options index m)
    × Passes (IsThere known ns m packet place to))

-- within a structure, whatever was decoded before
abbrev pub Anywhere : (Scope → Option Val) → Env → Type 0
Anywhere earlier [] = ⊥
Anywhere earlier (vs ∷ env) = ⊤

-- where elements are
abbrev pub Places : Type 1
Places = (Scope → Option Val) → Env → Type 0

-- an element of a class, if one was written, is there after its mark and its index
abbrev pub PutsElement : Option MembersEnd → Places → ElementLead → Class → Content → ℕ → List ℕ
    → List ℕ → Type 0
PutsElement result Where lead k packet place line items =
    IfSome result (λ end.
    PutsWhere Where (form k)
    (λ v. lead.mark ∷ 32 ∷ element_text (value_text k) lead.index v) packet.bytes.now packet.end
    place line (next_at (ends_at end)) (take end.text items))

-- so many elements of a class are there one after the other
abbrev pub PutsRowOf : (List (List ℕ) → List ℕ) → Places → Class → ℕ → Content → ℕ → List ℕ
    → MembersEnd → List ℕ → Type 0
PutsRowOf together Where k count packet place line end after =
    PutsRow together Where (form k) (value_text k) count packet.bytes.now packet.end place line end
    after

-- so many, if they were written, are there, and their texts are after a line now
abbrev pub WritesRow : (List (List ℕ) → List ℕ) → Option MembersEnd → Places → Class → ℕ → Content
    → ℕ → List ℕ → List ℕ → Type 0
WritesRow together result Where k count packet place line items =
    IfSome result (λ end.
    PutsRowOf together Where k count packet place line end (take end.text items))

-- an array of so many elements of a class is there
abbrev pub IsArrayThere : Places → Class → ℕ → Content → ℕ → Reach → List ℕ → List ℕ → Type 0
IsArrayThere Where k count packet place to line after =
    (many : Length) (a : ℕ) → CountsWhere Where many count
    → PutsWhere Where (forms.array a many (form k)) (array_text (value_text k)) packet.bytes.now
    packet.end place line (next_at to) after

-- it is, if it was written
abbrev pub WritesArray : Option MembersEnd → Places → Class → ℕ → Content → ℕ → List ℕ → List ℕ
    → Type 0
WritesArray result Where k count packet place line items =
    IfSome result (λ end.
    IsArrayThere Where k count packet place (ends_at end) line (take end.text items))

-- fields, if they were passed over, go from where others came as far as this, and these numbers are kept before them and
-- then
abbrev pub PassesSlots : List Slot → Content → Reach → List Last → Reach → List Last → Type 0
PassesSlots slots packet from ns to ms =
    Passes (λ before after. PutsSlots slots packet.bytes.now packet.end (reached from before) ns
    (reached to after) ms)

-- so does the field of a branch from the place where it begins
abbrev pub PassesNested : Option Reach → Slot → Content → ℕ → List Last → List Last → Type 0
PassesNested result s packet place ns ms =
    IfSome result (λ to.
    (from more : ℕ) → place ≡ next_multiple_of from s.align
    → Passes (λ before after. PutsSlot s packet.bytes.now packet.end
    (after_value from more lasts.Unknown before) ns
    (after_value to.place (more + to.more) lasts.Unknown after) ms))

-- an element of a class, if it was passed over, is there
abbrev pub PassesElement : Option Reach → Places → Class → Content → ℕ → Type 0
PassesElement result Where k packet place =
    IfSome result (λ to.
    Passes (λ before after. PutsWhere Where (form k) (value_text k) packet.bytes.now packet.end
    place before (next_at to) after))

-- so are so many elements of a class
abbrev pub PassesRow : Option Reach → Places → Class → ℕ → Content → ℕ → Type 0
PassesRow result Where k count packet place =
    IfSome result (λ to.
    Passes (λ before after. PutsRowOf (enclosed 91 93) Where k count packet place before
    (record { place = to.place; text = 0; more = to.more }) after))

-- so is an array of so many elements of a class
abbrev pub PassesArray : Option Reach → Places → Class → ℕ → Content → ℕ → Type 0
PassesArray result Where k count packet place =
    IfSome result (λ to.
    Passes (IsArrayThere Where k count packet place to))
