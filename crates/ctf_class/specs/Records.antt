-- Event records whose integers are at fixed distances (all own). Bytes are written as numbers: 32 is a space, 44 a
-- comma, 123 and 125 are `{` and `}`.
use Rattle.std.specs.Prelude.{◌≡◌, ℕ, zero, suc, ◌+◌, ◌%◌, ◌<◌, ◌≤◌, ◌^◌, ◌⊎◌, List, [], ◌∷◌, ◌++◌, length, map, max, slice_get, Bool, true, false, Option, Some, None, ⊤}
use Rattle.std.specs.Int.{next_multiple_of}
use Rattle.std.specs.List.{All, list_any, sum_by}
use Rattle.ctf_class.specs.Alignment.{IsLarger}
use Rattle.ctf_class.specs.Integers.{IsUsual}
use Rattle.ctf_class.specs.Names.{field_text}
use Rattle.ctf_class.specs.declared.class.Class.{Class}
use Rattle.ctf_class.specs.declared.class.Kind as kind
use Rattle.ctf_class.specs.declared.class.Member.{Member}
use Rattle.ctf_class.specs.declared.record_plan.Branch.{Branch}
use Rattle.ctf_class.specs.declared.record_plan.Branches.{Branches, Branches-F, out-Branches}
use Rattle.ctf_class.specs.declared.record_plan.InnerPlans.{InnerPlans, InnerPlans-F, out-InnerPlans}
use Rattle.ctf_class.specs.declared.record_plan.Nested.{Nested}
use Rattle.ctf_class.specs.declared.record_plan.Nested.TheVariants as nested
use Rattle.ctf_class.specs.declared.record_plan.Count.{Count}
use Rattle.ctf_class.specs.declared.record_plan.Count.TheVariants as counts
use Rattle.ctf_class.specs.declared.record_plan.PlannedArray.{PlannedArray}
use Rattle.ctf_class.specs.declared.record_plan.PlannedVariant.{PlannedVariant}
use Rattle.ctf_class.specs.declared.record_plan.PlannedField.{PlannedField}
use Rattle.ctf_class.specs.declared.many.Many.{Many}
use Rattle.ctf_class.specs.declared.many.Many.TheVariants as many
use Rattle.ctf_class.specs.declared.record_plan.RecordPlan.{RecordPlan}
use Rattle.ctf_class.specs.declared.record_plan.PlannedRun.{PlannedRun}
use Rattle.ctf_class.specs.declared.shown.Labelled.{Labelled}
use Rattle.ctf_class.specs.declared.shown.Shown.{Shown}
use Rattle.ctf_class.specs.declared.shown.Shown.TheVariants as shown
use Rattle.ctf_class.specs.declared.integer.Integer.{Integer}
use Rattle.ctf_class.specs.declared.route.Length.{Length}
use Rattle.ctf_class.specs.declared.route.Length.TheVariants as lengths
use Rattle.ctf_class.specs.declared.route.Origin.{Origin}
use Rattle.ctf_class.specs.declared.route.Origin.TheVariants.{Enclosing, Earlier}
use Rattle.ctf_class.specs.declared.route.Route.{Route}
use Rattle.ctf_class.specs.declared.route.Scope.{Scope}
use Rattle.ctf_class.specs.declared.route.Scope.TheVariants.{PacketHeader, PacketContext, StreamEventContext, EventContext, EventFields}
use Rattle.ctf_class.specs.declared.planned_number.PlannedNumber.{PlannedNumber}
use Rattle.ctf_class.specs.declared.structures.Structures.{Structures}

-- A field: what is printed between the value before it and its own, the alignment of the structures that it begins, or
-- 1, how many members of its structure are before it, or 0 where the one before it is a structure that is gone into,
-- the routes that lead from it to the numbers kept before it, whether its own is kept after these, and its class.
pub record Slot : Type 0 where
  pub lead : List ℕ
  pub align : ℕ
  pub index : ℕ
  pub known : List Route
  pub kept : Bool
  pub class : Class

-- Members of a structure as a plan takes them: each is a field alone, whose number is kept or not, or a structure that
-- is gone into, whose first member begins at an alignment.
mutual
  pub data Piece : Type 0 where
    alone : Bool → Member → Piece
    inner : Member → ℕ → Pieces → Piece

  -- pieces, one after the other
  pub data Pieces : Type 0 where
    no_pieces : Pieces
    more_pieces : Piece → Pieces → Pieces

abbrev pub member_of : Piece → Member
member_of (alone kept m) = m
member_of (inner m align ps) = m

abbrev pub members_of : Pieces → List Member
members_of no_pieces = []
members_of (more_pieces p ps) = member_of p ∷ members_of ps

-- A structure that is gone into has members. The first of them begins at the larger one of its alignment and of that of
-- the structures that it begins, which is given.
abbrev mutual
  pub IsPiece : ℕ → Piece → Type 0
  IsPiece align (alone kept m) = ⊤
  IsPiece align (inner m begin ps) =
      (m.class.kind ≡ kind.Structure (members_of ps)) × (0 < length (members_of ps))
      × IsLarger begin align m.class.align × ArePieces begin ps

  pub ArePieces : ℕ → Pieces → Type 0
  ArePieces align no_pieces = ⊤
  ArePieces align (more_pieces p ps) = IsPiece align p × ArePieces 1 ps

-- how many values the structures that are gone into have, without themselves
abbrev mutual
  pub inside : Piece → ℕ
  inside (alone kept m) = 0
  inside (inner m begin ps) = length (members_of ps) + insides ps

  pub insides : Pieces → ℕ
  insides no_pieces = 0
  insides (more_pieces p ps) = inside p + insides ps

-- how many structures end where a piece does; and where the last of some does, or so many if there are none
abbrev mutual
  pub ended_by : Piece → ℕ
  ended_by (alone kept m) = 0
  ended_by (inner m begin ps) = suc (ended_after 0 ps)

  pub ended_after : ℕ → Pieces → ℕ
  ended_after n no_pieces = n
  ended_after n (more_pieces p ps) = ended_after (ended_by p) ps

-- what is printed where so many structures end
abbrev pub ends : ℕ → List ℕ
ends zero = []
ends (suc n) = 32 ∷ 125 ∷ ends n

-- a number is led to from within the structure that is the next member
abbrev pub further_out : Origin → Origin
further_out (Enclosing out) = Enclosing (suc out)
further_out (Earlier scope) = Earlier scope

abbrev pub from_inside : List Route → List Route
from_inside rs = map (λ (r : Route). record { origin = further_out r.origin; steps = r.steps }) rs

-- and from after it, where it is the member of an index
abbrev pub outside : ℕ → Origin → List ℕ → Route
outside index (Enclosing zero) steps = record { origin = Enclosing 0; steps = index ∷ steps }
outside index (Enclosing (suc out)) steps = record { origin = Enclosing out; steps = steps }
outside index (Earlier scope) steps = record { origin = Earlier scope; steps = steps }

abbrev pub from_after : ℕ → List Route → List Route
from_after index rs = map (λ (r : Route). outside index r.origin r.steps) rs

-- and from the scopes after one
abbrev pub of_scope : Scope → Origin → Origin
of_scope scope (Enclosing zero) = Earlier scope
of_scope scope (Enclosing (suc out)) = Enclosing out
of_scope scope (Earlier other) = Earlier other

abbrev pub from_later : Scope → List Route → List Route
from_later scope rs = map (λ (r : Route). record { origin = of_scope scope r.origin; steps = r.steps }) rs

-- the number of the member of an index is led to after it, if it is kept
abbrev pub with_kept : Bool → ℕ → List Route → List Route
with_kept false index rs = rs
with_kept true index rs = rs ++ (record { origin = Enclosing 0; steps = index ∷ [] }) ∷ []

-- what is led to after a piece, which is the member of an index, and after pieces from an index on
abbrev mutual
  pub known_by : ℕ → List Route → Piece → List Route
  known_by index rs (alone kept m) = with_kept kept index rs
  known_by index rs (inner m begin ps) = from_after index (known_after 0 (from_inside rs) ps)

  pub known_after : ℕ → List Route → Pieces → List Route
  known_after index rs no_pieces = rs
  known_after index rs (more_pieces p ps) = known_after (suc index) (known_by index rs p) ps

-- what is before a member: the text before its name, the alignment of the structures that it begins, how many members
-- are known before it, and the routes from it to numbers that are kept
pub record At : Type 0 where
  pub lead : List ℕ
  pub align : ℕ
  pub index : ℕ
  pub known : List Route

-- the first member of a structure, after a text and at an alignment
abbrev pub first_at : List ℕ → ℕ → List Route → At
first_at lead align known = record { lead = lead; align = align; index = 0; known = known }

-- so many members, or 0 where the last is a structure that is gone into
abbrev pub known_index : ℕ → ℕ → ℕ
known_index zero i = i
known_index (suc n) i = 0

-- a member after so many others, after which so many structures end
abbrev pub later_at : ℕ → ℕ → List Route → At
later_at n i known = record {
  lead = ends n ++ (44 ∷ 32 ∷ []);
  align = 1;
  index = known_index n i;
  known = known;
}

-- what is printed before the name of the first member of a structure of this name, which is a member after a text
abbrev pub opened_lead : List ℕ → List ℕ → List ℕ
opened_lead lead name = lead ++ (field_text name ++ (123 ∷ 32 ∷ []))

-- the fields of a piece, and of pieces after so many others
abbrev mutual
  pub piece_slots : At → Piece → List Slot
  piece_slots at (alone kept m) =
      record {
        lead = at.lead ++ field_text m.name;
        align = at.align;
        index = at.index;
        known = at.known;
        kept = kept;
        class = m.class;
      } ∷ []
  piece_slots at (inner m begin ps) =
      pieces_slots 0 (first_at (opened_lead at.lead m.name) begin (from_inside at.known)) ps

  pub pieces_slots : ℕ → At → Pieces → List Slot
  pieces_slots i at no_pieces = []
  pieces_slots i at (more_pieces p ps) =
      piece_slots at p
      ++ pieces_slots (suc i) (later_at (ended_by p) (suc i) (known_by i at.known p)) ps

-- members of which none is gone into, and no number is kept
abbrev pub all_alone : List Member → Pieces
all_alone [] = no_pieces
all_alone (m ∷ ms) = more_pieces (alone false m) (all_alone ms)

-- the fields of a structure of which no member is gone into
abbrev pub member_slots : ℕ → List Member → List Slot
member_slots align ms = pieces_slots 0 (first_at (123 ∷ 32 ∷ []) align []) (all_alone ms)

-- a structure's class, and its members as a plan takes them
pub record Scoped : Type 0 where
  pub scope : Scope
  pub class : Class
  pub pieces : Pieces

-- the fields of a structure of such a class and of these pieces, of which the first is after a text and a brace; one
-- without members is a field itself
abbrev pub scope_slots : List ℕ → List Route → Class → Pieces → List Slot
scope_slots before known k no_pieces =
    record { lead = before; align = 1; index = 0; known = known; kept = false; class = k } ∷ []
scope_slots before known k (more_pieces p ps) =
    pieces_slots 0 (first_at (before ++ (123 ∷ 32 ∷ [])) k.align (from_inside known))
    (more_pieces p ps)

abbrev pub slots : List ℕ → List Route → Scoped → List Slot
slots before known s = scope_slots before known s.class s.pieces

-- what is led to after such a scope
abbrev pub known_scope : List Route → Scoped → List Route
known_scope known s = from_later s.scope (known_after 0 (from_inside known) s.pieces)

-- how many structures end where one of these pieces does, itself among them; none where it is a field itself
abbrev pub ended_in : Pieces → ℕ
ended_in no_pieces = 0
ended_in (more_pieces p ps) = suc (ended_after 0 (more_pieces p ps))

-- what is between a structure of these pieces and the next
abbrev pub before_next : Pieces → List ℕ
before_next ps = ends (ended_in ps) ++ (44 ∷ 32 ∷ [])

-- the fields of structures one after the other
abbrev pub all_slots : List ℕ → List Route → List Scoped → List Slot
all_slots before known [] = []
all_slots before known (s ∷ ss) =
    slots before known s ++ all_slots (before_next s.pieces) (known_scope known s) ss

-- how many structures end where the last of some scopes does, or so many if there are none
abbrev pub ended_last : ℕ → List Scoped → ℕ
ended_last n [] = n
ended_last n (s ∷ ss) = ended_last (ended_in s.pieces) ss

-- how many values structures are, with all in them but what is in arrays and options
abbrev pub values_in : List Scoped → ℕ
values_in [] = 0
values_in (s ∷ ss) = 1 + length (members_of s.pieces) + insides s.pieces + values_in ss

-- a scope and its class
abbrev pub ScopeClass : Type 0
ScopeClass = Scope × Class

-- scopes are these structures
abbrev pub AreScoped : List ScopeClass → List Scoped → Type 0
AreScoped [] [] = ⊤
AreScoped [] (s ∷ ss) = ⊥
AreScoped (k ∷ ks) [] = ⊥
AreScoped (k ∷ ks) (s ∷ ss) =
    (k ≡ (s.scope, s.class)) × (s.class.kind ≡ kind.Structure (members_of s.pieces))
    × ArePieces s.class.align s.pieces × AreScoped ks ss

-- the scopes of an event record after its header that have a class
abbrev pub and_scope : Scope → Option Class → List ScopeClass → List ScopeClass
and_scope scope None ks = ks
and_scope scope (Some k) ks = (scope, k) ∷ ks

abbrev pub scopes_of : Option Class → Option Class → Class → List ScopeClass
scopes_of shared own fields =
    and_scope StreamEventContext shared (and_scope EventContext own ((EventFields, fields) ∷ []))

-- how many classes are in those of some scopes, themselves among them
abbrev pub classes_in : List ScopeClass → ℕ
classes_in ks = sum_by (λ (k : ScopeClass). k.1.nodes) ks

-- A field is this number of a run. The run begins at a multiple of `base`, and the fields before this one end `from`
-- bits after that. As its alignments divide `base`, its distance from the run's begin does not depend on where that is.
-- The window has this distance; a number that is not special is usual.
pub record IsNumber (base from : ℕ) (s : Slot) (n : PlannedNumber) : Type 0 where
  pub is : s.class.kind ≡ kind.Integer n.integer
  pub kept : s.kept ≡ false
  pub special : n.is_special ≡ false → IsUsual n.integer
  pub begins : base % s.align ≡ 0
  pub divides : base % s.class.align ≡ 0
  pub window : n.window ≡ record {
    place = next_multiple_of (next_multiple_of from s.align) s.class.align;
    size = max 1 n.integer.size;
    is_signed = n.integer.is_signed;
  }
  pub ready : n.ready ≡ s.lead

-- so are the first of these fields, one after the other, as far as a distance, and these are left
abbrev pub AreInRun : ℕ → ℕ → List Slot → List PlannedNumber → ℕ → List Slot → Type 0
AreInRun base from ss [] span rest = (span ≡ from) × (rest ≡ ss)
AreInRun base from [] (n ∷ ns) span rest = ⊥
AreInRun base from (s ∷ ss) (n ∷ ns) span rest =
    IsNumber base from s n × AreInRun base (n.window.place + n.window.size) ss ns span rest

-- a run of these numbers begins where the first of these fields does; without a number, where the fields before it end
abbrev pub BeginsRun : ℕ → List Slot → List PlannedNumber → Type 0
BeginsRun align ss [] = align ≡ 1
BeginsRun align [] (n ∷ ns) = ⊥
BeginsRun align (s ∷ ss) (n ∷ ns) = IsLarger align s.align s.class.align

-- The numbers of a run that begins at this alignment, and at a byte, are the first of these fields, one after the
-- other, as far as a distance, and these are left.
abbrev pub TakesNumbers : ℕ → List Slot → List PlannedNumber → ℕ → List Slot → Type 0
TakesNumbers align ss ns span rest =
    BeginsRun align ss ns × AreInRun (max 8 align) 0 ss ns span rest

-- a route leads to the member before the one of an index in the innermost structure
abbrev pub LeadsBefore : Route → ℕ → Type 0
LeadsBefore route index =
    (route.origin ≡ Enclosing 0)
    × ((step : ℕ) × (route.steps ≡ step ∷ []) × (index ≡ step + 1))

-- some numbers are special: each that is not is usual
abbrev pub have_special : List PlannedNumber → Bool
have_special ns = list_any (λ n. n.is_special) ns

-- How many bytes of a line must be free for numbers: for each the text before it and 66, the longest being `0b` and 64
-- digits; and 24 after the last, as texts are copied in words.
abbrev pub numbers_room : List PlannedNumber → ℕ
numbers_room [] = 24
numbers_room (n ∷ ns) = length n.ready + 66 + numbers_room ns

-- an array of this length, as a member after so many others, has so many elements
abbrev pub IsLength : ℕ → Length → Many → Type 0
IsLength index length (many.Fixed count) = length ≡ lengths.Fixed count
IsLength index length many.Counted =
    (route : Route) × (length ≡ lengths.Field route) × LeadsBefore route index

-- the class of a member after so many others is an array of elements of such a class
abbrev pub AreMany : (Class → Type 0) → ℕ → Class → Many → Type 0
AreMany Is index c many =
    (length : Length) × IsLength index length many
    × ((k : Class) × (c.kind ≡ kind.Array length k) × Is k)

-- a class is this integer of this alignment
abbrev pub IsInteger : Class → Integer → ℕ → Type 0
IsInteger k integer align = (k.kind ≡ kind.Integer integer) × (align ≡ k.align)

-- the class of a member after so many others is an array of integers
abbrev pub AreIntegers : ℕ → Class → Integer → ℕ → Many → Type 0
AreIntegers index c integer align many = AreMany (λ k. IsInteger k integer align) index c many

-- A class is a structure whose fields are these numbers, one after the other. So many values are one, and its text
-- takes so many bytes at the most.
pub record IsStructure (k : Class) (s : Structures) : Type 0 where
  pub members : List Member
  pub is : k.kind ≡ kind.Structure members
  pub begins : s.align ≡ k.align
  pub whole : s.align % 8 ≡ 0
  pub some : 0 < length members
  pub count : s.count ≡ 1 + length members
  pub numbers : TakesNumbers s.align (member_slots k.align members) s.numbers s.span []
  pub room : s.room ≡ numbers_room s.numbers
  pub bounded : s.span ≤ 2 ^ 33
  pub special : s.has_special ≡ have_special s.numbers

-- a class is this enumeration
abbrev pub IsLabelled : Class → Labelled → Type 0
IsLabelled c is = (c.kind ≡ kind.Enumeration is.container is.labels) × (is.align ≡ c.align)

-- what a member of a class after so many others is shown as
abbrev pub IsShown : ℕ → Class → Shown → Type 0
IsShown index c shown.String = c.kind ≡ kind.String
IsShown index c (shown.Text many) =
    (length : Length) × IsLength index length many × (c.kind ≡ kind.Text length)
IsShown index c (shown.Empty align) = (c.kind ≡ kind.Structure []) × (align ≡ c.align)
IsShown index c (shown.Integer lone) = IsInteger c lone.integer lone.align
IsShown index c (shown.Integers are) = AreIntegers index c are.integer are.align are.many
IsShown index c (shown.Structures are) = AreMany (λ k. IsStructure k are) index c are.many
IsShown index c (shown.Labelled is) = IsLabelled c is

-- a field is shown so
pub record IsField (s : Slot) (f : PlannedField) : Type 0 where
  pub kept : s.kept ≡ false
  pub align : f.align ≡ s.align
  pub ready : f.ready ≡ s.lead
  pub shown : IsShown s.index s.class f.shown

-- the first of these fields is this one, if one is given, and this holds of the others
abbrev pub After : List Slot → Option PlannedField → (List Slot → Type 0) → Type 0
After ss None Holds = Holds ss
After [] (Some f) Holds = ⊥
After (s ∷ ss) (Some f) Holds = IsField s f × Holds ss

-- so many for numbers and a field after them
abbrev pub room_of : List PlannedNumber → Option PlannedField → ℕ
room_of [] None = 24
room_of [] (Some f) = length f.ready + 90
room_of (n ∷ ns) f = length n.ready + 66 + room_of ns f

-- fields are these runs, one after the other
abbrev pub AreRuns : List Slot → List PlannedRun → Type 0
AreRuns ss [] = ss ≡ []
AreRuns ss (r ∷ rs) =
    (rest : List Slot) × TakesNumbers r.align ss r.numbers r.span rest
    × (r.room ≡ room_of r.numbers r.field) × (r.span ≤ 2 ^ 33)
    × (r.has_special ≡ have_special r.numbers) × After rest r.field (λ others. AreRuns others rs)

-- a class is a structure of these pieces, or a field itself
abbrev pub IsOfPieces : Class → Pieces → Type 0
IsOfPieces k no_pieces = ⊤
IsOfPieces k (more_pieces p ps) =
    (k.kind ≡ kind.Structure (members_of (more_pieces p ps))) × ArePieces k.align (more_pieces p ps)

-- the kept number of a place is the one that a route leads to
abbrev pub LeadsTo : List Route → Route → ℕ → Type 0
LeadsTo known route place = slice_get known place ≡ Some route

-- an array of this length has so many elements
abbrev pub IsCount : List Route → Length → Count → Type 0
IsCount known length (counts.Fixed n) = length ≡ lengths.Fixed n
IsCount known length (counts.Kept place) =
    (route : Route) × (length ≡ lengths.Field route) × LeadsTo known route place

-- what branches and their plans are, where plans have fields so
module _ (HasFields : List Slot → RecordPlan → Type 0) where
  -- a plan is that of an option of a variant, from which these routes lead to kept numbers
  abbrev pub IsOption : List Route → Member → RecordPlan → Type 0
  IsOption known m p =
      (piece : Piece) × (member_of piece ≡ m) × IsPiece 1 piece
      × (p.count ≡ inside piece) × (p.ended ≡ ended_by piece)
      × HasFields (piece_slots (first_at (123 ∷ 32 ∷ []) 1 known) piece) p

  -- a plan is that of elements of a class
  abbrev pub IsElement : List Route → Class → RecordPlan → Type 0
  IsElement known k p =
      (pieces : Pieces) × IsOfPieces k pieces
      × (p.count ≡ length (members_of pieces) + insides pieces) × (p.ended ≡ ended_in pieces)
      × HasFields (scope_slots [] known k pieces) p

  -- each of these options has its plan
  abbrev pub AreEach : List Route → List Member → List RecordPlan → Type 0
  AreEach known [] [] = ⊤
  AreEach known [] (p ∷ ps) = ⊥
  AreEach known (m ∷ ms) [] = ⊥
  AreEach known (m ∷ ms) (p ∷ ps) = IsOption known m p × AreEach known ms ps

  -- a field is a variant of such choices, whose options have these plans
  pub record IsVariant (s : Slot) (v : PlannedVariant) (ps : List RecordPlan) : Type 0 where
    pub tag : Route
    pub options : List Member
    pub is : s.class.kind ≡ kind.Variant tag v.choices options
    pub leads : LeadsTo s.known tag v.tag
    pub are : AreEach s.known options ps

  -- elements of a class are shown so, or by the only one of these plans
  abbrev pub IsItem : List Route → Class → Option Shown → List RecordPlan → Type 0
  IsItem known k (Some shown) ps = IsShown 0 k shown
  IsItem known k None ps = (p : RecordPlan) × (ps ≡ p ∷ []) × IsElement known k p

  -- a field is an array of so many such elements
  pub record IsArray (s : Slot) (a : PlannedArray) (ps : List RecordPlan) : Type 0 where
    pub length : Length
    pub element : Class
    pub is : s.class.kind ≡ kind.Array length element
    pub counts : IsCount s.known length a.count
    pub align : a.elements.align ≡ element.align
    pub are : IsItem s.known element a.elements.shown ps

  -- a field is that of a branch
  abbrev pub IsNested : Slot → Nested → List RecordPlan → Type 0
  IsNested s (nested.Number lone) ps =
      (s.kept ≡ true) × IsInteger s.class lone.integer lone.align × (lone.integer.is_signed ≡ false)
  IsNested s (nested.Label is) ps = (s.kept ≡ true) × IsLabelled s.class is
  IsNested s (nested.Variant v) ps = (s.kept ≡ false) × IsVariant s v ps
  IsNested s (nested.Array a) ps = (s.kept ≡ false) × IsArray s a ps
  IsNested s (nested.Text count) ps =
      (s.kept ≡ false) × (length : Length) × (s.class.kind ≡ kind.Text length) × IsCount s.known length count

  abbrev pub IsListed : Slot → Nested → InnerPlans-F Branches InnerPlans Branch RecordPlan → Type 0
  IsListed s n (InnerPlans-F.Each ps) = IsNested s n ps

  -- a field is the one of a branch after its runs
  pub record IsBranch (s : Slot) (b : Branch) : Type 0 where
    pub align : b.align ≡ s.align
    pub ready : b.ready ≡ s.lead
    pub nested : IsListed s b.nested (out-InnerPlans b.plans)

  -- fields are those of these branches, and then these runs, one after the other
  abbrev pub AreBranches : List Slot → List Branch → List PlannedRun → Type 0
  AreBranches ss [] rs = AreRuns ss rs
  AreBranches ss (b ∷ bs) rs =
      (used : List Slot) × (s : Slot) × (rest : List Slot) × (ss ≡ used ++ s ∷ rest)
      × AreRuns used b.runs × IsBranch s b × AreBranches rest bs rs

  abbrev pub AreThose : List Slot → Branches-F Branches InnerPlans Branch RecordPlan
      → List PlannedRun → Type 0
  AreThose ss (Branches-F.Listed bs) rs = AreBranches ss bs rs

-- a plan has these fields, and plans lie in one another no deeper than this, itself among them
abbrev pub IsPlanned : ℕ → List Slot → RecordPlan → Type 0
IsPlanned zero ss p = ⊥
IsPlanned (suc depth) ss p = AreThose (IsPlanned depth) ss (out-Branches p.branches) p.runs

-- a route begins in the packet's header or context
abbrev pub IsInPacket : Route → Type 0
IsInPacket r = (r.origin ≡ Earlier PacketHeader) ⊎ (r.origin ≡ Earlier PacketContext)

-- a plan is one of these scopes, if it has runs
abbrev pub IsPlanOf : List ScopeClass → RecordPlan → Type 0
IsPlanOf ks p =
    0 < length p.runs
    → All IsInPacket p.given
    × ((ss : List Scoped) × AreScoped ks ss × (p.count ≡ values_in ss) × (p.ended ≡ ended_last 0 ss)
    × (depth : ℕ) × IsPlanned depth (all_slots [] p.given ss) p)
