-- Event records that are written by their plan (all own).
use Rattle.std.specs.Prelude.{◌≡◌, ℕ, zero, suc, pos, ◌+◌, ◌-◌, ◌/◌, ◌%◌, ◌^◌, ◌<◌, ◌≤◌, false, length, take, List, [], ◌∷◌, ◌++◌, Option, Some, None, IfSome, Ok, ⊤, codes}
use Rattle.std.specs.Int.{next_multiple_of}
use Rattle.std.specs.List.{All}
use Rattle.ctf_bits.specs.Align.{IsLeastMultiple}
use Rattle.ctf_class.specs.Integers.{bits_of}
use Rattle.ctf_class.specs.Records.{ScopeClass, Slot, TakesNumbers, After, AreIntegers, AreMany, IsShown, IsStructure, have_special, room_of}
use Rattle.ctf_class.specs.declared.class.Class.{Class}
use Rattle.ctf_class.specs.declared.shown.Integers.{Integers}
use Rattle.ctf_class.specs.declared.record_plan.PlannedRun.{PlannedRun}
use Rattle.ctf_class.specs.declared.route.Length.{Length}
use Rattle.ctf_class.specs.declared.route.Scope.{Scope}
use Rattle.ctf_class.specs.declared.route.Scope.TheVariants.{PacketHeader, PacketContext, EventHeader, StreamEventContext, EventContext, EventFields}
use Rattle.ctf_class.specs.declared.shown.Shown.{Shown as PlannedShown}
use Rattle.ctf_class.specs.declared.shown.Shown.TheVariants as fields
use Rattle.ctf_class.specs.declared.planned_number.PlannedNumber.{PlannedNumber}
use Rattle.ctf_class.specs.declared.structures.Structures.{Structures}
use Rattle.ctf_decode.specs.Values.{Val}
use Rattle.ctf_decode.specs.Views.{form}
use Rattle.ctf_decode.specs.Walk.{walk}
use Rattle.ctf_format.specs.Structures.{IsNearStructure}
use Rattle.ctf_format.specs.RunNumbers.{number_at, place_in, IsPlaced}
use Rattle.ctf_format.specs.Standing.{Before, Counts, PutsNext, StandsAs, among, known}
use Rattle.ctf_decode.specs.Forms.{Form}
use Rattle.ctf_format.specs.Texts.{Shown, value_text}
use Rattle.ctf_format.specs.declared.content.Content.{Content}
use Rattle.ctf_format.specs.declared.placed_run.PlacedRun.{PlacedRun}
use Rattle.ctf_format.specs.declared.planned_record.Reach.{Reach}
use Rattle.ctf_format.specs.declared.standing.Last.{Last}
use Rattle.ctf_format.specs.declared.standing.Last.TheVariants as lasts

-- How far fields came: where the next one could begin, how many values were begun in arrays and variants,
-- the value that comes last, as far as it is known, and what was written.
pub record Reached : Type 0 where
  pub place : ℕ
  pub more : ℕ
  pub last : Last
  pub line : List ℕ

-- as far as a place, with so many values in them and this line, after a value, as far as that is known
abbrev pub after_value : ℕ → ℕ → Last → List ℕ → Reached
after_value place more last line = record { place = place; more = more; last = last; line = line }

-- as far as this, with this line, and no value is known
abbrev pub reached : Reach → List ℕ → Reached
reached r line = after_value r.place r.more lasts.Unknown line

-- as far as this, with this line, after a number, if it is known
abbrev pub after_number : Reach → Option ℕ → List ℕ → Reached
after_number r last line = after_value r.place r.more (known last) line

-- what is known before a member after so many others: the last one, as far as it is given; nothing before the first, or
-- after a structure that is gone into
abbrev pub after_last : ℕ → Last → Before
after_last zero last = record { index = zero; last = lasts.Unknown }
after_last (suc i) last = record { index = suc i; last = last }

-- the same after a number, if it is given
abbrev pub after_members : ℕ → Option ℕ → Before
after_members index last = after_last index (known last)

-- A field's value comes after other fields, whatever was decoded before them, and what is printed of it follows what
-- was written. It is what is known of it then.
abbrev pub PutsField : Slot → List ℕ → ℕ → Reached → Reached → Type 0
PutsField s packet content from to =
    let begun = next_multiple_of from.place s.align in
    (begun ≤ content) × (some : ℕ) × (to.more ≡ from.more + some)
    × PutsNext (after_last s.index from.last) (form s.class)
    (λ v. s.lead ++ value_text s.class v) packet content begun from.line
    (record { place = to.place; text = 0; more = some; last = known None }) to.line
    × StandsAs to.last (form s.class) packet content begun

-- so do fields one after the other
abbrev pub PutsFields : List Slot → List ℕ → ℕ → Reached → Reached → Type 0
PutsFields [] packet content from to = to ≡ from
PutsFields (s ∷ ss) packet content from to =
    (mid : Reached) × PutsField s packet content from mid × PutsFields ss packet content mid to

-- a value is at the place that was reached, after a number, if it is known, and so many others of its structure
abbrev pub PutsOther : ℕ → Option ℕ → Form → Shown → List ℕ → ℕ → Reach → List ℕ → Reach
    → List ℕ → Type 0
PutsOther index last k shown packet content from before to after =
    (some : ℕ) × (to.more ≡ from.more + some)
    × PutsNext (after_members index last) k shown packet content from.place before
    (record { place = to.place; text = 0; more = some; last = known None }) after

-- a number, if it is given, is the last one of a run that begins after so many bytes, and unsigned
abbrev pub IsLastNumber : Option ℕ → List PlannedNumber → List ℕ → ℕ → Type 0
IsLastNumber last [] packet first = last ≡ None
IsLastNumber last (n ∷ []) packet first =
    IfSome last (λ v.
    (n.integer.is_signed ≡ false) × (number_at n.integer packet (place_in first n) ≡ pos v))
IsLastNumber last (n ∷ (m ∷ ns)) packet first = IsLastNumber last (m ∷ ns) packet first

-- such a number of a run in a packet
abbrev pub IsLastOf : PlacedRun → Option ℕ → Type 0
IsLastOf placed last =
    IsLastNumber last placed.run.now.numbers placed.packet.now.bytes.now
    ((placed.end - placed.run.now.span) / 8)

-- an array of this length has so many elements after so many members and such a run
abbrev pub CountsAfter : PlacedRun → ℕ → Length → ℕ → Type 0
CountsAfter placed index length n =
    (last : Option ℕ) × IsLastOf placed last × Counts length (after_members index last) n

-- the texts of such a field after a run's numbers, if they were written, are in the buffer from the index that was
-- reached before them to the one that is reached then
abbrev pub PutsAfterNumbers : Option ℕ → (ℕ → Class → Type 0) → PlacedRun → Reach → List ℕ → Reach
    → List ℕ
    → Type 0
PutsAfterNumbers result Are placed from before to items =
    (index : ℕ) (class : Class) → Are index class
    → IfSome result (λ text.
    (last : Option ℕ) × IsLastOf placed last
    × PutsOther index last (form class) (value_text class)
    placed.packet.now.bytes.now placed.packet.now.end from before to (take text items))

-- those of an array of integers
abbrev pub PutsIntegers : Option ℕ → Integers → PlacedRun → Reach → List ℕ → Reach → List ℕ
    → Type 0
PutsIntegers result are =
    PutsAfterNumbers result (λ index class. AreIntegers index class are.integer are.align are.many)

-- those of an array of structures of numbers
abbrev pub PutsStructures : Option ℕ → Structures → PlacedRun → Reach → List ℕ → Reach → List ℕ
    → Type 0
PutsStructures result are =
    PutsAfterNumbers result (λ index class. AreMany (λ k. IsStructure k are) index class are.many)

-- those of what a field is shown as
abbrev pub PutsShown : Option ℕ → PlannedShown → PlacedRun → Reach → List ℕ → Reach → List ℕ
    → Type 0
PutsShown result what = PutsAfterNumbers result (λ index class. IsShown index class what)

-- a run takes the first of these fields, and these are left
abbrev pub TakesRun : List Slot → PlannedRun → List Slot → Type 0
TakesRun ss r others =
    (rest : List Slot) × TakesNumbers r.align ss r.numbers r.span rest
    × After rest r.field (λ xs. xs ≡ others)

-- the fields of a run, if they were written, come after others from where these came to where the buffer says now
abbrev pub PutsRun : Option ℕ → PlannedRun → Content → Reached → Reach → List ℕ → Type 0
PutsRun result r packet from to items =
    (slots others : List Slot) → TakesRun slots r others
    → IfSome result (λ text.
    (used : List Slot) × (slots ≡ used ++ others)
    × PutsFields used packet.bytes.now packet.end from (reached to (take text items)))

-- what is known of the structures of numbers that a field is shown as
abbrev pub IsNearShown : PlannedShown → Type 0
IsNearShown (fields.Structures are) = IsNearStructure are
IsNearShown _ = ⊤

-- What is known of each run of a plan: how much room its text takes, that its span is short, whether it has special
-- numbers, that all its numbers are within its span, that their windows are those of their integers, and what is known
-- of its field.
pub record IsNear (r : PlannedRun) : Type 0 where
  pub room : r.room ≡ room_of r.numbers r.field
  pub bounded : r.span ≤ 2 ^ 33
  pub special : r.has_special ≡ have_special r.numbers
  pub within_span : All (λ n. n.window.place + bits_of n.integer ≤ r.span) r.numbers
  pub placed : All IsPlaced r.numbers
  pub inner : IfSome r.field (λ f. IsNearShown f.shown)

-- `place` is where a run begins, if what is before it ends at `from`: the next multiple of its alignment, which is the
-- first bit of a byte where the run has numbers
pub record BeginsAt (from : ℕ) (r : PlannedRun) (place : ℕ) : Type 0 where
  pub least : IsLeastMultiple from r.align place
  pub value : place ≡ next_multiple_of from r.align
  pub whole : 0 < length r.numbers → place % 8 ≡ 0

-- how many scopes are decoded before one
abbrev pub turn_of : Scope → ℕ
turn_of PacketHeader = 0
turn_of PacketContext = 1
turn_of EventHeader = 2
turn_of StreamEventContext = 3
turn_of EventContext = 4
turn_of EventFields = 5

-- What is found in the scopes after one: its value there, and in those before it what was found in them before.
abbrev pub SeesAfter : Scope → Val → (Scope → Option Val) → (Scope → Option Val) → Type 0
SeesAfter scope v earlier later =
    (later scope ≡ Some v)
    × ((other : Scope) → turn_of other < turn_of scope → later other ≡ earlier other)

-- The values of scopes follow each other from a place to another where this was decoded before, each where those before
-- it are found, and their texts, with a comma between two, follow a text. So many values were begun before them, and
-- after them.
abbrev pub ScopesFollow : List ScopeClass → (Scope → Option Val) → List ℕ → ℕ → ℕ → ℕ → ℕ → ℕ
    → List ℕ
    → List ℕ → Type 0
ScopesFollow [] earlier packet content place spent end total before after = ⊥
ScopesFollow (k ∷ []) earlier packet content place spent end total before after =
    (v : Val) × (walk (form k.1) (among packet content earlier) [] place spent ≡ Ok (v, end, total))
    × (after ≡ before ++ value_text k.1 v)
ScopesFollow (k ∷ (l ∷ ks)) earlier packet content place spent end total before after =
    (v : Val) × (mid many : ℕ)
    × (walk (form k.1) (among packet content earlier) [] place spent ≡ Ok (v, mid, many))
    × ((later : Scope → Option Val) → SeesAfter k.0 v earlier later
    → ScopesFollow (l ∷ ks) later packet content mid many end total
    ((before ++ value_text k.1 v) ++ codes ", ") after)
