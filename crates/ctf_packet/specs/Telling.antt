-- What a header says of its event record.
use Rattle.std.specs.Prelude.{◌≡◌, ℕ, ℤ, Bool, true, false, IsTrue, List, map, Option, Some, None, Result, Ok, Err}
use Rattle.std.specs.List.{last_or}
use Rattle.ctf_class.specs.declared.class.Class.{Class}
use Rattle.ctf_class.specs.declared.class.Member.{Member}
use Rattle.ctf_class.specs.declared.integer.Integer.{Integer}
use Rattle.ctf_clock.specs.Clock.{Line, advanced_by}
use Rattle.ctf_clock.specs.declared.moment.Moment.{Moment}
use Rattle.ctf_decode.specs.Fields as fields
use Rattle.ctf_decode.specs.Forms.{Form, parts_of}
use Rattle.ctf_decode.specs.Values.{Val, vals_of}
use Rattle.ctf_decode.specs.Views.{form, member_part, val}
use Rattle.ctf_decode.specs.declared.value.Value.{Value}
use Rattle.ctf_packet.specs.Moved as moved
use Rattle.ctf_packet.specs.Packets.{moves, clock_after}
use Rattle.ctf_packet.specs.Records.{ids_in}
use Rattle.ctf_packet.specs.declared.fault.StreamFault.{StreamFault}
use Rattle.ctf_packet.specs.declared.moves.IdAndClock.{IdAndClock}
use Rattle.ctf_packet.specs.declared.told.HeaderTold.{HeaderTold}

-- the clock that integers set, if none of them was refused
abbrev pub after : Bool → IdAndClock → Option Moment
after true told = Some told.clock
after false told = None

-- it is set by these integers, one after the other, unless one of them is refused
abbrev pub Moves : Line → List (ℕ × ℕ) → IdAndClock → Bool → IdAndClock → Type 0
Moves line integers old result new = after result new ≡ advanced_by line old.clock integers

-- the last of these numbers is kept, unless one of the integers was refused
abbrev pub KeepsLast : List ℤ → IdAndClock → Bool → IdAndClock → Type 0
KeepsLast numbers old result new = IsTrue result → new.id ≡ last_or old.id numbers

-- the integers that set the clock: that of an integer itself, those of a value, of a structure's members, of an array's
-- elements, of what was chosen among options, and of the value of option i
abbrev pub integer_moves : Integer → Value → List (ℕ × ℕ)
integer_moves integer value = moved.moved_in integer (val value)

abbrev pub value_moves : Class → Value → List (ℕ × ℕ)
value_moves class value = moved.moved (form class) (val value)

abbrev pub member_moves : List Member → List Value → List (ℕ × ℕ)
member_moves members values =
    moved.member_moved (parts_of (map member_part members)) (vals_of (map val values))

abbrev pub element_moves : Class → List Value → List (ℕ × ℕ)
element_moves element values =
    fields.of_each (moved.moved (form element)) (vals_of (map val values))

abbrev pub choice_moves : List Member → Value → List (ℕ × ℕ)
choice_moves options value =
    fields.of_choice (fields.choice_in (val value))
    (moved.option_moved (parts_of (map member_part options)))

abbrev pub option_moves : List Member → ℕ → Value → List (ℕ × ℕ)
option_moves options i inner = moved.option_moved (parts_of (map member_part options)) i (val inner)

-- the numbers named `id` of the same
abbrev pub value_ids : Class → Value → List ℤ
value_ids class value = fields.ids (form class) (val value)

abbrev pub member_ids : List Member → List Value → List ℤ
member_ids members values =
    fields.member_ids (parts_of (map member_part members)) (vals_of (map val values))

abbrev pub element_ids : Class → List Value → List ℤ
element_ids element values = fields.of_each (fields.ids (form element)) (vals_of (map val values))

abbrev pub choice_ids : List Member → Value → List ℤ
choice_ids options value =
    fields.of_choice (fields.choice_in (val value))
    (fields.option_ids (parts_of (map member_part options)))

abbrev pub option_ids : List Member → ℕ → Value → List ℤ
option_ids options i inner = fields.option_ids (parts_of (map member_part options)) i (val inner)

-- its class number and the clock after it; or the clock is refused
abbrev pub TellsHeader : Option Line → Option Moment → Option Form → Option Val
    → Result HeaderTold StreamFault → Type 0
TellsHeader line clock k v (Ok told) =
    (clock_after line clock (moves k v) ≡ Ok told.clock) × (told.id ≡ last_or None (ids_in k v))
TellsHeader line clock k v (Err f) = clock_after line clock (moves k v) ≡ Err f
