-- Clocks, and which integers set one. (CTF 1.8.3, section 8.)
use Rattle.std.specs.Prelude.{ℕ, ◌^◌, nat_eq, nat_lt, Bool, true, false, not, ◌&&◌, if◌then◌else◌, List, [], ◌∷◌, ◌++◌, Option, Some, None, option_and_then, is_none, codes, find, ℤ, pos, negsuc, flat_map}
use Rattle.std.specs.Option.{option_or, option_map_or}
use Rattle.tsdl_tree.specs.declared.tree.Setting.{Setting}
use Rattle.tsdl_tree.specs.declared.tree.Value.{Value}
use Rattle.ctf_class.specs.declared.route.Scope.{Scope}
use Rattle.ctf_class.specs.declared.route.Scope.TheVariants.{PacketContext, EventHeader}
use Rattle.ctf_class.specs.declared.trace.Clock.{Clock}
use Rattle.ctf_meaning.specs.declared.fault.ResolveFault.{ResolveFault}
use Rattle.ctf_meaning.specs.declared.fault.ResolveFault.TheVariants.{Attribute}
use Rattle.ctf_meaning.specs.Name.{Word, same_word}
use Rattle.ctf_meaning.specs.There.{◌>>=◌}
use Rattle.ctf_meaning.specs.Settings.{when, one, attribute, number_of, count_of, text_of, known_as, wrong, repeated}
use Rattle.ctf_meaning.specs.declared.integer.DeclaredInteger.{DeclaredInteger}
use Rattle.ctf_meaning.specs.Paths.{Spot}

-- `freq` is from 1 to 2^64 - 1. (The tokens have no greater constant.)
abbrev pub frequency_of : Value → Option ℕ
frequency_of value = option_and_then (λ n. if nat_eq n 0 then None else Some n) (count_of value)

-- `offset_s` and `offset` are from -2^63 to 2^63 - 1 (own).
abbrev pub in_64_bits : ℤ → Option ℤ
in_64_bits (pos n) = if nat_lt n (2 ^ 63) then Some (pos n) else None
in_64_bits (negsuc n) = if nat_lt n (2 ^ 63) then Some (negsuc n) else None

abbrev pub offset_of : Value → Option ℤ
offset_of value = option_and_then in_64_bits (number_of value)

-- the settings of a clock with a meaning
abbrev pub clock_words : List Word
clock_words = codes "name" ∷ codes "freq" ∷ codes "offset_s" ∷ codes "offset" ∷ []

-- cycles a second of a clock that says nothing of it
abbrev pub default_frequency : ℕ
default_frequency = 1000000000

-- A clock has a name; without other settings it runs at 1 GHz from the epoch on.
abbrev pub clock_by : List Setting → Option Clock
clock_by settings = do
  name ← attribute settings (one (codes "name")) >>= text_of
  Some (record {
    name = name;
    frequency = known_as frequency_of default_frequency (attribute settings (one (codes "freq")));
    offset_seconds = known_as offset_of (pos 0) (attribute settings (one (codes "offset_s")));
    offset = known_as offset_of (pos 0) (attribute settings (one (codes "offset")));
  })

-- what is wrong with the settings of a clock: R3
abbrev pub clock_faults : List Setting → List ResolveFault
clock_faults settings =
    flat_map (repeated settings) clock_words
    ++ when (is_none (clock_by settings)) Attribute
    ++ wrong frequency_of (attribute settings (one (codes "freq")))
    ++ wrong offset_of (attribute settings (one (codes "offset_s")))
    ++ wrong offset_of (attribute settings (one (codes "offset")))

abbrev pub clock_named : List Clock → Word → Option Clock
clock_named clocks name = find (λ c. same_word c.name name) clocks

-- 1 GHz from the epoch on, where the trace declares no clock (own)
abbrev pub plain_clock : Clock
plain_clock = record {
  name = [];
  frequency = default_frequency;
  offset_seconds = pos 0;
  offset = pos 0;
}

-- the trace's clock where it declares exactly one, the plain one where it declares none (own)
abbrev pub only_clock : List Clock → Option Clock
only_clock [] = Some plain_clock
only_clock (clock ∷ []) = Some clock
only_clock (clock ∷ second ∷ more) = None

-- the class at a spot is itself the member of this name
abbrev pub is_called : Spot → Word → Bool
is_called spot word = option_map_or (same_word word) spot.member false

-- An unmapped unsigned integer counts as mapped to the only clock where it is itself a member `timestamp` of the event
-- header, at any depth, or `timestamp_begin` at the top of the packet context (own).
abbrev pub is_stamp_in : Scope → Spot → Bool
is_stamp_in EventHeader spot = is_called spot (codes "timestamp")
is_stamp_in PacketContext spot = spot.is_top && is_called spot (codes "timestamp_begin")
is_stamp_in _ spot = false

abbrev pub is_stamp : Spot → DeclaredInteger → Bool
is_stamp spot i = is_none i.clock && not i.is_signed && is_stamp_in spot.scope spot

-- the clock to which an integer is mapped at its place
abbrev pub clock_at : List Clock → Spot → DeclaredInteger → Option Clock
clock_at clocks spot i =
    option_or (option_and_then (clock_named clocks) i.clock)
    (if is_stamp spot i then only_clock clocks else None)

-- A clock is set by the mapped integers of the packet context, without a `timestamp_end` at its top, and of the event
-- header; a signed one sets it too (own).
abbrev pub moves_in : Scope → Spot → Bool
moves_in EventHeader spot = true
moves_in PacketContext spot = not (spot.is_top && is_called spot (codes "timestamp_end"))
moves_in _ spot = false

-- the clock that an integer sets at its place
abbrev pub moved_clock : List Clock → Spot → DeclaredInteger → Option Clock
moved_clock clocks spot i = if moves_in spot.scope spot then clock_at clocks spot i else None
