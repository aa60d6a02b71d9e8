-- When the items of a stream are.
use Rattle.std.specs.Prelude.{ℤ, Option, option_map}
use Rattle.ctf_clock.specs.declared.moment.Moment.{Moment}
use Rattle.ctf_packet.specs.Items.{Item, event, discarded, lost}

-- the clock of an item: after the header of an event record, or after the context of the packet that follows a gap
-- (own)
abbrev pub clock_of : {C : Type 0} → Item C → Option Moment
clock_of (event e) = e.clock
clock_of (discarded gap) = gap.clock
clock_of (lost gap) = gap.clock

-- the time of an item is that of its clock
abbrev pub time_of : {C : Type 0} → Item C → Option ℤ
time_of x = option_map (λ m. m.time) (clock_of x)
