-- What a reader gives next, by its time alone.
use Rattle.std.specs.Prelude.{ℤ, Option, option_map}
use Rattle.ctf_clock.specs.declared.moment.Moment.{Moment}
use Rattle.ctf_packet.specs.ItemTimes.{time_of}
use Rattle.ctf_stream.specs.Reader as reader
use Rattle.ctf_stream.specs.declared.packet.PacketReader.{PacketReader}
use Rattle.ctf_stream.specs.declared.packet.PacketItem.{PacketItem}
use Rattle.ctf_stream.specs.declared.packet.PacketItem.TheVariants as fronts
use Rattle.ctf_stream.specs.declared.peeked.Peeked.{Peeked}
use Rattle.ctf_stream.specs.declared.peeked.Peeked.TheVariants as aheads

abbrev pub told : reader.Peeked → Peeked
told reader.start = aheads.Start
told (reader.item x) = aheads.Item (time_of x)
told reader.ended = aheads.Ended
told (reader.fault f) = aheads.Fault f

-- the clock of the current item, by the packet at hand
abbrev pub clock_in : PacketItem → PacketReader → Option Moment
clock_in (fronts.Event r) p = r.clock
clock_in (fronts.Written w) p = w.read.event.clock
clock_in (fronts.Passed r) p = r.event.clock
clock_in (fronts.Discarded count) p = p.opened.clock
clock_in (fronts.Lost count) p = p.opened.clock

abbrev pub time_in : PacketItem → PacketReader → Option ℤ
time_in front p = option_map (λ m. m.time) (clock_in front p)
