-- What holds of a reader's state where texts are asked for.
use Rattle.std.proofs.Common.{ℤ, Option, Some, None}
use Rattle.ctf_clock.specs.declared.moment.Moment.{Moment}
use Rattle.ctf_stream.specs.Asked.{AsksTexts, IsEarly, asked_first}
use Rattle.ctf_stream.specs.ReadState.{HoldsIn}
use Rattle.ctf_stream.specs.Standing.{IsStanding}
use Rattle.ctf_stream.specs.declared.packet.PacketItem.{PacketItem}
use Rattle.ctf_stream.specs.declared.packet.PacketItem.TheVariants as fronts
use Rattle.ctf_stream.specs.declared.packet.PacketReader.{PacketReader}
use Rattle.ctf_stream.specs.declared.read_state.ReadState.{ReadState}
use Rattle.ctf_stream.specs.declared.reader.ReaderHead.{ReaderHead}
use Rattle.ctf_stream.specs.declared.reader.ReaderHead.TheVariants as heads
use Rattle.ctf_stream.specs.declared.texts.Texts.{Texts}
use Rattle.ctf_stream.specs.declared.texts.Texts.TheVariants as texts

-- what was asked for before is asked for still
still_asks : (writes : Texts) (begin : Option ℤ) → AsksTexts writes → AsksTexts (asked_first writes begin)
still_asks texts.None begin asks = absurd asks
still_asks texts.All begin asks = asks
still_asks (texts.From first) begin asks = asks

still_early : (writes : Texts) (begin : Option ℤ) (clock : Option Moment) → IsEarly writes clock → IsEarly (asked_first writes begin) clock
still_early texts.None begin clock early = absurd early
still_early texts.All begin clock early = absurd early
still_early (texts.From first) begin clock early = early

still_holds : (c : ReadState) (begin : Option ℤ) (packet : Option PacketReader) (front : PacketItem) → HoldsIn c packet front → HoldsIn (record c { writes = asked_first c.writes begin }) packet front
still_holds c begin None front holds = holds
still_holds c begin (Some p) (fronts.Written w) holds =
    let written = holds.1 in
    (holds.0, record { asked = still_asks c.writes begin written.asked; read = written.read; held = written.held; text = written.text })
still_holds c begin (Some p) (fronts.Passed r) holds = (still_early c.writes begin r.event.clock holds.0, holds.1)
still_holds c begin (Some p) (fronts.Event r) holds = holds
still_holds c begin (Some p) (fronts.Discarded count) holds = holds
still_holds c begin (Some p) (fronts.Lost count) holds = holds

pub still_standing : (c : ReadState) (begin : Option ℤ) (head : ReaderHead) → IsStanding c head → IsStanding (record c { writes = asked_first c.writes begin }) head
still_standing c begin heads.Start stands = stands
still_standing c begin (heads.Item front) stands = (stands.0, stands.1, stands.2, still_holds c begin c.packet front stands.3)
still_standing c begin heads.Ended stands = stands
still_standing c begin (heads.Fault f) stands = stands
