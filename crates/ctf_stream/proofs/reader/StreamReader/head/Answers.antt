use Rattle.std.proofs.Common.{Option, inr}
use Rattle.ctf_clock.specs.declared.moment.Moment.{Moment}
use Rattle.ctf_stream.specs.Asked.{AsksTexts, IsEarly}
use Rattle.ctf_stream.specs.declared.texts.Texts.{Texts}
use Rattle.ctf_stream.specs.declared.texts.Texts.TheVariants as texts
use Rattle.ctf_stream.proofs.reader.StreamReader.head.Goals as goal

-- where clocks alone are given, texts were asked for
early_asks : (writes : Texts) (clock : Option Moment) → IsEarly writes clock → AsksTexts writes
early_asks texts.None clock early = absurd early
early_asks texts.All clock early = absurd early
early_asks (texts.From begin) clock early = tt

pub returns-in-Some-Text-clause-shows : goal.returns-in-Some-Text-clause-shows
returns-in-Some-Text-clause-shows g c =
    let tells = rw c.in-Some-Text.field-0-is at c.in-Some-Text.ensures.tells in
    let asked = rw c.in-Some-Text.field-0-is at c.in-Some-Text.ensures.asked in
    inr (asked, (tells.0, tells.1))

pub returns-in-Some-Passed-clause-shows : goal.returns-in-Some-Passed-clause-shows
returns-in-Some-Passed-clause-shows g c =
    let tells = rw c.in-Some-Passed.field-0-is at c.in-Some-Passed.ensures.tells in
    let early = rw c.in-Some-Passed.field-0-is at c.in-Some-Passed.ensures.asked in
    inr (early_asks c.args.self.now.writes c.in-Some-Passed.field-0-0 early, (tells.0, tells.1))
