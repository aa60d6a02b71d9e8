-- Which event records are asked for as texts.
use Rattle.std.specs.Prelude.{ℤ, Option, Some, None}
use Rattle.ctf_clock.specs.declared.moment.Moment.{Moment}
use Rattle.ctf_record_text.specs.Making.{IsBefore}
use Rattle.ctf_stream.specs.declared.texts.Texts.{Texts}
use Rattle.ctf_stream.specs.declared.texts.Texts.TheVariants as texts

-- all, or those from a time on, if it is given
abbrev pub texts_of : Option ℤ → Texts
texts_of None = texts.All
texts_of (Some begin) = texts.From begin

-- what was asked for first stays; else all, or those from a time on
abbrev pub asked_first : Texts → Option ℤ → Texts
asked_first texts.None begin = texts_of begin
asked_first texts.All begin = texts.All
asked_first (texts.From first) begin = texts.From first

-- some are
abbrev pub AsksTexts : Texts → Type 0
AsksTexts texts.None = ⊥
AsksTexts texts.All = Unit {0}
AsksTexts (texts.From begin) = Unit {0}

-- the clock of an event record is before those that are
abbrev pub IsEarly : Texts → Option Moment → Type 0
IsEarly texts.None clock = ⊥
IsEarly texts.All clock = ⊥
IsEarly (texts.From begin) clock = IsBefore begin clock
