-- The lines of a log (own, after babeltrace2's sink.text.pretty).
use Rattle.std.specs.Prelude.{ℕ, ℤ, List, [], ◌++◌, codes, Option, Some, None}
use Rattle.std.specs.Fmt.{decimal}
use Rattle.ctf_class.specs.Escapes.{escaped}
use Rattle.ctf_clock.specs.declared.moment.Moment.{Moment}
use Rattle.ctf_record_text.specs.Texts.{event_text}
use Rattle.ctf_packet.specs.Classes.{Classes}
use Rattle.ctf_packet.specs.Items.{Event, Gap, Item, event, discarded, lost}
use Rattle.ctf_timestamp.specs.declared.style.Style.{Style}
use Rattle.ctf_timestamp.specs.Stamps.{stamp, stamp_part}

abbrev pub newline : List ℕ
newline = codes "\n"

-- the line of an event record, where an event record at a time was printed before, or none
abbrev pub event_line : Style → Option ℤ → Event Classes → List ℕ
event_line style last e = stamp_part style e.clock last ++ (event_text e ++ newline)

-- since when and until when
abbrev pub interval : Style → Option Moment → Option Moment → List ℕ
interval style (Some from) (Some to) =
    codes " between [" ++ (stamp style from ++ (codes "] and [" ++ (stamp style to ++ codes "]")))
interval style (Some from) None = []
interval style None to = []

-- what was not written, and how many
abbrev pub count_text : List ℕ → List ℕ → ℕ → List ℕ
count_text verb noun count = codes "WARNING: tracer " ++ (verb ++ (decimal count ++ noun))

-- the name of a stream, and the end of the line
abbrev pub stream_text : List ℕ → List ℕ
stream_text name = codes " in stream \"" ++ (escaped name ++ codes "\"\n")

-- the message about what a tracer did not write before a packet of a stream
abbrev pub gap_line : List ℕ → List ℕ → Style → List ℕ → Gap → List ℕ
gap_line verb noun style name gap =
    count_text verb noun gap.count ++ (interval style gap.from gap.to ++ stream_text name)

-- the line of an item of a stream of this name
abbrev pub line_of : Style → Option ℤ → List ℕ → Item Classes → List ℕ
line_of style last name (event e) = event_line style last e
line_of style last name (discarded gap) =
    gap_line (codes "discarded ") (codes " events") style name gap
line_of style last name (lost gap) = gap_line (codes "lost ") (codes " packets") style name gap

-- what was printed: the style, and the text of the last line
pub record Printed : Type 0 where
  pub style : Style
  pub text : List ℕ
