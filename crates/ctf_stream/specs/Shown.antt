-- Items by reference, as those that they are.
use Rattle.std.specs.Prelude.{◌≡◌, ◌⊎◌, ℕ, List, Option, Some, None, IsSome, IfSome, option_copied, option_map}
use Rattle.ctf_class.specs.declared.trace.TraceClass.{TraceClass}
use Rattle.ctf_clock.specs.declared.moment.Moment.{Moment}
use Rattle.ctf_decode.specs.Views.{val}
use Rattle.ctf_record_text.specs.Texts.{event_text}
use Rattle.ctf_packet.specs.Classes.{Classes}
use Rattle.ctf_packet.specs.Views.{values_of}
use Rattle.ctf_packet.specs.Items as items
use Rattle.ctf_stream.specs.Asked.{AsksTexts, IsEarly}
use Rattle.ctf_stream.specs.Reader.{Peeked, item_ahead}
use Rattle.ctf_stream.specs.declared.item.Event.{Event}
use Rattle.ctf_stream.specs.declared.item.EventText.{EventText}
use Rattle.ctf_stream.specs.declared.item.Gap.{Gap}
use Rattle.ctf_stream.specs.declared.item.CurrentItem.{CurrentItem}
use Rattle.ctf_stream.specs.declared.item.CurrentItem.TheVariants as told
use Rattle.ctf_stream.specs.declared.item.Item.{Item}
use Rattle.ctf_stream.specs.declared.texts.Texts.{Texts}
use Rattle.ctf_stream.specs.declared.item.Item.TheVariants as shown
use Rattle.ctf_format.specs.Lines.{packet_part}

-- an event record, whose packet ends at a byte of the stream and has so many
abbrev pub event_of : Event → ℕ → ℕ → items.Event Classes
event_of e end length =
    record {
      class = record { stream = e.stream.now; event = e.class.now };
      clock = e.moment;
      values = values_of e.scopes.now;
      packet_end = end;
      packet_length = length;
    }

abbrev pub gap_of : Gap → ℕ → ℕ → items.Gap
gap_of g end length = record {
  count = g.count;
  clock = g.moment;
  from = g.from;
  to = g.to;
  packet_end = end;
  packet_length = length;
}

abbrev pub item_of : Item → ℕ → ℕ → items.Item Classes
item_of (shown.Event e) end length = items.event (event_of e end length)
item_of (shown.Discarded g) end length = items.discarded (gap_of g end length)
item_of (shown.Lost g) end length = items.lost (gap_of g end length)

-- the text that the lines of its packet share, where it has it, is that of the packet context
abbrev pub PartIsRight : Event → Type 0
PartIsRight e =
    IfSome (option_copied e.part) (λ text.
    text ≡ packet_part e.stream.now.packet_context (option_map val e.scopes.now.packet_context))

-- an event record has the text that the lines of its packet share
abbrev pub IsMade : Item → Type 0
IsMade (shown.Event e) = IsSome e.part
IsMade (shown.Discarded g) = Unit {0}
IsMade (shown.Lost g) = Unit {0}

-- it has this trace class and the right text of its packet, or this name of its stream
abbrev pub IsOf : TraceClass → List ℕ → Item → Type 0
IsOf trace name (shown.Event e) = (e.trace.now ≡ trace) × PartIsRight e
IsOf trace name (shown.Discarded g) = g.name.now ≡ name
IsOf trace name (shown.Lost g) = g.name.now ≡ name

-- it is the current item; or there is none
abbrev pub Shows : TraceClass → List ℕ → Peeked → Option Item → Type 0
Shows trace name ahead (Some x) =
    ((end : ℕ) × ((length : ℕ) × (item_ahead ahead ≡ Some (item_of x end length))))
    × IsOf trace name x
Shows trace name ahead None = item_ahead ahead ≡ None

-- where texts were asked for, the values of an event record may not be had
abbrev pub ShowsValues : Texts → TraceClass → List ℕ → Peeked → Option Item → Type 0
ShowsValues writes trace name ahead (Some x) = Shows trace name ahead (Some x)
ShowsValues writes trace name ahead None =
    (item_ahead ahead ≡ None)
    ⊎ (AsksTexts writes
    × ((e : items.Event Classes) × (item_ahead ahead ≡ Some (items.event e))))

-- it is the text of the current event record, with its clock
abbrev pub ShowsText : Peeked → EventText → Type 0
ShowsText ahead t =
    (e : items.Event Classes) × (item_ahead ahead ≡ Some (items.event e)) × (t.moment ≡ e.clock)
    × (t.text.now ≡ event_text e)

-- it is the clock of the current event record
abbrev pub ShowsClock : Peeked → Option Moment → Type 0
ShowsClock ahead clock =
    (e : items.Event Classes) × (item_ahead ahead ≡ Some (items.event e)) × (clock ≡ e.clock)

-- the current item is given, or there is none
abbrev pub Tells : TraceClass → List ℕ → Peeked → Option CurrentItem → Type 0
Tells trace name ahead (Some (told.Item x)) = Shows trace name ahead (Some x)
Tells trace name ahead (Some (told.Text t)) = ShowsText ahead t
Tells trace name ahead (Some (told.Passed clock)) = ShowsClock ahead clock
Tells trace name ahead None = item_ahead ahead ≡ None

abbrev pub IsMadeTold : CurrentItem → Type 0
IsMadeTold (told.Item x) = IsMade x
IsMadeTold (told.Text t) = Unit {0}
IsMadeTold (told.Passed clock) = Unit {0}

-- texts are given where they were asked for, and clocks alone before them
abbrev pub IsAsked : Texts → CurrentItem → Type 0
IsAsked writes (told.Item x) = Unit {0}
IsAsked writes (told.Text t) = AsksTexts writes
IsAsked writes (told.Passed clock) = IsEarly writes clock
