-- What is in an event record's line after its stamp.
use Rattle.std.specs.Prelude.{ℕ, List, [], ◌∷◌, ◌++◌, Option, Some, None, if◌then◌else◌}
use Rattle.ctf_class.specs.declared.class.Class.{Class}
use Rattle.ctf_class.specs.declared.class.Member.{Member}
use Rattle.ctf_class.specs.declared.trace.EventClass.{EventClass}
use Rattle.ctf_class.specs.Fronts.{is_of_packet, members_of}
use Rattle.ctf_class.specs.Streams.{StreamClass}
use Rattle.ctf_class.specs.HostAndName.{heading_text}
use Rattle.ctf_decode.specs.Values.{Val, Vals, no_vals, more_vals}
use Rattle.ctf_decode.specs.Fields.{members_in}
use Rattle.ctf_format.specs.Rows.{enclosed, joined}
use Rattle.ctf_format.specs.Texts.{part_text, member_part, value_text}

-- the members of a packet context that are shown, as far as there are values (own)
abbrev pub shown_members : List Member → Vals → List (List ℕ)
shown_members [] vs = []
shown_members (member ∷ members) no_vals = []
shown_members (member ∷ members) (more_vals v vs) =
    if is_of_packet member.name then shown_members members vs
    else part_text (member_part member) v ∷ shown_members members vs

-- a packet context; nothing where none of its members is shown (own)
abbrev pub context_text : List (List ℕ) → List ℕ
context_text [] = []
context_text (text ∷ texts) = enclosed 123 125 (text ∷ texts)

abbrev pub packet_text : Class → Val → List ℕ
packet_text class v = context_text (shown_members (members_of class) (members_in v))

-- the part of a line that all event records of a packet share: nothing where the packet has no context
abbrev pub packet_part : Option Class → Option Val → List ℕ
packet_part (Some class) (Some v) = packet_text class v
packet_part (Some class) None = []
packet_part None v = []

-- a text that is not empty
abbrev pub if_shown : List ℕ → List (List ℕ)
if_shown [] = []
if_shown (byte ∷ bytes) = (byte ∷ bytes) ∷ []

-- a scope, where it has a class and a value
abbrev pub scope_texts : Option Class → Option Val → List (List ℕ)
scope_texts (Some class) (Some v) = value_text class v ∷ []
scope_texts (Some class) None = []
scope_texts None v = []

-- the scopes of an event record: the packet context, of which the text is given, the stream event context,
-- the event context and the event fields (own; the order is that of CTF 1.8.3, section 7.3.2)
abbrev pub record_texts : List ℕ → StreamClass → EventClass → Option Val → Option Val → Val
    → List (List ℕ)
record_texts packet stream event shared own fields =
    if_shown packet
    ++ (scope_texts stream.event_context shared
    ++ (scope_texts event.context own ++ (value_text event.fields fields ∷ [])))

-- the host, the name and the scopes (own)
abbrev pub record_text : List ℕ → StreamClass → EventClass → Option Val → Option Val → Val → List ℕ
record_text packet stream event shared own fields =
    heading_text event.heading ++ joined (record_texts packet stream event shared own fields)
