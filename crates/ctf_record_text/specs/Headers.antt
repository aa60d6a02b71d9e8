-- Headers that are decoded in place.
use Rattle.std.specs.Prelude.{◌≡◌, ℕ, pos, List, Option, Some, None, Ok, option_map}
use Rattle.std.specs.List.{last_or}
use Rattle.ctf_class.specs.declared.route.Scope.{Scope}
use Rattle.ctf_class.specs.HeaderPlans.{IsHeaderPlan}
use Rattle.ctf_class.specs.Streams.{StreamClass}
use Rattle.ctf_class.specs.declared.class.Class.{Class}
use Rattle.ctf_class.specs.declared.header_plan.HeaderPlan.{HeaderPlan}
use Rattle.ctf_clock.specs.Clock.{Line, advanced_by}
use Rattle.ctf_clock.specs.declared.moment.Moment.{Moment}
use Rattle.ctf_clock.specs.declared.moment.Shift.{Shift}
use Rattle.ctf_decode.specs.Fields.{ids}
use Rattle.ctf_decode.specs.Forms.{Form}
use Rattle.ctf_decode.specs.Input.{Env}
use Rattle.ctf_decode.specs.Values.{Val}
use Rattle.ctf_decode.specs.Views.{form}
use Rattle.ctf_decode.specs.Walk.{walk}
use Rattle.ctf_record_text.specs.declared.header.ToldHead.{ToldHead}
use Rattle.ctf_record_text.specs.declared.planned_header.HeaderRead.{HeaderRead}
use Rattle.ctf_packet.specs.Classes.{Classes, StreamForm, event_form, stream_form}
use Rattle.ctf_packet.specs.Moved.{moved}
use Rattle.ctf_packet.specs.Records.{Headed, headed}
use Rattle.ctf_packet.specs.Places.{IsTimed}
use Rattle.ctf_packet.specs.declared.record_place.RecordPlace.{RecordPlace}
use Rattle.ctf_packet.specs.Scopes.{Values}
use Rattle.ctf_format.specs.Standing.{among}

-- the clock after integers that set it, where there is one
abbrev pub set_by : Option Line → Moment → List (ℕ × ℕ) → Option Moment
set_by None from ms = Some from
set_by (Some line) from ms = advanced_by line from ms

-- A value is where a header begins, whatever was decoded before. Its integers that set the clock set it so, and its
-- last number named `id` is this (own).
abbrev pub Tells : Option Line → Form → List ℕ → ℕ → Moment → ℕ → HeaderRead → Type 0
Tells line k packet content clock place to =
    (earlier : Scope → Option Val) (env : Env)
    → (v : Val)
    × (walk k (among packet content earlier) env place 0 ≡ Ok (v, to.place, to.values))
    × (set_by line clock (moved k v) ≡ Some to.clock)
    × (last_or None (ids k v) ≡ option_map pos to.id)

-- so of each header whose plan this is
abbrev pub TellsPlanned : Option Line → HeaderPlan → List ℕ → ℕ → Moment → ℕ → HeaderRead → Type 0
TellsPlanned line plan packet content clock place to =
    (k : Class) → IsHeaderPlan plan k → Tells line (form k) packet content clock place to

-- the header at a place, whatever the values of the scopes before it
abbrev pub TellsHead : StreamClass → StreamForm Classes → List ℕ → ℕ → Option Moment → ℕ → ToldHead
    → Type 0
TellsHead class stream bytes content clock place told =
    (values : Values)
    → (h : Headed Classes) × (headed stream bytes content values clock place ≡ Ok h)
    × (event_form class told.head.event.now ≡ h.event) × (told.head.clock ≡ h.clock)
    × (told.head.end ≡ h.header.end) × (told.spent ≡ h.header.spent)

-- the header at the place where a record begins, whose packet has the clock of its stream
abbrev pub TellsAt : RecordPlace → ToldHead → Type 0
TellsAt at told =
    let class = at.packet.now.stream.now in
    (shift : Shift) → IsTimed shift at.packet.now
    → TellsHead class (stream_form shift class) at.bytes.now at.packet.now.content at.clock at.place
    told
