-- Laws of what streams mean.
use Rattle.std.specs.Prelude.{◌≡◌, ℕ, ◌-◌, ◌<◌, ◌≤◌, nat_lt, if◌then◌else◌, List, [], ◌∷◌, drop, Option, Some}
use Rattle.ctf_bits.specs.declared.source.Ending.{Ending}
use Rattle.ctf_clock.specs.declared.moment.Moment.{Moment}
use Rattle.ctf_class.specs.declared.integer.Integer.{Integer}
use Rattle.ctf_decode.specs.Fields as fields
use Rattle.ctf_decode.specs.Forms.{Form}
use Rattle.ctf_decode.specs.Input.{Input, Env}
use Rattle.ctf_decode.specs.Laws.{Is}
use Rattle.ctf_decode.specs.Stands.{Stands}
use Rattle.ctf_decode.specs.Values.{Val}
use Rattle.ctf_decode.specs.Walk.{walk}
use Rattle.ctf_packet.specs.Classes.{Classes, TraceForm}
use Rattle.ctf_packet.specs.Moved.{moved_in, moved}
use Rattle.ctf_packet.specs.Held.{IsWidth, IsHeld, HasWidths}
use Rattle.ctf_packet.specs.Packets.{Opened, open_at, reached_after}
use Rattle.ctf_packet.specs.Records.{record_at}
use Rattle.ctf_packet.specs.Items.{Run, stops, end_fault, longest_stream, recorded, from_place, opened, from_bytes}
use Rattle.ctf_packet.specs.declared.reached.Reached.{Reached}
use Rattle.ctf_packet.specs.declared.fault.StreamFault.TheVariants as faults

-- the value or fault that packets and event records are made of is the one that is there
abbrev pub WalkFindsWhatStands : Type 0
WalkFindsWhatStands =
    (k : Form) (c : Input) (env : Env) (p s : ℕ) → Is k c env p s (walk k c env p s)

-- The clock goes by the steps that ctf_decode's `moving` gives: of each integer whose value its width holds, and so of
-- each value that is there.
pub record ClockGoesByMoving : Type 0 where
  pub of_integers : (i : Integer) (v : Val) → IsWidth i.size → IsHeld i.size v
      → moved_in i v ≡ fields.moved_in i v
  pub of_values : (k : Form) (c : Input) (env : Env) (p : ℕ) (v : Val) (q : ℕ) → HasWidths k
      → Stands k c env p v q → moved k v ≡ fields.moved k v

-- What comes from a place on is the event record there, and what comes from its end on; or its fault. After the
-- content it is what follows.
pub record RecordsGoOn : Type 0 where
  pub goes_on : (packet : Opened Classes) (bytes : List ℕ) (follows : Option Moment → Run Classes)
      (clock : Option Moment) (place : ℕ)
      → place < packet.content
      → from_place packet bytes clock place follows
      ≡ recorded packet (λ next end. from_place packet bytes next end follows)
      (record_at packet bytes clock place)
  pub ends : (packet : Opened Classes) (bytes : List ℕ) (follows : Option Moment → Run Classes)
      (clock : Option Moment) (place : ℕ)
      → packet.content ≤ place → from_place packet bytes clock place follows ≡ follows clock

-- What comes from a packet boundary on is the packet there, and what comes from its end on, where the stream has come
-- so far; or its fault. Where no byte is left it is the end.
pub record PacketsGoOn : Type 0 where
  pub goes_on : (trace : TraceForm Classes) (ending : Ending) (reached : Option Reached)
      (at byte : ℕ) (bytes : List ℕ)
      → let left = byte ∷ bytes in
      from_bytes trace ending reached at left
      ≡ (if nat_lt longest_stream at
      then stops (Some faults.StreamTooLong) at
      else opened at left
      (λ packet clock.
      from_bytes trace ending (Some (reached_after packet clock)) packet.end
      (drop (packet.end - packet.start) left))
      (open_at trace ending reached at left))
  pub ends : (trace : TraceForm Classes) (ending : Ending) (reached : Option Reached) (at : ℕ)
      → from_bytes trace ending reached at [] ≡ stops (end_fault ending) at
