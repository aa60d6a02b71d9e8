-- The streams of a run.
use Rattle.std.specs.Prelude.{ℕ, suc, Bool, IsTrue, List, [], ◌∷◌, ◌++◌, map, String, string_bytes}
use Rattle.std.specs.List.{AllByRecursion}
use Rattle.std.specs.declared.alloc.Global.{Global}
use Rattle.ctf_bits.specs.declared.source.Ending.{Ending}
use Rattle.ctf_class.specs.declared.trace.TraceClass.{TraceClass}
use Rattle.ctf_clock.specs.declared.moment.Shift.{Shift}
use Rattle.ctf_packet.specs.Classes.{Classes, trace_form}
use Rattle.ctf_packet.specs.Items.{Run, run_of}
use Rattle.ctf_options.specs.declared.options.Options.{Options}
use Rattle.ctf_session.specs.Answers.{Setting}
use Rattle.ctf_session.specs.declared.input.Streams.{Streams}

-- what a source gives: whether it tells its bytes, those that it has left, and how it ends
pub record Given : Type 0 where
  pub tells : Bool
  pub bytes : List ℕ
  pub ending : Ending

module _ {S : Type 0} (tells : S → Bool) (left : S → List ℕ) (ending : S → Ending) where
  abbrev pub given_by : S → Given
  given_by s = record { tells = tells s; bytes = left s; ending = ending s }

-- a stream: the number of its trace, from 0, the class of that, and the name that is shown
pub record Input : Type 0 where
  pub trace : ℕ
  pub class : TraceClass
  pub name : List ℕ
  pub given : Given

module _ {S : Type 0} (given : S → Given) where
  abbrev pub input_of : ℕ → TraceClass → String Global × S → Input
  input_of trace class stream = record {
    trace = trace;
    class = class;
    name = string_bytes stream.0;
    given = given stream.1;
  }

  -- the streams of traces that are numbered from a number on, in the order of the traces
  abbrev pub inputs_from : ℕ → List (Streams S) → List Input
  inputs_from trace [] = []
  inputs_from trace (t ∷ ts) =
      map (input_of trace t.class.now) t.streams.items ++ inputs_from (suc trace) ts

-- what the bytes of a stream mean
abbrev pub run_in : Shift → Input → Run Classes
run_in shift i = run_of (trace_form shift i.class) i.given.ending i.given.bytes

-- by what a run over these goes: the options, and the traces and names of the streams
abbrev pub setting_of : Options → List Input → Setting
setting_of options inputs = record {
  trim = options.trim;
  style = options.style;
  traces = map (λ i. i.trace) inputs;
  names = map (λ i. i.name) inputs;
}

-- each source tells its bytes
abbrev pub AllTell : List Input → Type 0
AllTell inputs = AllByRecursion (λ i. IsTrue i.given.tells) inputs
