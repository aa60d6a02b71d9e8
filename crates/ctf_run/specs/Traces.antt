-- What a run over traces writes and answers (own, after babeltrace2 convert).
use Rattle.std.specs.Prelude.{◌≡◌, ℕ, suc, Bool, false, nat_lt, cond, List, [], ◌∷◌, ◌++◌, length, map, take, slice_get, Option, Some, None, IsTrue, String, string_bytes, codes}
use Rattle.std.specs.List.{AllZip, AllByRecursion}
use Rattle.std.specs.declared.alloc.Global.{Global}
use Rattle.ctf_class.specs.declared.trace.TraceClass.{TraceClass}
use Rattle.ctf_load.specs.Loading.{Describes, IsBroken}
use Rattle.ctf_merge.specs.Merged.{merged}
use Rattle.ctf_options.specs.declared.options.Options.{Options}
use Rattle.ctf_faults.specs.Lines.{metadata_line}
use Rattle.ctf_faults.specs.Table.{is_refusal}
use Rattle.ctf_faults.specs.declared.load.LoadFault.{LoadFault}
use Rattle.ctf_faults.specs.declared.outcome.Outcome.{Outcome}
use Rattle.ctf_faults.specs.declared.outcome.Outcome.TheVariants as outcomes
use Rattle.ctf_faults.specs.declared.outcome.RunFault.TheVariants as faults
use Rattle.ctf_session.specs.Answers.{Answer, answer}
use Rattle.ctf_session.specs.Inputs.{Given, Input, run_in, setting_of}
use Rattle.ctf_session.specs.Steps.{Answered}
use Rattle.ctf_session.specs.Writing.{Written}
use Rattle.ctf_run.specs.declared.trace.Trace as declared

-- a stream: the name of its file, and what its source gives
pub record Stream : Type 0 where
  pub name : List ℕ
  pub given : Given

-- a trace: what it is called, the bytes of its metadata, and its streams
pub record Trace : Type 0 where
  pub name : List ℕ
  pub metadata : List ℕ
  pub streams : List Stream

module _ {S : Type 0} (given : S → Given) where
  abbrev pub stream_of : String Global × S → Stream
  stream_of stream = record { name = string_bytes stream.0; given = given stream.1 }

  abbrev pub trace_of : declared.Trace S → Trace
  trace_of t = record {
    name = string_bytes t.name;
    metadata = t.metadata.items;
    streams = map stream_of t.streams.items;
  }

  abbrev pub traces_of : List (declared.Trace S) → List Trace
  traces_of traces = map trace_of traces

-- ---- what is shown

abbrev pub are_several : List Trace → Bool
are_several traces = nat_lt 1 (length traces)

-- the name that is shown of a stream: after that of its trace, where there are several
abbrev pub shown_name : Bool → List ℕ → List ℕ → List ℕ
shown_name several trace name = cond several (trace ++ (codes "/" ++ name)) name

-- a stream by the name that is shown
abbrev pub shown_as : Bool → List ℕ → Stream → Stream
shown_as several trace stream = record {
  name = shown_name several trace stream.name;
  given = stream.given;
}

-- the trace that the line of a fault of its metadata names
abbrev pub named : Bool → List ℕ → Option (List ℕ)
named several trace = cond several (Some trace) None

-- ---- the streams of all traces

abbrev pub input_of : Bool → ℕ → List ℕ → TraceClass → Stream → Input
input_of several number trace class stream = record {
  trace = number;
  class = class;
  name = shown_name several trace stream.name;
  given = stream.given;
}

-- by trace, each with its class, and then in their order; the traces are numbered from a number on
abbrev pub inputs_from : Bool → ℕ → List Trace → List TraceClass → List Input
inputs_from several number [] classes = []
inputs_from several number (t ∷ ts) [] = []
inputs_from several number (t ∷ ts) (class ∷ classes) =
    map (input_of several number t.name class) t.streams
    ++ inputs_from several (suc number) ts classes

-- ---- the answer

-- each trace has the class that its metadata denote
abbrev pub HaveClasses : List Trace → List TraceClass → Type 0
HaveClasses traces classes = AllZip (λ t class. Describes t.metadata class) traces classes

-- what streams give: their items in one order, trimmed and printed
abbrev pub printed : Options → List Input → Answer
printed options inputs =
    answer (setting_of options inputs) None (merged (map (run_in options.shift) inputs))

-- nothing but the line of a fault of the metadata of a trace
abbrev pub refused : Bool → ℕ → List ℕ → LoadFault → Answer
refused several number name fault = record {
  pieces = record { output = []; messages = metadata_line fault (named several name) } ∷ [];
  outcome = outcomes.Fault (faults.Metadata number fault);
}

-- What a run over traces is to write and to answer: where each has a class, what their streams give; else the fault of
-- the first one that has none. Out of memory is no fault.
pub data IsAnswer (traces : List Trace) (options : Options) : Answer → Type 0 where
  whole : (classes : List TraceClass) → HaveClasses traces classes
      → IsAnswer traces options
      (printed options (inputs_from (are_several traces) 0 traces classes))
  broken : (number : ℕ) (t : Trace) (classes : List TraceClass) (fault : LoadFault)
      → slice_get traces number ≡ Some t → HaveClasses (take number traces) classes
      → IsBroken t.metadata fault → is_refusal fault ≡ false
      → IsAnswer traces options (refused (are_several traces) number t.name fault)

-- the sources of all streams tell their bytes
abbrev pub EachTells : List Trace → Type 0
EachTells traces = AllByRecursion (λ t. AllByRecursion (λ s. IsTrue s.given.tells) t.streams) traces

-- ---- a run

-- what is to be answered was answered, and its pieces were written
pub record IsAnswered (traces : List Trace) (options : Options) (outcome : Outcome) (w : Written)
    : Type 0 where
  pub answer : Answer
  pub is_answer : IsAnswer traces options answer
  pub answered : Answered answer outcome w

-- nothing was written
pub record IsSilent (w : Written) : Type 0 where
  pub output : w.new_output ≡ w.old_output
  pub messages : w.new_messages ≡ w.old_messages

-- A run gave an answer that is meant, and wrote it; where a write failed or an allocation failed, its first pieces, a
-- first part of the next one, and nothing after that. An allocation may fail before the classes are known.
pub data Runs (traces : List Trace) (options : Options) (outcome : Outcome) (w : Written)
    : Type 0 where
  answered : IsAnswered traces options outcome w → Runs traces options outcome w
  silent : outcome ≡ outcomes.NoMemory → IsSilent w → Runs traces options outcome w
