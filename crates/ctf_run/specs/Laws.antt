-- What holds of the answers of all runs.
use Rattle.std.specs.Prelude.{◌≡◌, ◌↔◌, false, List, [], ◌∷◌, map, None}
use Rattle.ctf_class.specs.declared.trace.TraceClass.{TraceClass}
use Rattle.ctf_load.specs.Loading.{Describes, IsBroken}
use Rattle.ctf_options.specs.declared.options.Options.{Options}
use Rattle.ctf_faults.specs.Lines.{metadata_line}
use Rattle.ctf_faults.specs.Table.{is_refusal}
use Rattle.ctf_faults.specs.declared.load.LoadFault.{LoadFault}
use Rattle.ctf_faults.specs.declared.outcome.Outcome.TheVariants as outcomes
use Rattle.ctf_faults.specs.declared.outcome.RunFault.TheVariants as faults
use Rattle.ctf_session.specs.Answers.{Answer}
use Rattle.ctf_run.specs.Traces.{Trace, printed, IsAnswer}

-- Every list of traces has an answer.
abbrev pub HasAnswer : Type 0
HasAnswer =
    (traces : List Trace) (options : Options) → (answer : Answer) × IsAnswer traces options answer

-- What one trace gives: the lines of its streams, each by its own name; or the line of the fault of its metadata, which
-- names no trace.
pub data IsAnswerOfOne (t : Trace) (options : Options) : Answer → Type 0 where
  whole : (class : TraceClass) → Describes t.metadata class
      → IsAnswerOfOne t options
      (printed options
      (map (λ s. record { trace = 0; class = class; name = s.name; given = s.given })
      t.streams))
  broken : (fault : LoadFault) → IsBroken t.metadata fault → is_refusal fault ≡ false
      → IsAnswerOfOne t options (record {
        pieces = record { output = []; messages = metadata_line fault None } ∷ [];
        outcome = outcomes.Fault (faults.Metadata 0 fault);
      })

-- A list of one trace has the answers of that trace.
abbrev pub OneTrace : Type 0
OneTrace =
    (t : Trace) (options : Options) (answer : Answer)
    → IsAnswer (t ∷ []) options answer ↔ IsAnswerOfOne t options answer
