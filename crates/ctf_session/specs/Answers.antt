-- What is written and answered for a list of items (own, after babeltrace2's filter.utils.trimmer and
-- sink.text.pretty).
use Rattle.std.specs.Prelude.{ℕ, ℤ, Bool, true, false, cond, List, [], ◌∷◌, Option, Some, None, get_or}
use Rattle.ctf_packet.specs.Classes.{Classes}
use Rattle.ctf_packet.specs.Items.{Item, event, discarded, lost}
use Rattle.ctf_packet.specs.declared.fault.StreamFault.{StreamFault}
use Rattle.ctf_packet.specs.declared.fault.StreamFault.TheVariants as streams
use Rattle.ctf_log.specs.Lines.{line_of}
use Rattle.ctf_merge.specs.Merged.{Merged, Placed}
use Rattle.ctf_merge.specs.declared.fault.MergeFault.{MergeFault}
use Rattle.ctf_merge.specs.declared.fault.MergeFault.TheVariants.{Stream, NoMemory}
use Rattle.ctf_faults.specs.Lines.{stream_line}
use Rattle.ctf_faults.specs.declared.outcome.Outcome.{Outcome}
use Rattle.ctf_faults.specs.declared.outcome.Outcome.TheVariants.{Done, Fault}
use Rattle.ctf_faults.specs.declared.outcome.RunFault.{RunFault}
use Rattle.ctf_faults.specs.declared.outcome.RunFault.TheVariants as faults
use Rattle.ctf_timestamp.specs.Trims.{verdict_of}
use Rattle.ctf_timestamp.specs.declared.style.Style.{Style}
use Rattle.ctf_timestamp.specs.declared.trim.Trim.{Trim}
use Rattle.ctf_timestamp.specs.declared.trim.Verdict.{Verdict}
use Rattle.ctf_timestamp.specs.declared.trim.Verdict.TheVariants.{Before, Within, After}
use Rattle.ctf_packet.specs.ItemTimes.{time_of}
use Rattle.ctf_session.specs.Writing.{Texts, no_texts, joined}

-- what a whole run goes by
pub record Setting : Type 0 where
  pub trim : Trim
  pub style : Style
  -- the number of the trace of each stream
  pub traces : List ℕ
  -- the name that is shown of each stream
  pub names : List (List ℕ)

-- ---- which items are wanted

abbrev pub verdict : Setting → Placed → Verdict
verdict setting x = verdict_of setting.trim (time_of x.item)

abbrev pub is_after : Verdict → Bool
is_after Before = false
is_after Within = false
is_after After = true

abbrev pub is_within : Verdict → Bool
is_within Before = false
is_within Within = true
is_within After = false

-- some item is after the end
abbrev pub some_after : Setting → List Placed → Bool
some_after setting [] = false
some_after setting (x ∷ xs) = cond (is_after (verdict setting x)) true (some_after setting xs)

-- those that are neither after the end nor before the beginning
abbrev pub within : Setting → List Placed → List Placed
within setting [] = []
within setting (x ∷ xs) =
    cond (is_within (verdict setting x)) (x ∷ within setting xs) (within setting xs)

-- Items after the end go; if any went, there is no fault. Then items before the beginning go.
abbrev pub trimmed : Setting → Merged → Merged
trimmed setting m = record {
  items = within setting m.items;
  fault = cond (some_after setting m.items) None m.fault;
}

-- ---- what is written for them

-- a line of an event record goes to the output, a message to the messages
abbrev pub by_kind : Item Classes → List ℕ → Texts
by_kind (event e) text = record { output = text; messages = [] }
by_kind (discarded g) text = record { output = []; messages = text }
by_kind (lost g) text = record { output = []; messages = text }

-- the text of an item, where an event record at a time was printed before, or none
abbrev pub text_of : Setting → Option ℤ → Placed → Texts
text_of setting last x =
    by_kind x.item (line_of setting.style last (get_or setting.names x.number []) x.item)

abbrev pub or_last : Option ℤ → Option ℤ → Option ℤ
or_last last None = last
or_last last (Some time) = Some time

-- the time of the last printed event record that has one: a message is none
abbrev pub last_after : Option ℤ → Item Classes → Option ℤ
last_after last (event e) = or_last last (time_of (event e))
last_after last (discarded g) = last
last_after last (lost g) = last

-- ---- how it ends

-- the line of a fault of a stream; out of memory is no fault of a stream and has none
abbrev pub fault_line : StreamFault → List ℕ → List ℕ
fault_line streams.NoMemory name = []
fault_line fault name = stream_line fault name

abbrev pub fault_texts : Setting → Option MergeFault → Texts
fault_texts setting None = no_texts
fault_texts setting (Some (Stream number fault)) = record {
  output = [];
  messages = fault_line fault (get_or setting.names number []);
}
fault_texts setting (Some NoMemory) = no_texts

-- the fault of a run, with the number of its trace
abbrev pub fault_of : Setting → MergeFault → RunFault
fault_of setting (Stream number fault) = faults.Stream (get_or setting.traces number 0) fault
fault_of setting NoMemory = faults.NoMemory

abbrev pub outcome_of : Setting → Option MergeFault → Outcome
outcome_of setting None = Done
outcome_of setting (Some fault) = Fault (fault_of setting fault)

-- ---- the whole

abbrev pub fault_pieces : Setting → Option MergeFault → List Texts
fault_pieces setting None = []
fault_pieces setting (Some fault) = fault_texts setting (Some fault) ∷ []

-- the line or the message of each item, in their order, then the fault's line, if there is a fault
abbrev pub pieces_of : Setting → Option ℤ → List Placed → Option MergeFault → List Texts
pieces_of setting last [] fault = fault_pieces setting fault
pieces_of setting last (x ∷ xs) fault =
    text_of setting last x ∷ pieces_of setting (last_after last x.item) xs fault

pub record Answer : Type 0 where
  -- what is written, in the pieces in which it goes out: each to one of the sinks
  pub pieces : List Texts
  pub outcome : Outcome

-- the whole output and all messages
abbrev pub texts : Answer → Texts
texts a = joined a.pieces

abbrev pub answer_by : Setting → Option ℤ → Merged → Answer
answer_by setting last m = record {
  pieces = pieces_of setting last m.items m.fault;
  outcome = outcome_of setting m.fault;
}

-- What is written and answered for items up to the cut, and the fault at it, where an event record at a time was
-- printed before, or none.
unfoldable pub answer : Setting → Option ℤ → Merged → Answer
answer setting last m = answer_by setting last (trimmed setting m)
