-- What a step of a session does, and what a run of steps does.
use Rattle.std.specs.Prelude.{◌≡◌, ℕ, ℤ, ◌<◌, ◌⊎◌, Bool, true, false, IsTrue, List, [], ◌∷◌, Option, Some, None}
use Rattle.ctf_bits.specs.Count.{one_more}
use Rattle.ctf_merge.specs.Merged.{Merged, Placed, ends, then, PlacedRise}
use Rattle.ctf_merge.specs.Merges.{MergedOrRefused, EachTells, LeavesOne}
use Rattle.ctf_merge.specs.declared.fault.MergeFault.{MergeFault}
use Rattle.ctf_faults.specs.Table as table
use Rattle.ctf_faults.specs.declared.outcome.Outcome.{Outcome}
use Rattle.ctf_faults.specs.declared.outcome.Outcome.TheVariants as outcomes
use Rattle.ctf_faults.specs.declared.outcome.RunFault.{RunFault}
use Rattle.ctf_faults.specs.declared.outcome.RunFault.TheVariants as faults
use Rattle.ctf_packet.specs.declared.fault.StreamFault.TheVariants as streams
use Rattle.ctf_timestamp.specs.declared.trim.Verdict.{Verdict}
use Rattle.ctf_timestamp.specs.declared.trim.Verdict.TheVariants.{Before, Within, After}
use Rattle.ctf_stream.specs.Reader.{Reader}
use Rattle.ctf_session.specs.Answers.{Setting, Answer, answer, verdict, is_after, is_within, text_of, last_after, fault_texts, outcome_of}
use Rattle.ctf_session.specs.Writing.{Texts, no_texts, Written, Writes, WritesParts, Stopped, Finished}
use Rattle.ctf_session.specs.declared.step.Step.{Step}
use Rattle.ctf_session.specs.declared.step.Step.TheVariants as steps

-- ---- a session

pub record Session : Type 0 where
  pub readers : List Reader
  pub setting : Setting
  -- the items to come up to the cut, and the fault; nothing once it has ended
  pub coming : Merged
  -- the time of the last printed event record that has one
  pub last : Option ℤ
  -- how it ended, once it has
  pub ended : Option Outcome
  -- how many items may still come, of any sources
  pub room : ℕ

-- each source tells its bytes, and the times of what is to come don't fall
pub record Tells (s : Session) : Type 0 where
  pub sources : EachTells s.readers
  pub rises : PlacedRise None s.coming.items

-- what is to come and how it is shown is the rest of a run
abbrev pub answer_of : Session → Answer
answer_of s = answer s.setting s.last s.coming

-- ---- a step

-- what is written for an item: nothing before the beginning
abbrev pub shown_text : Verdict → Setting → Option ℤ → Placed → Texts
shown_text Before setting last x = no_texts
shown_text Within setting last x = text_of setting last x
shown_text After setting last x = no_texts

abbrev pub last_shown : Verdict → Option ℤ → Placed → Option ℤ
last_shown Before last x = last
last_shown Within last x = last_after last x.item
last_shown After last x = last

-- what is written for the first of what is to come
abbrev pub next_texts_by : Setting → Option ℤ → List Placed → Option MergeFault → Texts
next_texts_by setting last [] fault = fault_texts setting fault
next_texts_by setting last (x ∷ xs) fault = shown_text (verdict setting x) setting last x

abbrev pub next_texts : Session → Texts
next_texts s = next_texts_by s.setting s.last s.coming.items s.coming.fault

-- One item was taken, none after the end; its line or its message was written, nothing where it is before the
-- beginning. What is to come then is the rest, unless an allocation failed.
pub record Goes (old new : Session) (w : Written) : Type 0 where
  pub item : Placed
  pub rest : Merged
  pub takes : old.coming ≡ then item rest
  pub not_after : is_after (verdict old.setting item) ≡ false
  pub wrote : Writes w (shown_text (verdict old.setting item) old.setting old.last item)
  pub leaves : MergedOrRefused rest new.coming
  pub last_is : new.last ≡ last_shown (verdict old.setting item) old.last item

-- every item that is left is after the end
abbrev pub EachAfter : Setting → List Placed → Type 0
EachAfter setting [] = Unit {0}
EachAfter setting (x ∷ xs) = (is_after (verdict setting x) ≡ true) × EachAfter setting xs

-- what is reported at the end: the fault, unless an item is left, which then is after the end
abbrev pub told_by : List Placed → Option MergeFault → Option MergeFault
told_by [] fault = fault
told_by (x ∷ xs) fault = None

-- No item is left but those after the end; where none is left the fault is reported.
pub record Ends (old : Session) (outcome : Outcome) (w : Written) : Type 0 where
  pub none_left : EachAfter old.setting old.coming.items
  pub outcome_is : outcome ≡ outcome_of old.setting (told_by old.coming.items old.coming.fault)
  pub wrote : Writes w (fault_texts old.setting (told_by old.coming.items old.coming.fault))

-- the end, or a first part of what comes next
abbrev pub EndsBy : Session → Outcome → Written → Type 0
EndsBy old outcomes.Done w = Ends old outcomes.Done w
EndsBy old (outcomes.Fault f) w = Ends old (outcomes.Fault f) w
EndsBy old outcomes.WriteFailed w = WritesParts w (next_texts old)
EndsBy old outcomes.NoMemory w = WritesParts w (next_texts old)

-- nothing is to be written next: the first item is not within, or there is none and no fault
abbrev pub IsQuietBy : Setting → List Placed → Option MergeFault → Type 0
IsQuietBy setting [] fault = fault ≡ None
IsQuietBy setting (x ∷ xs) fault = is_within (verdict setting x) ≡ false

abbrev pub IsQuiet : Session → Type 0
IsQuiet s = IsQuietBy s.setting s.coming.items s.coming.fault

-- what a step did, by its answer
abbrev pub Steps : Session → Step → Session → Written → Type 0
Steps old steps.Went new w = Goes old new w
Steps old (steps.Ended o) new w = EndsBy old o w

-- an answer that it ended stays
abbrev pub IsRepeated : Option Outcome → Step → Type 0
IsRepeated None result = Unit {0}
IsRepeated (Some o) result = result ≡ steps.Ended o

abbrev pub EndedBy : Step → Option Outcome → Type 0
EndedBy steps.Went ended = ended ≡ None
EndedBy (steps.Ended o) ended = ended ≡ Some o

abbrev pub RoomAfter : Step → ℕ → ℕ → Type 0
RoomAfter steps.Went old new = new < old
RoomAfter (steps.Ended o) old new = new ≡ old

-- The reader of one stream goes past its item, the first of what is to come. Each other reader is as it was.
pub record LeavesFirst (coming : Merged) (old new : List Reader) : Type 0 where
  pub number : ℕ
  pub leaves : LeavesOne number old new
  pub first : EachTells old
      → (rest : Merged) × (coming ≡ then (record { number = number; item = leaves.left }) rest)

-- a step that went has gone past the first item; one that ended took nothing from a source
abbrev pub ReadersAfter : Step → Merged → List Reader → List Reader → Type 0
ReadersAfter steps.Went coming old new = LeavesFirst coming old new
ReadersAfter (steps.Ended o) coming old new = new ≡ old

-- after an answer that it ended nothing is to come
abbrev pub LeavesNothing : Step → Merged → Type 0
LeavesNothing steps.Went coming = Unit {0}
LeavesNothing (steps.Ended o) coming = coming ≡ ends None

-- ---- the counts of both sinks

pub record Counts : Type 0 where
  pub out_failures : ℕ
  pub out_refusals : ℕ
  pub err_failures : ℕ
  pub err_refusals : ℕ

abbrev pub FailedOnce : Counts → Counts → Type 0
FailedOnce old new =
    (new ≡ record old { out_failures = one_more old.out_failures })
    ⊎ (new ≡ record old { err_failures = one_more old.err_failures })

abbrev pub RefusedAtMostOnce : Counts → Counts → Type 0
RefusedAtMostOnce old new =
    (new ≡ old)
    ⊎ ((new ≡ record old { out_refusals = one_more old.out_refusals })
    ⊎ (new ≡ record old { err_refusals = one_more old.err_refusals }))

-- no sink failed and none ran out of memory, but the one that stopped the call, once
abbrev pub CountsAfter : Outcome → Counts → Counts → Type 0
CountsAfter outcomes.Done old new = new ≡ old
CountsAfter (outcomes.Fault f) old new = new ≡ old
CountsAfter outcomes.WriteFailed old new = FailedOnce old new
CountsAfter outcomes.NoMemory old new = RefusedAtMostOnce old new

abbrev pub CountsAfterStep : Step → Counts → Counts → Type 0
CountsAfterStep steps.Went old new = new ≡ old
CountsAfterStep (steps.Ended o) old new = CountsAfter o old new

-- the counts of two sinks, by the sinks themselves
module _ {O E : Type 0} (out_failures out_refusals : O → ℕ)
    (err_failures err_refusals : E → ℕ) where
  abbrev pub counts_by : O → E → Counts
  counts_by out err = record {
    out_failures = out_failures out;
    out_refusals = out_refusals out;
    err_failures = err_failures err;
    err_refusals = err_refusals err;
  }

-- ---- no message before a line

-- after the line of a fault nothing of the log is held back
abbrev pub SettledBy : Outcome → Bool → Type 0
SettledBy outcomes.Done settled = Unit {0}
SettledBy (outcomes.Fault f) settled = IsTrue settled
SettledBy outcomes.WriteFailed settled = Unit {0}
SettledBy outcomes.NoMemory settled = Unit {0}

abbrev pub SettledByStep : Step → Bool → Type 0
SettledByStep steps.Went settled = Unit {0}
SettledByStep (steps.Ended o) settled = SettledBy o settled

-- the messages failed no more often, nor ran out of memory
abbrev pub SameForMessages : Counts → Counts → Type 0
SameForMessages old new =
    (new.err_failures ≡ old.err_failures) × (new.err_refusals ≡ old.err_refusals)

-- ---- out of memory is no fault

abbrev pub IsWant : RunFault → Type 0
IsWant (faults.Metadata trace fault) = table.is_refusal fault ≡ true
IsWant (faults.Stream trace fault) = fault ≡ streams.NoMemory
IsWant faults.NoMemory = Unit {0}

abbrev pub IsNamed : Outcome → Type 0
IsNamed outcomes.Done = Unit {0}
IsNamed (outcomes.Fault f) = IsWant f → ⊥
IsNamed outcomes.WriteFailed = Unit {0}
IsNamed outcomes.NoMemory = Unit {0}

abbrev pub IsNamedStep : Step → Type 0
IsNamedStep steps.Went = Unit {0}
IsNamedStep (steps.Ended o) = IsNamed o

-- ---- a run

-- A run ended with the answer's outcome and wrote all of its pieces; or it stopped in one of them.
abbrev pub Answered : Answer → Outcome → Written → Type 0
Answered a outcomes.Done w = (outcomes.Done ≡ a.outcome) × Finished a.pieces w
Answered a (outcomes.Fault f) w = (outcomes.Fault f ≡ a.outcome) × Finished a.pieces w
Answered a outcomes.WriteFailed w = Stopped a.pieces w
Answered a outcomes.NoMemory w = Stopped a.pieces w
