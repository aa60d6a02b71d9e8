-- How the program ends, and what it wrote (own).
use Rattle.std.specs.Prelude.{◌≡◌, ◌⊎◌, ℕ, Bool, true, IsTrue, List, ◌++◌}
use Rattle.ctf_bits.specs.Count.{one_more}
use Rattle.ctf_options.specs.Command.{GivesOptions, IsRefusal}
use Rattle.ctf_options.specs.Texts.{usage_text}
use Rattle.ctf_options.specs.declared.options.Options.{Options}
use Rattle.ctf_options.specs.declared.usage.Usage.TheVariants as usages
use Rattle.ctf_faults.specs.Lines.{path_line}
use Rattle.ctf_faults.specs.Outcomes.{outcome_text, status_of}
use Rattle.ctf_faults.specs.declared.outcome.Outcome.{Outcome}
use Rattle.ctf_faults.specs.declared.outcome.Outcome.TheVariants.{Done, Fault, WriteFailed, NoMemory}
use Rattle.ctf_run.specs.Traces.{Trace, EachTells, Runs}
use Rattle.ctf_session.specs.Steps.{Counts, CountsAfter, SameForMessages, SettledBy}
use Rattle.ctf_session.specs.Writing.{Written, WritesPart}
use Rattle.ctf_cli.specs.Files.{Files}
use Rattle.ctf_cli.specs.Traces.{AreTraces, AreBlocked}

-- ---- the sinks

-- a sink: the bytes that it accepted, whether it holds none of them back, how often it failed, and how often it ran
-- out of memory
pub record Side : Type 0 where
  pub accepted : List ℕ
  pub settled : Bool
  pub failures : ℕ
  pub refusals : ℕ

-- the sinks of the log and of the messages
pub record Sides : Type 0 where
  pub out : Side
  pub err : Side

abbrev pub side_of : {S : Type 0} → (S → List ℕ) → (S → Bool) → (S → ℕ) → (S → ℕ) → S → Side
side_of accepted settled failures refusals s = record {
  accepted = accepted s;
  settled = settled s;
  failures = failures s;
  refusals = refusals s;
}

-- a sink that holds nothing back, as that of the messages
abbrev pub plain_side_of : {S : Type 0} → (S → List ℕ) → (S → ℕ) → (S → ℕ) → S → Side
plain_side_of accepted failures refusals s = side_of accepted (λ s. true) failures refusals s

abbrev pub written : Sides → Sides → Written
written old new = record {
  old_output = old.out.accepted;
  new_output = new.out.accepted;
  old_messages = old.err.accepted;
  new_messages = new.err.accepted;
  settled = new.out.settled;
}

abbrev pub counts_of : Sides → Counts
counts_of s = record {
  out_failures = s.out.failures;
  out_refusals = s.out.refusals;
  err_failures = s.err.failures;
  err_refusals = s.err.refusals;
}

-- ---- a text to one sink

-- the counts of a sink after a call that ended so
abbrev pub failures_after : Outcome → ℕ → ℕ
failures_after Done count = count
failures_after (Fault fault) count = count
failures_after WriteFailed count = one_more count
failures_after NoMemory count = count

abbrev pub refusals_after : Outcome → ℕ → ℕ
refusals_after Done count = count
refusals_after (Fault fault) count = count
refusals_after WriteFailed count = count
refusals_after NoMemory count = one_more count

pub record Counted (outcome : Outcome) (old new : Side) : Type 0 where
  pub failures : new.failures ≡ failures_after outcome old.failures
  pub refusals : new.refusals ≡ refusals_after outcome old.refusals

-- all of a text, or a first part of it where the sink failed or ran out of memory
abbrev pub IsPut : List ℕ → Outcome → List ℕ → List ℕ → Type 0
IsPut text Done old new = new ≡ old ++ text
IsPut text (Fault fault) old new = ⊥
IsPut text WriteFailed old new = WritesPart old new text
IsPut text NoMemory old new = WritesPart old new text

-- a text was put, and how that ended
pub record Puts (text : List ℕ) (outcome : Outcome) (old new : Side) : Type 0 where
  pub bytes : IsPut text outcome old.accepted new.accepted
  pub counted : Counted outcome old new

-- a text was put, however that ended
pub record Says (text : List ℕ) (old new : Side) : Type 0 where
  pub outcome : Outcome
  pub puts : Puts text outcome old new

-- ---- the end of the log

-- What the log holds back is passed on, which changes how the program ends only where the log fails or runs out of
-- memory. After a failed write nothing more is passed on.
pub data Settles (old new : Side) : Outcome → Outcome → Type 0 where
  settled : (outcome : Outcome) → (outcome ≡ WriteFailed → ⊥) → IsTrue new.settled
      → new.accepted ≡ old.accepted → Counted Done old new → Settles old new outcome outcome
  failed : (outcome : Outcome) → (outcome ≡ WriteFailed → ⊥) → new.accepted ≡ old.accepted
      → Counted WriteFailed old new → Settles old new outcome WriteFailed
  refused : (outcome : Outcome) → (outcome ≡ WriteFailed → ⊥) → new.accepted ≡ old.accepted
      → Counted NoMemory old new → Settles old new outcome NoMemory
  left : new ≡ old → Settles old new WriteFailed WriteFailed

-- ---- the program

-- A run over the traces, in which nothing of the log is held back after the line of a fault, nor where the messages
-- failed or ran out of memory; then the log is settled; then the line of how that ended is written.
pub record Prints (traces : List Trace) (options : Options) (old new : Sides) (status : ℕ)
    : Type 0 where
  pub between : Sides
  pub outcome : Outcome
  pub told : Outcome
  pub runs : EachTells traces → Runs traces options outcome (written old between)
  pub counts : CountsAfter outcome (counts_of old) (counts_of between)
  pub after : SettledBy outcome between.out.settled
  pub settled : SameForMessages (counts_of old) (counts_of between) ⊎ IsTrue between.out.settled
  pub settles : Settles between.out new.out outcome told
  pub says : Says (outcome_text told) between.err new.err
  pub status_is : status ≡ status_of told

-- The usage line goes to the log; then the log is settled; then the line of how that ended is written.
pub record Helps (old new : Sides) (status : ℕ) : Type 0 where
  pub between : Side
  pub outcome : Outcome
  pub told : Outcome
  pub puts : Puts (usage_text usages.Help) outcome old.out between
  pub settles : Settles between new.out outcome told
  pub says : Says (outcome_text told) old.err new.err
  pub status_is : status ≡ status_of told

-- A line and nothing else: nothing goes to the log, and the status is 1.
pub record Refuses (line : List ℕ) (old new : Sides) (status : ℕ) : Type 0 where
  pub untouched : new.out ≡ old.out
  pub says : Says line old.err new.err
  pub status_is : status ≡ 1

-- How the program ends for options: the traces in the folders are printed; or the line of the first path that can't be
-- read is, or that of out of memory.
pub data EndsFor (options : Options) (files : Files) (old new : Sides) (status : ℕ) : Type 0 where
  printed : (traces : List Trace) → AreTraces files options.dirs traces
      → Prints traces options old new status → EndsFor options files old new status
  blocked : (path : List ℕ) → AreBlocked files options.dirs path
      → Refuses (path_line path) old new status → EndsFor options files old new status
  starved : Refuses (outcome_text NoMemory) old new status → EndsFor options files old new status

-- How the program ends for words: as for the options that they give; or with the usage line, where they ask for help;
-- or with the line of bad words, or of out of memory.
pub data Ends (words : List (List ℕ)) (files : Files) (old new : Sides) (status : ℕ) : Type 0 where
  asked : (options : Options) → GivesOptions words options → EndsFor options files old new status
      → Ends words files old new status
  helped : IsRefusal words usages.Help → Helps old new status → Ends words files old new status
  bad : IsRefusal words usages.Bad → Refuses (usage_text usages.Bad) old new status
      → Ends words files old new status
  spent : Refuses (usage_text usages.NoMemory) old new status → Ends words files old new status
