-- How sessions end.
use Rattle.std.specs.Prelude.{Option, Some, None}
use Rattle.ctf_faults.specs.declared.outcome.Outcome as outcome
use Rattle.ctf_faults.specs.declared.outcome.Outcome.TheVariants as outcomes
use Rattle.ctf_faults.specs.declared.outcome.RunFault.TheVariants as faults
use Rattle.ctf_session.specs.declared.step.Stop.{Stop}
use Rattle.ctf_session.specs.declared.step.Stop.TheVariants as stops
use Rattle.ctf_session.specs.declared.step.SessionEnding.{SessionEnding}
use Rattle.ctf_session.specs.declared.step.SessionEnding.TheVariants.{Done, Fault, Stopped}

abbrev pub stop_outcome : Stop → outcome.Outcome
stop_outcome stops.WriteFailed = outcomes.WriteFailed
stop_outcome stops.NoMemory = outcomes.NoMemory

abbrev pub outcome_of : SessionEnding → outcome.Outcome
outcome_of Done = outcomes.Done
outcome_of (Fault trace fault) = outcomes.Fault (faults.Stream trace fault)
outcome_of (Stopped stop) = stop_outcome stop

abbrev pub ended_by : Option SessionEnding → Option outcome.Outcome
ended_by None = None
ended_by (Some e) = Some (outcome_of e)
