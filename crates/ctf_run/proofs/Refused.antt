-- A run over traces of which one has a fault.
use Rattle.std.proofs.Common.{◌≡◌, ℕ, zero, suc, List, [], ◌∷◌, cond, take, length, nat_lt, slice_get, Option, Some, None, option_map, sym, ap, ◌∙◌, subst, arith, string_bytes}
use Rattle.std.proofs.lemmas.List.{length-map}
use Rattle.ctf_class.specs.declared.trace.TraceClass.{TraceClass}
use Rattle.ctf_options.specs.declared.options.Options.{Options}
use Rattle.ctf_faults.specs.Lines.{metadata_line}
use Rattle.ctf_faults.specs.declared.load.LoadFault.{LoadFault}
use Rattle.ctf_faults.specs.declared.outcome.Outcome.{Outcome}
use Rattle.ctf_faults.specs.declared.outcome.Outcome.TheVariants as outcomes
use Rattle.ctf_faults.specs.declared.outcome.RunFault.TheVariants as faults
use Rattle.ctf_session.specs.Answers.{Answer}
use Rattle.ctf_session.specs.Inputs.{Given}
use Rattle.ctf_session.specs.Steps.{Answered, SettledBy}
use Rattle.ctf_session.specs.Writing.{Written, SaysSettled}
use Rattle.ctf_session.proofs.Reaching.{stopped_first}
use Rattle.ctf_session.proofs.Runs.{and_then-none}
use Rattle.ctf_run.specs.Loaded.{IsFirstFault}
use Rattle.ctf_run.specs.Loaded as loaded
use Rattle.ctf_run.specs.Told.{name_at, fault_texts, TellsFault}
use Rattle.ctf_run.specs.Traces.{trace_of, traces_of, are_several, named, HaveClasses, refused, broken, Runs, answered}
use Rattle.ctf_run.specs.declared.trace.Trace as declared

module _ {S : Type 0} (given : S → Given) where
  trace_at : (traces : List (declared.Trace S)) (number : ℕ) (t : declared.Trace S) → slice_get traces number ≡ Some t → slice_get (traces_of given traces) number ≡ Some (trace_of given t)
  trace_at [] number t at = absurd (grind (arith, at))
  trace_at (u ∷ us) zero t at = ap (option_map (trace_of given)) at
  trace_at (u ∷ us) (suc number) t at = trace_at us number t at

  pub have_same : (traces : List (declared.Trace S)) (classes : List TraceClass) → loaded.HaveClasses traces classes → HaveClasses (traces_of given traces) classes
  have_same [] [] have = tt
  have_same [] (class ∷ classes) have = absurd have
  have_same (t ∷ ts) [] have = absurd have
  have_same (t ∷ ts) (class ∷ classes) have = (have.0, have_same ts classes have.1)

  have_first : (number : ℕ) (traces : List (declared.Trace S)) (classes : List TraceClass) → loaded.HaveClasses (take number traces) classes → HaveClasses (take number (traces_of given traces)) classes
  have_first zero traces [] have = tt
  have_first zero traces (class ∷ classes) have = absurd have
  have_first (suc number) [] [] have = tt
  have_first (suc number) [] (class ∷ classes) have = absurd have
  have_first (suc number) (t ∷ ts) [] have = absurd have
  have_first (suc number) (t ∷ ts) (class ∷ classes) have = (have.0, have_first number ts classes have.1)

  -- the name that is in the line
  named_so : (traces : List (declared.Trace S)) (number : ℕ) (t : declared.Trace S) → slice_get traces number ≡ Some t → name_at traces number ≡ named (are_several (traces_of given traces)) (string_bytes t.name)
  named_so traces number t at =
      ap (λ o. cond (nat_lt 1 (length traces)) (option_map (λ u. string_bytes u.name) o) None) at
      ∙ ap (λ n. cond (nat_lt 1 n) (Some (string_bytes t.name)) None) (sym (length-map traces (trace_of given)))

  -- the only piece of an answer
  abbrev one_piece : (number : ℕ) (name : Option (List ℕ)) (fault : LoadFault) → Answer
  one_piece number name fault = record { pieces = record { output = []; messages = metadata_line fault name } ∷ []; outcome = outcomes.Fault (faults.Metadata number fault) }

  told : (number : ℕ) (fault : LoadFault) (outcome : Outcome) (w : Written) (traces : List (declared.Trace S)) → TellsFault traces number fault outcome w → SettledBy outcome w.settled → SaysSettled w
      → Answered (one_piece number (name_at traces number) fault) outcome w
  told number fault outcomes.Done w traces tells after said = absurd tells
  told number fault (outcomes.Fault f) w traces tells after said =
      (ap outcomes.Fault tells.0, record { wrote = rw and_then-none tells.1; settled = λ last. after })
  told number fault outcomes.WriteFailed w traces tells after said = stopped_first (fault_texts traces number fault) [] w tells said
  told number fault outcomes.NoMemory w traces tells after said = stopped_first (fault_texts traces number fault) [] w tells said

  pub run_broken : (traces : List (declared.Trace S)) (options : Options) (number : ℕ) (fault : LoadFault) (outcome : Outcome) (w : Written) → IsFirstFault traces number fault
      → TellsFault traces number fault outcome w → SettledBy outcome w.settled → SaysSettled w → Runs (traces_of given traces) options outcome w
  run_broken traces options number fault outcome w first tells after said = answered (record {
    answer = refused (are_several (traces_of given traces)) number (string_bytes first.trace.name) fault;
    is_answer = broken number (trace_of given first.trace) first.classes fault (trace_at traces number first.trace first.at) (have_first number traces first.classes first.before) first.broken first.named;
    answered = subst (λ name. Answered (one_piece number name fault) outcome w) (named_so traces number first.trace first.at) (told number fault outcome w traces tells after said);
  })
