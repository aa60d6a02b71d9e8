-- A run from its loading, its session and its steps.
use Rattle.std.proofs.Common.{◌≡◌, ℕ, suc, Bool, List, [], ◌∷◌, ◌++◌, map, None, IsTrue, subst}
use Rattle.std.specs.List.{AllByRecursion}
use Rattle.ctf_class.specs.declared.trace.TraceClass.{TraceClass}
use Rattle.ctf_merge.specs.Merged.{merged}
use Rattle.ctf_merge.specs.Merges.{MergedOrRefused}
use Rattle.ctf_options.specs.declared.options.Options.{Options}
use Rattle.ctf_faults.specs.declared.outcome.Outcome.{Outcome}
use Rattle.ctf_session.specs.Answers.{Setting, answer}
use Rattle.ctf_session.specs.Inputs.{Input, run_in, setting_of, AllTell}
use Rattle.ctf_session.specs.Steps.{Session, Answered, IsNamed, answer_of}
use Rattle.ctf_session.specs.Writing.{Written}
use Rattle.ctf_session.proofs.Reaching.{answered_whole}
use Rattle.ctf_run.specs.Traces.{Trace, Stream, input_of, inputs_from, are_several, HaveClasses, printed, whole, EachTells, Runs, answered}

-- ---- sources that tell their bytes

tells_of : (several : Bool) (number : ℕ) (name : List ℕ) (class : TraceClass) (streams : List Stream) → AllByRecursion (λ s. IsTrue s.given.tells) streams → AllTell (map (input_of several number name class) streams)
tells_of several number name class [] each = tt
tells_of several number name class (s ∷ ss) each = (each.0, tells_of several number name class ss each.1)

tells_both : (xs ys : List Input) → AllTell xs → AllTell ys → AllTell (xs ++ ys)
tells_both [] ys first second = second
tells_both (x ∷ xs) ys first second = (first.0, tells_both xs ys first.1 second)

pub inputs_tell : (several : Bool) (number : ℕ) (traces : List Trace) (classes : List TraceClass) → EachTells traces → AllTell (inputs_from several number traces classes)
inputs_tell several number [] classes each = tt
inputs_tell several number (t ∷ ts) [] each = tt
inputs_tell several number (t ∷ ts) (class ∷ classes) each =
    tells_both (map (input_of several number t.name class) t.streams) (inputs_from several (suc number) ts classes) (tells_of several number t.name class t.streams each.0) (inputs_tell several (suc number) ts classes each.1)

-- ---- a run whose traces have classes

pub run_whole : (all : List Trace) (options : Options) (classes : List TraceClass) (inputs : List Input) (s : Session) (outcome : Outcome) (w : Written) → HaveClasses all classes
    → inputs ≡ inputs_from (are_several all) 0 all classes → MergedOrRefused (merged (map (run_in options.shift) inputs)) s.coming → s.setting ≡ setting_of options inputs → s.last ≡ None
    → IsNamed outcome → Answered (answer_of s) outcome w → Runs all options outcome w
run_whole all options classes inputs s outcome w have same told setting last named runs = answered (record {
  answer = printed options (inputs_from (are_several all) 0 all classes);
  is_answer = whole classes have;
  answered = subst (λ (xs : List Input). Answered (printed options xs) outcome w) same shown;
})
  where
    all_told : Answered (answer s.setting s.last (merged (map (run_in options.shift) inputs))) outcome w
    all_told = answered_whole (merged (map (run_in options.shift) inputs)) s outcome w told named runs

    shown : Answered (printed options inputs) outcome w
    shown = subst (λ (x : Setting). Answered (answer x None (merged (map (run_in options.shift) inputs))) outcome w) setting
        (subst (λ l. Answered (answer s.setting l (merged (map (run_in options.shift) inputs))) outcome w) last all_told)
