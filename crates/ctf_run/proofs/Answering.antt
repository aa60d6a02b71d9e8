-- Every list of traces has an answer, and one trace has its own.
use Rattle.std.proofs.Common.{◌≡◌, ◌⊎◌, ⊎_elim, ℕ, zero, suc, false, List, [], ◌∷◌, map, take, slice_get, Some, inl, inr, refl, sym, ap, subst, arith, append-nil}
use Rattle.std.specs.Prelude.{unwrap_or}
use Rattle.ctf_class.specs.declared.trace.TraceClass.{TraceClass}
use Rattle.ctf_load.proofs.Existing.{class_or_fault_of}
use Rattle.ctf_load.specs.Loading.{Describes, IsBroken}
use Rattle.ctf_options.specs.declared.options.Options.{Options}
use Rattle.ctf_faults.specs.Table.{is_refusal}
use Rattle.ctf_faults.specs.declared.load.LoadFault.{LoadFault}
use Rattle.ctf_session.specs.Answers.{Answer}
use Rattle.ctf_session.specs.Inputs.{Input}
use Rattle.ctf_run.specs.Laws.{HasAnswer, OneTrace, IsAnswerOfOne}
use Rattle.ctf_run.specs.Traces.{Trace, HaveClasses, inputs_from, input_of, printed, refused, IsAnswer}

-- the first trace without a class
record Broken (traces : List Trace) : Type 0 where
  number : ℕ
  trace : Trace
  classes : List TraceClass
  fault : LoadFault
  at : slice_get traces number ≡ Some trace
  before : HaveClasses (take number traces) classes
  broken : IsBroken trace.metadata fault
  named : is_refusal fault ≡ false

one_more : (t : Trace) (ts : List Trace) (class : TraceClass) → Describes t.metadata class → Broken ts → Broken (t ∷ ts)
one_more t ts class told b = record {
  number = suc b.number;
  trace = b.trace;
  classes = class ∷ b.classes;
  fault = b.fault;
  at = b.at;
  before = (told, b.before);
  broken = b.broken;
  named = b.named;
}

classes_or_fault : (traces : List Trace) → ((classes : List TraceClass) × HaveClasses traces classes) ⊎ Broken traces
classes_or_fault [] = inl ([], tt)
classes_or_fault (t ∷ ts) =
    ⊎_elim
    (λ c. ⊎_elim (λ cs. inl (c.0 ∷ cs.0, (c.1, cs.1))) (λ b. inr (one_more t ts c.0 c.1 b)) (classes_or_fault ts))
    (λ f. inr (record { number = 0; trace = t; classes = []; fault = f.0; at = refl; before = tt; broken = f.1; named = f.2 }))
    (class_or_fault_of t.metadata)

pub has_answer : HasAnswer
has_answer traces options =
    ⊎_elim
    (λ cs. (_, IsAnswer.whole cs.0 cs.1))
    (λ b. (_, IsAnswer.broken b.number b.trace b.classes b.fault b.at b.before b.broken b.named))
    (classes_or_fault traces)

-- ---- one trace

some_is : (t u : Trace) → Some t ≡ Some u → t ≡ u
some_is t u h = ap (λ o. unwrap_or o t) h

module _ (t : Trace) (options : Options) where
  abbrev inputs : TraceClass → List Input
  inputs class = map (input_of false 0 t.name class) t.streams

  whole_one : (classes : List TraceClass) → HaveClasses (t ∷ []) classes → IsAnswerOfOne t options (printed options (inputs_from false 0 (t ∷ []) classes))
  whole_one [] have = absurd have
  whole_one (class ∷ []) have = subst (λ (xs : List Input). IsAnswerOfOne t options (printed options xs)) (sym (append-nil (inputs class))) (IsAnswerOfOne.whole class have.0)
  whole_one (class ∷ (other ∷ more)) have = absurd have.1

  broken_one : (number : ℕ) (u : Trace) (fault : LoadFault) → slice_get (t ∷ []) number ≡ Some u → IsBroken u.metadata fault → is_refusal fault ≡ false
      → IsAnswerOfOne t options (refused false number u.name fault)
  broken_one zero u fault at broken named = IsAnswerOfOne.broken fault (subst (λ (v : Trace). IsBroken v.metadata fault) (sym (some_is t u at)) broken) named
  broken_one (suc number) u fault at broken named = absurd (grind (arith, at))

  of_one : (answer : Answer) → IsAnswer (t ∷ []) options answer → IsAnswerOfOne t options answer
  of_one answer (IsAnswer.whole classes have) = whole_one classes have
  of_one answer (IsAnswer.broken number u classes fault at before broken named) = broken_one number u fault at broken named

  of_many : (answer : Answer) → IsAnswerOfOne t options answer → IsAnswer (t ∷ []) options answer
  of_many answer (IsAnswerOfOne.whole class told) = subst (λ (xs : List Input). IsAnswer (t ∷ []) options (printed options xs)) (append-nil (inputs class)) (IsAnswer.whole (class ∷ []) (told, tt))
  of_many answer (IsAnswerOfOne.broken fault broken named) = IsAnswer.broken 0 t [] fault refl tt broken named

pub one_trace : OneTrace
one_trace t options answer = (of_one t options answer, of_many t options answer)
