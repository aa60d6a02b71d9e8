-- How far a run has come.
use Rattle.std.proofs.Common.{◌≡◌, ◌⊎◌, ℕ, Bool, true, false, IsTrue, inl, inr, List, [], ◌∷◌, ◌++◌, Option, Some, None, refl, sym, ap, ◌∙◌, subst, append_assoc}
use Rattle.std.proofs.lemmas.List.{append-nil, append_cancel_left}
use Rattle.ctf_merge.specs.Merged.{Merged, Placed, then}
use Rattle.ctf_merge.specs.Merges.{MergedOrRefused, IsRefusal}
use Rattle.ctf_merge.specs.declared.fault.MergeFault.{MergeFault}
use Rattle.ctf_merge.specs.declared.fault.MergeFault.TheVariants as merges
use Rattle.ctf_faults.specs.declared.outcome.Outcome.{Outcome}
use Rattle.ctf_faults.specs.declared.outcome.Outcome.TheVariants as outcomes
use Rattle.ctf_faults.specs.declared.outcome.RunFault.{RunFault}
use Rattle.ctf_timestamp.specs.declared.trim.Verdict.{Verdict}
use Rattle.ctf_timestamp.specs.declared.trim.Verdict.TheVariants.{Before, Within, After}
use Rattle.ctf_session.specs.Answers.{Setting, Answer, answer, verdict, is_after, is_within, text_of, fault_texts, fault_pieces, fault_of, outcome_of}
use Rattle.ctf_session.specs.Steps.{Session, Goes, Ends, EndsBy, EachAfter, IsQuiet, IsQuietBy, SettledBy, told_by, next_texts, shown_text, last_shown, Answered, IsNamed, IsWant, answer_of}
use Rattle.ctf_session.specs.Writing.{Texts, no_texts, and_then, joined, first_of, after_texts, Written, Writes, WritesParts, SaysSettled, Stopped, Finished, EndsInMessage}
use Rattle.ctf_session.proofs.Pieces.{WritesPart-longer}
use Rattle.ctf_session.proofs.Runs.{add, shown_pieces, joined-append, joined-shown, joined-fault, ends_last, answer-then, answer-end, next-first}

-- an allocation failed, which is to be reported
abbrev pub IsRefused : Merged → Type 0
IsRefused m = (m.items ≡ []) × ((f : MergeFault) × (m.fault ≡ Some f) × IsRefusal f)

-- a refused growth has no line, and is named as no fault
pub refusal_texts : (setting : Setting) (f : MergeFault) → IsRefusal f → fault_texts setting (Some f) ≡ no_texts
refusal_texts setting (merges.Stream number fault) e = rw e refl
refusal_texts setting merges.NoMemory e = refl

refusal_want : (setting : Setting) (f : MergeFault) → IsRefusal f → IsWant (fault_of setting f)
refusal_want setting (merges.Stream number fault) e = e
refusal_want setting merges.NoMemory e = tt

-- What is to come is the rest of the answer, or a growth was refused and what was written are its first pieces.
pub data Left (whole : Answer) (done : List Texts) (now : Session) : Type 0 where
  exactly : whole ≡ add done (answer_of now) → Left whole done now
  refused : (more : List Texts) → whole.pieces ≡ done ++ more → IsRefused now.coming → Left whole done now

pub record Reaches (old now : Session) (w : Written) : Type 0 where
  pub done : List Texts
  pub wrote : Writes w (joined done)
  pub left : Left (answer_of old) done now
  pub settled : EndsInMessage done → IsTrue w.settled

abbrev pub written : List ℕ → List ℕ → List ℕ → List ℕ → Bool → Written
written old_out new_out old_err new_err settled = record { old_output = old_out; new_output = new_out; old_messages = old_err; new_messages = new_err; settled = settled }

pub reaches-start : (s : Session) (out err : List ℕ) (settled : Bool) → Reaches s s (written out out err err settled)
reaches-start s out err settled = record {
  done = [];
  wrote = record { output = sym (append-nil out); messages = sym (append-nil err) };
  left = exactly refl;
  settled = λ none. absurd none;
}

-- no item comes where an allocation failed
refused_over : (m : Merged) (x : Placed) (rest : Merged) → IsRefused m → m ≡ then x rest → ⊥
refused_over m x rest is e = let none = sym is.0 ∙ ap (λ (n : Merged). n.items) e in cc

abbrev pieces_in : (now new : Session) (w : Written) → Goes now new w → List Texts
pieces_in now new w goes = shown_pieces (verdict now.setting goes.item) now.setting now.last goes.item

left_after : (whole : Answer) (done : List Texts) (now new : Session) (w : Written) → Left whole done now → (goes : Goes now new w) → new.setting ≡ now.setting
    → Left whole (done ++ pieces_in now new w goes) new
left_after whole done now new w (refused more is left) goes same_setting = absurd (refused_over now.coming goes.item goes.rest left goes.takes)
left_after whole done now new w (exactly is) goes same_setting = by_rest goes.leaves
  where
    pieces : List Texts
    pieces = pieces_in now new w goes

    rest_answer : Answer
    rest_answer = answer now.setting (last_shown (verdict now.setting goes.item) now.last goes.item) goes.rest

    rest_is : whole ≡ add (done ++ pieces) rest_answer
    rest_is = is ∙ ap (add done) (ap (λ (m : Merged). answer now.setting now.last m) goes.takes ∙ answer-then now.setting now.last goes.item goes.rest goes.not_after)
        ∙ ap (λ (ts : List Texts). record { pieces = ts; outcome = rest_answer.outcome }) (sym (append_assoc done pieces rest_answer.pieces))

    by_rest : MergedOrRefused goes.rest new.coming → Left whole (done ++ pieces) new
    by_rest (inl same) = exactly (rw (same_setting, goes.last_is, same) rest_is)
    by_rest (inr none) = refused rest_answer.pieces (ap (λ (a : Answer). a.pieces) rest_is) none

-- a sink that is as it was has no more messages
pub said : {E : Type 0} (messages : E → List ℕ) (old new : E) (settled : Bool) → (new ≡ old) ⊎ IsTrue settled → (messages new ≡ messages old) ⊎ IsTrue settled
said messages old new settled (inl same) = inl (ap messages same)
said messages old new settled (inr is) = inr is

-- such a sink failed no more often
pub same_counts : {E : Type 0} (failures refusals : E → ℕ) (first old new : E) (settled : Bool) → failures old ≡ failures first → refusals old ≡ refusals first → (new ≡ old) ⊎ IsTrue settled
    → ((failures new ≡ failures first) × (refusals new ≡ refusals first)) ⊎ IsTrue settled
same_counts failures refusals first old new settled f r (inl same) = inl (ap failures same ∙ f, ap refusals same ∙ r)
same_counts failures refusals first old new settled f r (inr is) = inr is

nothing_more : (old new text : List ℕ) → new ≡ old ++ text → new ≡ old → text ≡ []
nothing_more old new text wrote same = append_cancel_left old text [] (sym wrote ∙ same ∙ sym (append-nil old))

not_within : (v : Verdict) → is_after v ≡ true → is_within v ≡ false
not_within Before e = absurd cc
not_within Within e = absurd cc
not_within After e = refl

-- a part of nothing is a part of all
pub WritesParts-none : (w : Written) (texts : Texts) → WritesParts w no_texts → WritesParts w texts
WritesParts-none w texts parts = record {
  output = WritesPart-longer w.old_output w.new_output [] texts.output parts.output;
  messages = WritesPart-longer w.old_messages w.new_messages [] texts.messages parts.messages;
}

module _ (o0 o1 o2 e0 e1 e2 : List ℕ) (s1 s2 : Bool) where
  pub Writes-more : (a b : Texts) → Writes (written o0 o1 e0 e1 s1) a → Writes (written o1 o2 e1 e2 s2) b → Writes (written o0 o2 e0 e2 s2) (and_then a b)
  Writes-more a b first second = record {
    output = rw (second.output, first.output, append_assoc) refl;
    messages = rw (second.messages, first.messages, append_assoc) refl;
  }

  -- a step that went, on a log that holds nothing back where the last piece is a message
  settled_after : (done : List Texts) (now new : Session) (goes : Goes now new (written o1 o2 e1 e2 s2)) → (EndsInMessage done → IsTrue s1) → (IsQuiet now → s2 ≡ s1) → (e2 ≡ e1) ⊎ IsTrue s2
      → EndsInMessage (done ++ pieces_in now new (written o1 o2 e1 e2 s2) goes) → IsTrue s2
  settled_after done now new goes so_far quiet said = by_verdict (verdict now.setting goes.item) refl
    where
      quiet_before : verdict now.setting goes.item ≡ Before → IsQuiet now
      quiet_before is = subst (λ (m : Merged). IsQuietBy now.setting m.items m.fault) (sym goes.takes) (ap is_within is)

      by_said : (e2 ≡ e1) ⊎ IsTrue s2 → ((text_of now.setting now.last goes.item).messages ≡ [] → ⊥) → verdict now.setting goes.item ≡ Within → IsTrue s2
      by_said (inl same) some is =
          let wrote : e2 ≡ e1 ++ (text_of now.setting now.last goes.item).messages = goes.wrote.messages ∙ ap (λ v. e1 ++ (shown_text v now.setting now.last goes.item).messages) is in
          absurd (some (nothing_more e1 e2 _ wrote same))
      by_said (inr settled) some is = settled

      by_verdict : (v : Verdict) → verdict now.setting goes.item ≡ v → EndsInMessage (done ++ shown_pieces v now.setting now.last goes.item) → IsTrue s2
      by_verdict Before is ends = subst IsTrue (sym (quiet (quiet_before is))) (so_far (subst EndsInMessage (append-nil done) ends))
      by_verdict Within is ends = by_said said (ends_last done _ ends) is
      by_verdict After is ends = absurd (let n = sym (ap is_after is) ∙ goes.not_after in cc)

  pub reaches-more : (old now new : Session) → Reaches old now (written o0 o1 e0 e1 s1) → Goes now new (written o1 o2 e1 e2 s2) → new.setting ≡ now.setting
      → (IsQuiet now → s2 ≡ s1) → (e2 ≡ e1) ⊎ IsTrue s2 → Reaches old new (written o0 o2 e0 e2 s2)
  reaches-more old now new so_far goes same quiet said =
      let pieces : List Texts = pieces_in now new (written o1 o2 e1 e2 s2) goes in
      let texts_are = joined-append so_far.done pieces ∙ ap (and_then (joined so_far.done)) (joined-shown (verdict now.setting goes.item) now.setting now.last goes.item) in
      record {
        done = so_far.done ++ pieces;
        wrote = rw texts_are (Writes-more (joined so_far.done) (shown_text (verdict now.setting goes.item) now.setting now.last goes.item) so_far.wrote goes.wrote);
        left = left_after (answer_of old) so_far.done now new (written o1 o2 e1 e2 s2) so_far.left goes same;
        settled = settled_after so_far.done now new goes so_far.settled quiet said;
      }

  -- a step that was cut, in the rest of a run
  stopped_at : (whole : Answer) (done more : List Texts) → whole.pieces ≡ done ++ more → Writes (written o0 o1 e0 e1 s1) (joined done) → WritesParts (written o1 o2 e1 e2 s2) (first_of more)
      → (e2 ≡ e1) ⊎ IsTrue s2 → Stopped whole.pieces (written o0 o2 e0 e2 s2)
  stopped_at whole done more is wrote parts said = record {
    before = done;
    after = more;
    splits = is;
    wrote = rw (← wrote.output, ← wrote.messages) parts;
    settled = rw (← wrote.messages) said;
  }

  part_left : (whole : Answer) (done : List Texts) (now : Session) → Left whole done now → Writes (written o0 o1 e0 e1 s1) (joined done) → WritesParts (written o1 o2 e1 e2 s2) (next_texts now)
      → (e2 ≡ e1) ⊎ IsTrue s2 → Stopped whole.pieces (written o0 o2 e0 e2 s2)
  part_left whole done now (exactly is) wrote parts said =
      stopped_at whole done (answer_of now).pieces (ap (λ (a : Answer). a.pieces) is) wrote (by_next (next-first now.setting now.last now.coming)) said
    where
      by_next : (next_texts now ≡ no_texts) ⊎ (first_of (answer_of now).pieces ≡ next_texts now) → WritesParts (written o1 o2 e1 e2 s2) (first_of (answer_of now).pieces)
      by_next (inl none) = WritesParts-none (written o1 o2 e1 e2 s2) _ (subst (λ (t : Texts). WritesParts (written o1 o2 e1 e2 s2) t) none parts)
      by_next (inr first) = subst (λ (t : Texts). WritesParts (written o1 o2 e1 e2 s2) t) (sym first) parts
  part_left whole done now (refused more is left) wrote parts said =
      let none : next_texts now ≡ no_texts = rw (left.0, left.1.1) (refusal_texts now.setting left.1.0 left.1.2) in
      stopped_at whole done more is wrote (WritesParts-none (written o1 o2 e1 e2 s2) _ (subst (λ (t : Texts). WritesParts (written o1 o2 e1 e2 s2) t) none parts)) said

  -- nothing is written where a run ends without a fault
  quiet_end : (now : Session) → EachAfter now.setting now.coming.items → None ≡ told_by now.coming.items now.coming.fault → IsQuiet now
  quiet_end now each none = by_items now.coming.items now.coming.fault each none
    where
      by_items : (xs : List Placed) (fault : Option MergeFault) → EachAfter now.setting xs → None ≡ told_by xs fault → IsQuietBy now.setting xs fault
      by_items [] fault each none = sym none
      by_items (x ∷ xs) fault each none = not_within (verdict now.setting x) each.0

  -- a step that ended, in the rest of a run
  end_left : (whole : Answer) (done : List Texts) (now : Session) (outcome : Outcome) → IsNamed outcome → Left whole done now → Writes (written o0 o1 e0 e1 s1) (joined done)
      → Ends now outcome (written o1 o2 e1 e2 s2) → (EndsInMessage done → IsTrue s1) → (IsQuiet now → s2 ≡ s1) → SettledBy outcome s2
      → (outcome ≡ whole.outcome) × Finished whole.pieces (written o0 o2 e0 e2 s2)
  end_left whole done now outcome named (exactly is) wrote ends so_far quiet after =
      let told : Option MergeFault = told_by now.coming.items now.coming.fault in
      let all : whole ≡ add done (record { pieces = fault_pieces now.setting told; outcome = outcome_of now.setting told }) = is ∙ ap (add done) (answer-end now.setting now.last now.coming ends.none_left) in
      let texts_are = joined-append done (fault_pieces now.setting told) ∙ ap (and_then (joined done)) (joined-fault now.setting told) in (
        ends.outcome_is ∙ sym (ap (λ (a : Answer). a.outcome) all),
        rw all (record {
          wrote = rw texts_are (Writes-more (joined done) (fault_texts now.setting told) wrote ends.wrote);
          settled = by_told told refl (subst (λ o. SettledBy o s2) ends.outcome_is after);
        }),
      )
    where
      by_told : (told : Option MergeFault) → told ≡ told_by now.coming.items now.coming.fault → SettledBy (outcome_of now.setting told) s2 → EndsInMessage (done ++ fault_pieces now.setting told) → IsTrue s2
      by_told None is_told after in_message = subst IsTrue (sym (quiet (quiet_end now ends.none_left is_told))) (so_far (subst EndsInMessage (append-nil done) in_message))
      by_told (Some f) is_told after in_message = after
  end_left whole done now outcome named (refused more is left) wrote ends so_far quiet after =
      let told : outcome ≡ outcomes.Fault (fault_of now.setting left.1.0) = ends.outcome_is ∙ rw (left.0, left.1.1) refl in
      absurd (not_named outcome (fault_of now.setting left.1.0) told (refusal_want now.setting left.1.0 left.1.2) named)
    where
      not_named : (o : Outcome) (f : _) → o ≡ outcomes.Fault f → IsWant f → IsNamed o → ⊥
      not_named outcomes.Done f e want named = absurd cc
      not_named (outcomes.Fault g) f e want named = named (subst IsWant (sym (let h = e in cc)) want)
      not_named outcomes.WriteFailed f e want named = absurd cc
      not_named outcomes.NoMemory f e want named = absurd cc

  pub reaches-end : (old now : Session) (outcome : Outcome) → IsNamed outcome → Reaches old now (written o0 o1 e0 e1 s1) → EndsBy now outcome (written o1 o2 e1 e2 s2)
      → (IsQuiet now → s2 ≡ s1) → (e2 ≡ e1) ⊎ IsTrue s2 → SettledBy outcome s2 → Answered (answer_of old) outcome (written o0 o2 e0 e2 s2)
  reaches-end old now outcomes.Done named so_far ends quiet said after = end_left (answer_of old) so_far.done now outcomes.Done named so_far.left so_far.wrote ends so_far.settled quiet after
  reaches-end old now (outcomes.Fault f) named so_far ends quiet said after = end_left (answer_of old) so_far.done now (outcomes.Fault f) named so_far.left so_far.wrote ends so_far.settled quiet after
  reaches-end old now outcomes.WriteFailed named so_far parts quiet said after = part_left (answer_of old) so_far.done now so_far.left so_far.wrote parts said
  reaches-end old now outcomes.NoMemory named so_far parts quiet said after = part_left (answer_of old) so_far.done now so_far.left so_far.wrote parts said

-- ---- a run over what a refused growth left, where the whole was asked for

-- where the only piece is empty nothing was written
one_empty : (before after : List Texts) → no_texts ∷ [] ≡ before ++ after → (joined before ≡ no_texts) × (first_of after ≡ no_texts)
one_empty [] after e = (refl, ap first_of (sym e))
one_empty (t ∷ []) after e = let first : t ≡ no_texts = cc in let rest : after ≡ [] = cc in (rw first refl, rw rest refl)
one_empty (t ∷ (u ∷ ts)) after e = absurd cc

stopped_before : (pieces : List Texts) (w : Written) → Stopped (no_texts ∷ []) w → Stopped pieces w
stopped_before pieces w s =
    let none = one_empty s.before s.after s.splits in
    let parts : WritesParts (after_texts no_texts w) no_texts = rw (none.0, none.1) at s.wrote in
    record {
      before = [];
      after = pieces;
      splits = refl;
      wrote = WritesParts-none (after_texts no_texts w) (first_of pieces) parts;
      settled = subst (λ (t : Texts). SaysSettled (after_texts t w)) none.0 s.settled;
    }

pub answered_whole : (whole : Merged) (s : Session) (outcome : Outcome) (w : Written) → MergedOrRefused whole s.coming → IsNamed outcome
    → Answered (answer_of s) outcome w → Answered (answer s.setting s.last whole) outcome w
answered_whole whole s outcome w (inl same) named is = subst (λ (m : Merged). Answered (answer s.setting s.last m) outcome w) same is
answered_whole whole s outcome w (inr none) named is = by_outcome outcome named (subst (λ (a : Answer). Answered a outcome w) nothing is)
  where
    fault : RunFault
    fault = fault_of s.setting none.1.0

    nothing : answer_of s ≡ record { pieces = no_texts ∷ []; outcome = outcomes.Fault fault }
    nothing = answer-end s.setting s.last s.coming (rw none.0 tt)
        ∙ rw (none.0, none.1.1) (ap (λ (t : Texts). record { pieces = t ∷ []; outcome = outcomes.Fault fault }) (refusal_texts s.setting none.1.0 none.1.2))

    is_want : IsWant fault
    is_want = refusal_want s.setting none.1.0 none.1.2

    by_outcome : (o : Outcome) → IsNamed o → Answered (record { pieces = no_texts ∷ []; outcome = outcomes.Fault fault }) o w → Answered (answer s.setting s.last whole) o w
    by_outcome outcomes.Done named a = absurd (let e = a.0 in cc)
    by_outcome (outcomes.Fault f) named a = absurd (named (subst IsWant (sym (let e = a.0 in cc)) is_want))
    by_outcome outcomes.WriteFailed named a = stopped_before _ w a
    by_outcome outcomes.NoMemory named a = stopped_before _ w a

-- a run that stopped in its first piece
pub stopped_first : (first : Texts) (more : List Texts) (w : Written) → WritesParts w first → SaysSettled w → Stopped (first ∷ more) w
stopped_first first more w parts said = record {
  before = [];
  after = first ∷ more;
  splits = refl;
  wrote = rw (append-nil w.old_output, append-nil w.old_messages) parts;
  settled = rw (append-nil w.old_messages) said;
}
