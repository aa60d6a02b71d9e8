-- A step of a session from the contract of its merge.
use Rattle.std.proofs.Common.{◌≡◌, ℕ, ℤ, ◌≤ℤ◌, Bool, true, false, cond, int_lt, List, [], ◌∷◌, inl, inr, Option, Some, None, refl, sym, ap, ◌∙◌, subst, arith}
use Rattle.std.proofs.lemmas.List.{append-nil}
use Rattle.std.proofs.lemmas.Int.{ints}
use Rattle.stream_laws.specs.Times.{NotBefore}
use Rattle.ctf_merge.specs.Merged.{Merged, Placed, ends, then, PlacedRise}
use Rattle.ctf_merge.specs.Merges.{Merge, MergedOrRefused, GoesOn, IsNext, LeavesOne, coming_of}
use Rattle.ctf_merge.specs.declared.fault.MergeFault.TheVariants.{Stream}
use Rattle.ctf_faults.specs.Lines.{stream_line}
use Rattle.ctf_packet.specs.Classes.{Classes}
use Rattle.ctf_packet.specs.Items.{Item}
use Rattle.ctf_packet.specs.declared.fault.StreamFault.{StreamFault}
use Rattle.ctf_packet.specs.declared.fault.StreamFault.TheVariants as streams
use Rattle.ctf_faults.specs.declared.outcome.Outcome.{Outcome}
use Rattle.ctf_faults.specs.declared.outcome.Outcome.TheVariants as outcomes
use Rattle.ctf_timestamp.specs.Trims.{is_past, is_early, verdict_of}
use Rattle.ctf_timestamp.specs.declared.trim.Trim.{Trim}
use Rattle.ctf_timestamp.specs.declared.trim.Verdict.{Verdict}
use Rattle.ctf_timestamp.specs.declared.trim.Verdict.TheVariants.{Before, Within, After}
use Rattle.ctf_packet.specs.ItemTimes.{time_of}
use Rattle.ctf_stream.specs.Reader as reader
use Rattle.ctf_stream.specs.Reader.{Reader}
use Rattle.stream_laws.proofs.Later.{not_less, at_most}
use Rattle.ctf_session.specs.Answers.{Setting, verdict, is_after, is_within, text_of, fault_line}
use Rattle.ctf_session.specs.Printing.{TellsFault}
use Rattle.ctf_session.specs.Endings.{stop_outcome, ended_by}
use Rattle.ctf_session.specs.declared.step.SessionEnding.{SessionEnding}
use Rattle.ctf_session.specs.Sessions.{left_by}
use Rattle.ctf_session.specs.Steps.{Session, IsQuietBy, LeavesFirst, Goes, Ends, EndsBy, EachAfter, shown_text, last_shown, next_texts}
use Rattle.ctf_session.specs.declared.step.Stop.{Stop}
use Rattle.ctf_session.specs.declared.step.Stop.TheVariants as stops
use Rattle.ctf_session.specs.Writing.{no_texts, Written, Writes, WritesParts}
use Rattle.ctf_session.proofs.Reaching.{written}

-- ---- once an item is past the end of the interval, all later ones are

later_past : (end l t : ℤ) → int_lt end l ≡ true → int_lt t l ≡ false → int_lt end t ≡ true
later_past end l t past not_before = by_test (int_lt end t) refl
  where
    by_test : (b : Bool) → int_lt end t ≡ b → int_lt end t ≡ true
    by_test true e = e
    by_test false e =
        let x : t ≤ℤ end = at_most end t e in
        let y : l ≤ℤ t = at_most t l not_before in
        absurd (let n = not_less end l (omega (arith, ints)) in cc)

-- the verdict on a time is 'after' exactly where the time is past
past_by : (past early : Bool) → is_after (cond past After (cond early Before Within)) ≡ true → past ≡ true
past_by true early e = refl
past_by false true e = absurd cc
past_by false false e = absurd cc

after_by : (past early : Bool) → past ≡ true → is_after (cond past After (cond early Before Within)) ≡ true
after_by true early e = refl
after_by false early e = absurd cc

later_after : (trim : Trim) (low time : Option ℤ) → is_after (verdict_of trim low) ≡ true → NotBefore low time → is_after (verdict_of trim time) ≡ true
later_after trim None time h n = absurd cc
later_after trim (Some l) None h n = absurd cc
later_after trim (Some l) (Some t) h n = after_by (is_past trim.end t) (is_early trim.begin t) refl_past
  where
    past : is_past trim.end l ≡ true
    past = past_by (is_past trim.end l) (is_early trim.begin l) h

    refl_past : is_past trim.end t ≡ true
    refl_past = by_end trim.end past
      where
        by_end : (end : Option ℤ) → is_past end l ≡ true → is_past end t ≡ true
        by_end None e = e
        by_end (Some end) e = later_past end l t e n

each_after : (setting : Setting) (low : Option ℤ) (xs : List Placed) → is_after (verdict_of setting.trim low) ≡ true → PlacedRise low xs → EachAfter setting xs
each_after setting low [] h rise = tt
each_after setting low (x ∷ xs) h rise =
    let here = later_after setting.trim low (time_of x.item) h rise.0 in
    (here, each_after setting (time_of x.item) xs here rise.1)

-- ---- a step of a session that is open

pub open_coming : (ended : Option Outcome) (m : Merged) → ended ≡ None → left_by ended m ≡ m
open_coming ended m e = rw e refl

-- ---- the item that is passed is the first one to come

abbrev head_in : Option Reader → reader.Peeked
head_in None = reader.start
head_in (Some r) = r.ahead

abbrev item_in : Item Classes → reader.Peeked → Item Classes
item_in x reader.start = x
item_in x (reader.item y) = y
item_in x reader.ended = x
item_in x (reader.fault f) = x

same_left : (m : Merge) (n : ℕ) (new : List Reader) (is : IsNext m n) (it : LeavesOne n m.readers new) → is.next ≡ it.left
same_left m n new is it = ap (item_in is.next) (sym is.ahead ∙ ap head_in (sym is.at ∙ it.at) ∙ it.ahead)

pub not_ended : (ended : Option SessionEnding) → ((e : SessionEnding) → ended ≡ Some e → ⊥) → ended_by ended ≡ None
not_ended None open_ = refl
not_ended (Some e) open_ = absurd (open_ e refl)

pub leaves_first : (ended : Option Outcome) (m : Merge) (n : ℕ) (new : List Reader) → ended ≡ None → IsNext m n → LeavesOne n m.readers new
    → LeavesFirst (left_by ended (coming_of m)) m.readers new
leaves_first ended m n new open_ is it =
    let first_is = ap (λ (x : Item Classes). then (record { number = n; item = x }) is.rest) (same_left m n new is it) in
    record { number = n; leaves = it; first = λ tells. (is.rest, open_coming ended (coming_of m) open_ ∙ is.coming tells ∙ first_is) }

pub Writes-none : (out err : List ℕ) (settled : Bool) → Writes (written out out err err settled) no_texts
Writes-none out err settled = record { output = sym (append-nil out); messages = sym (append-nil err) }

-- a step that went
pub went : (old new : Session) (w : Written) (m n : Merged) (x : Placed) (rest : Merged) (v : Verdict) → old.coming ≡ m → new.coming ≡ n → m ≡ then x rest → GoesOn m n
    → verdict old.setting x ≡ v → is_after v ≡ false → Writes w (shown_text v old.setting old.last x) → new.last ≡ last_shown v old.last x → Goes old new w
went old new w m n x rest v e f shows goes_on is not_after wrote last = record {
  item = x;
  rest = rest;
  takes = e ∙ shows;
  not_after = ap is_after is ∙ not_after;
  wrote = rw is wrote;
  leaves = rw f (goes_on.after_item x rest shows);
  last_is = rw is last;
}

-- a step that stopped at an item after the end
pub ended_after : (old : Session) (m : Merged) (x : Placed) (rest : Merged) (out err : List ℕ) (settled : Bool) → old.coming ≡ m → m ≡ then x rest → PlacedRise None m.items → verdict old.setting x ≡ After
    → Ends old outcomes.Done (written out out err err settled)
ended_after old m x rest out err settled e shows rise is =
    let all : old.coming ≡ then x rest = e ∙ shows in
    let here : is_after (verdict old.setting x) ≡ true = ap is_after is in
    record {
      none_left = rw all (here, each_after old.setting (time_of x.item) rest.items here (subst (λ (n : Merged). PlacedRise None n.items) shows rise).1);
      outcome_is = rw all refl;
      wrote = rw all (Writes-none out err settled);
    }

-- a step at the end
pub ended_end : (old : Session) (m : Merged) (out err : List ℕ) (settled : Bool) → old.coming ≡ m → m.items ≡ [] → None ≡ m.fault → Ends old outcomes.Done (written out out err err settled)
ended_end old m out err settled e none no_fault =
    let all : old.coming ≡ ends None = e ∙ rw (none, sym no_fault) refl in
    record {
      none_left = rw all tt;
      outcome_is = rw all refl;
      wrote = rw all (Writes-none out err settled);
    }

-- a step that was stopped in an item's text
pub ended_stopped : (old : Session) (m : Merged) (w : Written) (x : Placed) (rest : Merged) (stop : Stop) → old.coming ≡ m → m ≡ then x rest
    → verdict old.setting x ≡ Within → WritesParts w (text_of old.setting old.last x) → EndsBy old (stop_outcome stop) w
ended_stopped old m w x rest stop e shows is parts = by_stop stop
  where
    next : next_texts old ≡ text_of old.setting old.last x
    next = rw (e ∙ shows, is) refl

    by_stop : (s : Stop) → EndsBy old (stop_outcome s) w
    by_stop stops.WriteFailed = rw next parts
    by_stop stops.NoMemory = rw next parts

-- such a step has something to write
pub not_quiet : (setting : Setting) (coming m : Merged) (x : Placed) (rest : Merged) → coming ≡ m → m ≡ then x rest → verdict setting x ≡ Within → IsQuietBy setting coming.items coming.fault → ⊥
not_quiet setting coming m x rest e shows is quiet =
    let early : is_within (verdict setting x) ≡ false = subst (λ (n : Merged). IsQuietBy setting n.items n.fault) (e ∙ shows) quiet in
    let within = sym (ap is_within is) ∙ early in
    cc

-- what is to come rises still
pub still_rises : (m n : Merged) (x : Placed) (rest : Merged) → m ≡ then x rest → GoesOn m n → PlacedRise None m.items → PlacedRise None n.items
still_rises m n x rest shows goes_on rise = by_rest (goes_on.after_item x rest shows)
  where
    from_none : (low : Option ℤ) (xs : List Placed) → PlacedRise low xs → PlacedRise None xs
    from_none low [] r = tt
    from_none low (y ∷ ys) r = (first (time_of y.item), r.1)
      where
        first : (time : Option ℤ) → NotBefore None time
        first None = refl
        first (Some t) = refl

    rest_rises : PlacedRise None rest.items
    rest_rises = from_none (time_of x.item) rest.items (subst (λ (k : Merged). PlacedRise None k.items) shows rise).1

    by_rest : MergedOrRefused rest n → PlacedRise None n.items
    by_rest (inl same) = rw same rest_rises
    by_rest (inr none) = rw none.0 tt

-- ---- the end of a run

-- the line of a fault that is no want of memory
pub line_is : (f : StreamFault) (name : List ℕ) → (f ≡ streams.NoMemory → ⊥) → fault_line f name ≡ stream_line f name
line_is streams.CutShort name e = refl
line_is streams.WrongMagic name e = refl
line_is streams.OtherTrace name e = refl
line_is streams.UnknownStream name e = refl
line_is streams.ImpossibleSizes name e = refl
line_is streams.ContentEnds name e = refl
line_is streams.UnknownEvent name e = refl
line_is streams.NoOption name e = refl
line_is streams.ClockRefused name e = refl
line_is streams.EmptyEvent name e = refl
line_is streams.TooManyValues name e = refl
line_is streams.ReadFailed name e = refl
line_is streams.StreamTooLong name e = refl
line_is streams.NoMemory name e = absurd (e refl)

-- a step that reported a stream's fault
pub ended_fault : (old : Session) (number : ℕ) (fault : StreamFault) (outcome : Outcome) (w : Written) → old.coming ≡ ends (Some (Stream number fault)) → TellsFault old.setting number fault outcome w → EndsBy old outcome w
ended_fault old number fault outcomes.Done w is told = absurd told
ended_fault old number fault (outcomes.Fault f) w is told = record {
  none_left = rw is tt;
  outcome_is = rw is (ap outcomes.Fault told.0);
  wrote = rw is told.1;
}
ended_fault old number fault outcomes.WriteFailed w is told = rw is told
ended_fault old number fault outcomes.NoMemory w is told = rw is told

-- nothing is to come once it has ended
pub rises_left : (ended : Option Outcome) (m n : Merged) → PlacedRise None (left_by ended m).items → (PlacedRise None m.items → PlacedRise None n.items) → PlacedRise None (left_by ended n).items
rises_left None m n rise still = still rise
rises_left (Some o) m n rise still = tt
