use Rattle.std.proofs.Common.{◌≡◌, Some, None, IsTrue}
use Rattle.ctf_faults.specs.declared.outcome.Outcome.{Outcome}
use Rattle.ctf_merge.specs.Merges.{EachOnLine, EachAllTaken, given_of}
use Rattle.ctf_session.specs.Passing.{PassesWithin}
use Rattle.ctf_session.specs.Steps.{Tells}
use Rattle.ctf_session.specs.Writing.{written_by}
use Rattle.ctf_session.proofs.Reaching.{Reaches}
use Rattle.ctf_session.proofs.session.print_all.Given as goal

abbrev pub invariant-loop-outcome : goal.invariant-loop-outcome
invariant-loop-outcome g l = record {
  open_still : l.initial.session.ended ≡ None → l.session.ended ≡ None;
  unmoved : (o : Outcome) → l.initial.session.ended ≡ Some o
      → (l.session ≡ l.initial.session) × ((l.out ≡ l.initial.out) × (l.err ≡ l.initial.err));
  setting : l.session.setting ≡ l.initial.session.setting;
  passes : Tells l.initial.session → IsTrue (g.W.Sink.tells l.initial.out) → IsTrue (g.E.Sink.tells l.initial.err)
      → PassesWithin l.initial.session.setting l.initial.session.readers l.session.readers;
  counted : Tells l.initial.session → given_of l.session.readers ≡ given_of l.initial.session.readers;
  on_line : EachOnLine l.initial.session.readers → EachOnLine l.session.readers;
  all_taken : Tells l.initial.session → EachAllTaken l.initial.session.readers → EachAllTaken l.session.readers;
  tells : Tells l.initial.session → Tells l.session;
  out_tells : IsTrue (g.W.Sink.tells l.initial.out) → IsTrue (g.W.Sink.tells l.out);
  err_tells : IsTrue (g.E.Sink.tells l.initial.err) → IsTrue (g.E.Sink.tells l.err);
  reaches : Tells l.initial.session → IsTrue (g.W.Sink.tells l.initial.out) → IsTrue (g.E.Sink.tells l.initial.err) → Reaches l.initial.session l.session
      (written_by g.W.Sink.accepted g.W.Log.settled g.E.Sink.accepted l.initial.out l.initial.err l.out l.err);
  out_failures : g.W.Sink.failures l.out ≡ g.W.Sink.failures l.initial.out;
  out_refusals : g.W.Sink.refusals l.out ≡ g.W.Sink.refusals l.initial.out;
  err_failures : g.E.Sink.failures l.err ≡ g.E.Sink.failures l.initial.err;
  err_refusals : g.E.Sink.refusals l.err ≡ g.E.Sink.refusals l.initial.err;
}

abbrev pub decreases-loop-outcome : goal.decreases-loop-outcome
decreases-loop-outcome g l = l.session.room
