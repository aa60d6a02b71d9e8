use Rattle.std.proofs.Common.{◌≡◌, IsTrue, length}
use Rattle.ctf_session.proofs.Pieces.{Sends}
use Rattle.ctf_session.proofs.writing.put_all.Given as goal

abbrev pub invariant-loop-rest : goal.invariant-loop-rest
invariant-loop-rest g l = record {
  stays : IsTrue (g.W.Sink.tells l.initial.sink) → IsTrue (g.W.Sink.tells l.sink);
  sends : IsTrue (g.W.Sink.tells l.initial.sink) → Sends (g.W.Sink.accepted l.initial.sink) (g.W.Sink.accepted l.sink) l.text l.rest;
  failures : g.W.Sink.failures l.sink ≡ g.W.Sink.failures l.initial.sink;
  refusals : g.W.Sink.refusals l.sink ≡ g.W.Sink.refusals l.initial.sink;
}

abbrev pub decreases-loop-rest : goal.decreases-loop-rest
decreases-loop-rest g l = length l.rest
