use Rattle.std.proofs.Common.{◌≡◌, ◌++◌, length}
use Rattle.std.specs.Vec.Iter.{into_iter_items, into_iter_len}
use Rattle.ctf_session.specs.Inputs.{Given}
use Rattle.ctf_session.specs.Inputs as sessions
use Rattle.ctf_run.specs.Traces.{traces_of, inputs_from}
use Rattle.ctf_run.proofs.naming.name_traces.Given as goal

abbrev pub invariant-loop-trace : goal.invariant-loop-trace
invariant-loop-trace g l = record {
  whole : l.yielded ++ into_iter_items l.trace-iterator ≡ into_iter_items l.initial.trace-iterator;
  rest : into_iter_len l.trace-iterator ≡ length (into_iter_items l.trace-iterator);
  number : l.number ≡ length l.yielded;
  counted : length l.named.items ≡ length l.yielded;
  inputs : (given : g.row.S.Denot → Given) → sessions.inputs_from given 0 l.named.items ≡ inputs_from l.several 0 (traces_of given l.yielded) l.fn.classes;
}
