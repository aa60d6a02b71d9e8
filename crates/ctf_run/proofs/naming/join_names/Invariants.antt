use Rattle.std.proofs.Common.{◌≡◌, ◌++◌, map, length, true}
use Rattle.std.specs.Vec.Iter.{into_iter_items, into_iter_len}
use Rattle.ctf_session.specs.Inputs.{Given}
use Rattle.ctf_run.specs.Traces.{stream_of, shown_as}
use Rattle.ctf_run.proofs.naming.join_names.Given as goal

abbrev pub invariant-loop-name : goal.invariant-loop-name
invariant-loop-name g l = record {
  whole : l.yielded ++ into_iter_items l.name-iterator ≡ into_iter_items l.initial.name-iterator;
  rest : into_iter_len l.name-iterator ≡ length (into_iter_items l.name-iterator);
  shown : (given : g.row.S.Denot → Given) → map (stream_of given) l.joined.items ≡ map (shown_as true l.fn.trace) (map (stream_of given) l.yielded);
}
