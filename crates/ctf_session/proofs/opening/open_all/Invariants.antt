use Rattle.std.proofs.Common.{◌≡◌, ◌++◌, map, length}
use Rattle.std.specs.Vec.Iter.{into_iter_items, into_iter_len}
use Rattle.ctf_session.specs.Inputs.{inputs_from}
use Rattle.ctf_session.specs.Opening.{EachOpens}
use Rattle.ctf_session.proofs.opening.open_all.Given as goal

abbrev pub invariant-loop-trace : goal.invariant-loop-trace
invariant-loop-trace g l = record {
  whole : l.yielded ++ into_iter_items l.trace-iterator ≡ into_iter_items l.initial.trace-iterator;
  rest : into_iter_len l.trace-iterator ≡ length (into_iter_items l.trace-iterator);
  number : l.number ≡ length l.yielded;
  opened : EachOpens l.fn.options (inputs_from (λ s. record { tells = g.S.Source.tells s; bytes = g.S.Source.left s; ending = g.S.Source.ending s }) 0 l.yielded) l.opened.readers.items;
  numbers : l.opened.numbers.items ≡ map (λ i. i.trace) (inputs_from (λ s. record { tells = g.S.Source.tells s; bytes = g.S.Source.left s; ending = g.S.Source.ending s }) 0 l.yielded);
}
