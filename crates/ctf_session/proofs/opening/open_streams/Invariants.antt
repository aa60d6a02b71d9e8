use Rattle.std.proofs.Common.{◌≡◌, ◌++◌, List, map, length}
use Rattle.std.specs.Vec.Iter.{into_iter_items, into_iter_len}
use Rattle.ctf_session.specs.Inputs.{Input, input_of}
use Rattle.ctf_session.specs.Opening.{EachOpens}
use Rattle.ctf_session.proofs.opening.open_streams.Given as goal

abbrev pub invariant-loop-name : goal.invariant-loop-name
invariant-loop-name g l = record {
  whole : l.yielded ++ into_iter_items l.name-iterator ≡ into_iter_items l.initial.name-iterator;
  rest : into_iter_len l.name-iterator ≡ length (into_iter_items l.name-iterator);
  opened : (inputs : List Input) → EachOpens l.fn.options inputs l.initial.opened.readers.items
      → EachOpens l.fn.options (inputs ++ map (input_of (λ s. record { tells = g.S.Source.tells s; bytes = g.S.Source.left s; ending = g.S.Source.ending s }) l.fn.number l.fn.trace.class.now) l.yielded) l.opened.readers.items;
  numbers : l.opened.numbers.items ≡ l.initial.opened.numbers.items ++ map (λ s. l.fn.number) l.yielded;
}
