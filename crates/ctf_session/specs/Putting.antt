-- The counts of a sink after a whole text was put, or what it held back was passed on.
use Rattle.std.specs.Prelude.{ℕ, Result, Ok, Err}
use Rattle.ctf_bits.specs.Count.{one_more}
use Rattle.ctf_bits.specs.declared.sink.SinkFault.{SinkFault}
use Rattle.ctf_bits.specs.declared.sink.SinkFault.TheVariants.{Failed, NoMemory}

abbrev pub failures_put : Result Unit SinkFault → ℕ → ℕ
failures_put (Ok done) n = n
failures_put (Err Failed) n = one_more n
failures_put (Err NoMemory) n = n

abbrev pub refusals_put : Result Unit SinkFault → ℕ → ℕ
refusals_put (Ok done) n = n
refusals_put (Err Failed) n = n
refusals_put (Err NoMemory) n = one_more n
