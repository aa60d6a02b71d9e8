-- What a sink over a writer holds.
use Rattle.std.specs.Prelude.{ℕ}
use Rattle.ctf_bits.specs.declared.to_write.ToWrite.{ToWrite}

-- its writer
abbrev pub writer_of : {W : Type 0} → ToWrite W → W
writer_of sink = sink.writer

-- how often it failed
abbrev pub failures_of : {W : Type 0} → ToWrite W → ℕ
failures_of sink = sink.failures
