-- What a sink in memory holds.
use Rattle.std.specs.Prelude.{ℕ, List}
use Rattle.ctf_bits.specs.declared.vec_sink.VecSink.{VecSink}

-- the bytes that it took
abbrev pub accepted_of : VecSink → List ℕ
accepted_of sink = sink.bytes.items

-- how often it ran out of memory
abbrev pub refusals_of : VecSink → ℕ
refusals_of sink = sink.refusals
