-- What a sink that takes a few bytes at a time holds, and how many it takes.
use Rattle.std.specs.Prelude.{ℕ, List}
use Rattle.ctf_bits.specs.declared.drip_sink.DripSink.{DripSink}

-- the bytes that it took
abbrev pub accepted_of : DripSink → List ℕ
accepted_of sink = sink.bytes.items

-- how often it ran out of memory
abbrev pub refusals_of : DripSink → ℕ
refusals_of sink = sink.refusals

-- the most bytes that it takes at a call
abbrev pub piece_of : DripSink → ℕ
piece_of sink = sink.piece
