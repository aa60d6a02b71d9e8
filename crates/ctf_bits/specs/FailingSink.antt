-- What a sink that fails when it is full holds, and its room.
use Rattle.std.specs.Prelude.{ℕ, List, ◌-◌, Result, Ok, Err}
use Rattle.ctf_bits.specs.declared.sink.SinkFault.{SinkFault}
use Rattle.ctf_bits.specs.declared.failing_sink.FailingSink.{FailingSink}

-- the bytes that it took
abbrev pub accepted_of : FailingSink → List ℕ
accepted_of sink = sink.bytes.items

-- how often it failed
abbrev pub failures_of : FailingSink → ℕ
failures_of sink = sink.failures

-- how often it ran out of memory
abbrev pub refusals_of : FailingSink → ℕ
refusals_of sink = sink.refusals

-- how many bytes it still takes
abbrev pub room_of : FailingSink → ℕ
room_of sink = sink.room

-- the room after a call
abbrev pub room_after : Result ℕ SinkFault → ℕ → ℕ
room_after (Ok count) room = room - count
room_after (Err fault) room = room
