-- What a log that is held back from a writer holds.
use Rattle.std.specs.Prelude.{ℕ, List, Bool, true, false, Option, [], ◌∷◌}
use Rattle.std.specs.Io.KnownBytes.{append_known}
use Rattle.ctf_cli.specs.declared.log_writer.LogWriter.{LogWriter}

-- the inner writer
abbrev pub writer_of : {O : Type 0} → LogWriter O → O
writer_of log = log.writer

-- how often it failed
abbrev pub failures_of : {O : Type 0} → LogWriter O → ℕ
failures_of log = log.failures

-- how many bytes more may be held back
abbrev pub room_of : {O : Type 0} → LogWriter O → ℕ
room_of log = log.held.room

-- the writer's bytes and then those held back, where they are known
abbrev pub log_contents : {O : Type 0} → (O → Option (List ℕ)) → LogWriter O → Option (List ℕ)
log_contents contents log = append_known (contents log.writer) log.held.bytes

abbrev pub is_empty : List ℕ → Bool
is_empty [] = true
is_empty (byte ∷ bytes) = false

-- nothing is held back
abbrev pub is_settled : {O : Type 0} → LogWriter O → Bool
is_settled log = is_empty log.held.bytes
