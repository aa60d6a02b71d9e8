-- What is kept where bytes come out of a source: no byte is lost.
use Rattle.std.specs.Prelude.{◌≡◌, ℕ, ◌≤◌, List, ◌++◌, length, take, IsTrue}
use Rattle.ctf_bits.specs.declared.source.Source.{Ghosts}
use Rattle.ctf_fetch.specs.declared.intake.Intake.{Intake}

module _ {S : Type 0} (g : Ghosts S) where
  -- a source that tells its bytes goes on telling them and ends as before, and those that it gave
  -- follow those that were there
  pub record KeepsBytes (old new : S) (before after : List ℕ) : Type 0 where
    pub tells : IsTrue (g.tells old) → IsTrue (g.tells new)
    pub same_end : IsTrue (g.tells old) → g.ending new ≡ g.ending old
    pub kept : IsTrue (g.tells old) → after ++ g.left new ≡ before ++ g.left old
    pub first : take (length before) after ≡ before
    pub grown : length before ≤ length after

  -- the same, of the same source and the same buffer
  pub record Keeps (old new : Intake S) : Type 0 where
    pub same_source : new.source.ghost_name ≡ old.source.ghost_name
    pub same_buffer : new.buffer.ghost_name ≡ old.buffer.ghost_name
    pub bytes : KeepsBytes old.source.now new.source.now old.buffer.now new.buffer.now
