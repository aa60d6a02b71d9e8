-- What functions promise that write into a buffer.
use Rattle.std.specs.Prelude.{◌≡◌, ℕ, ◌≤◌, List, ◌++◌, take, vec_len, Vec}
use Rattle.std.specs.declared.alloc.Global.{Global}
use Rattle.ctf_format.specs.declared.content.Content.{Content}

-- a piece of text is in a buffer from an index to an end, and what was before the index is before it still (own)
pub record IsPut (before : Vec ℕ Global) (at : ℕ) (piece : List ℕ) (after : Vec ℕ Global) (end : ℕ) : Type 0 where
  pub text : take end after.items ≡ take at before.items ++ piece
  pub held : end ≤ vec_len after

-- a place is within a packet's content, and an index within a buffer: there a value and its text may begin (own)
pub record IsWithin (packet : Content) (place : ℕ) (buffer : Vec ℕ Global) (index : ℕ) : Type 0 where
  pub content : place ≤ packet.end
  pub held : index ≤ vec_len buffer
