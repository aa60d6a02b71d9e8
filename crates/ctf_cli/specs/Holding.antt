-- Bytes that are held back.
use Rattle.std.specs.Prelude.{ℕ, List}

-- what is held, and how many bytes more may be (own)
pub record Holding : Type 0 where
  pub bytes : List ℕ
  pub room : ℕ
