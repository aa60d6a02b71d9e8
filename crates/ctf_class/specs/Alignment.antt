-- Alignments, in bits.
use Rattle.std.specs.Prelude.{◌≡◌, ℕ, ◌%◌, ◌^◌, ◌<◌, ◌≤◌, ◌⊎◌}

-- a power of two from 1 to 2^31 (CTF 1.8.3, section 4.1.2, says a power of two; the bound is own)
pub record IsAlignment (bits : ℕ) : Type 0 where
  pub exponent : ℕ
  pub bounded : exponent ≤ 31
  pub value : bits ≡ 2 ^ exponent

-- an alignment is one of two, and a multiple of both
pub record IsLarger (align one other : ℕ) : Type 0 where
  pub one_some : 0 < one
  pub other_some : 0 < other
  pub of_one : align % one ≡ 0
  pub of_other : align % other ≡ 0
  pub is : (align ≡ one) ⊎ (align ≡ other)
