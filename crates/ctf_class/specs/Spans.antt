-- Spans that are one after the other.
use Rattle.std.specs.Prelude.{ℕ, ◌<◌, ◌≤ℤ◌, ◌<ℤ◌}
use Rattle.ctf_class.specs.declared.span.Span.{Span}

-- so many spans have numbers, and those of each are below those of each later one
pub record AreInOrder (span : ℕ → Span) (count : ℕ) : Type 0 where
  pub forward : (rank : ℕ) → rank < count → (span rank).first ≤ℤ (span rank).last
  pub apart : (rank later : ℕ) → rank < later → later < count
      → (span rank).last <ℤ (span later).first
