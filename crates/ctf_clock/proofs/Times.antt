-- Timelines of equal parts are equal.
use Rattle.std.proofs.Common.{◌≡◌, ℕ, ℤ}
use Rattle.ctf_clock.specs.Clock.{Line}

pub same_line : (a b c d : ℤ) (f : ℕ) → a ≡ b → c ≡ d → ◌≡◌ {A = Line} (record { start = a; offset = c; frequency = f }) (record { start = b; offset = d; frequency = f })
same_line a b c d f e g = λ i. record { start = e i; offset = g i; frequency = f }
