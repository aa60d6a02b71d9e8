-- Powers of ten.
use Rattle.std.proofs.Common.{◌<◌, ◌≤◌, ◌*◌, ◌^◌, ◌-◌, ℕ, arith, zero, suc}

-- a number of k digits before 9 - k zeros has nine digits
pub scaled : (n k : ℕ) → k ≤ 9 → n < 10 ^ k → n * 10 ^ (9 - k) < 1000000000
scaled n zero h small = omega arith
scaled n (suc zero) h small = omega arith
scaled n (suc (suc zero)) h small = omega arith
scaled n (suc (suc (suc zero))) h small = omega arith
scaled n (suc (suc (suc (suc zero)))) h small = omega arith
scaled n (suc (suc (suc (suc (suc zero))))) h small = omega arith
scaled n (suc (suc (suc (suc (suc (suc zero)))))) h small = omega arith
scaled n (suc (suc (suc (suc (suc (suc (suc zero))))))) h small = omega arith
scaled n (suc (suc (suc (suc (suc (suc (suc (suc zero)))))))) h small = omega arith
scaled n (suc (suc (suc (suc (suc (suc (suc (suc (suc zero))))))))) h small = omega arith
scaled n (suc (suc (suc (suc (suc (suc (suc (suc (suc (suc k)))))))))) h small = absurd (omega arith)
