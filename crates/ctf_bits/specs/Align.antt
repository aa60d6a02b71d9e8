-- Places that an alignment allows (CTF 1.8.3, section 4.1.2).
use Rattle.std.specs.Prelude.{◌≡◌, ◌≤◌, ℕ, ◌%◌}

-- x is the least multiple of a that is not below p
pub record IsLeastMultiple (p a x : ℕ) : Type 0 where
  pub multiple : x % a ≡ 0
  pub not_below : p ≤ x
  pub least : (m : ℕ) → m % a ≡ 0 → p ≤ m → x ≤ m
