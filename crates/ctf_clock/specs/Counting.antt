-- Numbers that are kept in so many bits and start again at 0 after the largest.
use Rattle.std.specs.Prelude.{◌≡◌, ℕ, ◌+◌, ◌-◌, ◌%◌, ◌^◌, ◌≤◌, ◌&&◌, nat_le, ◌==◌, Option, Some, None, if◌then◌else◌}

-- how many steps it takes upward from one number of n bits to another (own)
abbrev pub steps_up : ℕ → ℕ → ℕ → ℕ
steps_up n from to = (to + (2 ^ n - from % 2 ^ n)) % 2 ^ n

-- the least number that is not below `old` and has the low n bits of x
pub record IsLeastFrom (n old x r : ℕ) : Type 0 where
  pub reached : old ≤ r
  pub same_bits : r % 2 ^ n ≡ x % 2 ^ n
  pub least : (m : ℕ) → old ≤ m → m % 2 ^ n ≡ x % 2 ^ n → r ≤ m

-- that number, as a sum
abbrev pub least_from : ℕ → ℕ → ℕ → ℕ
least_from n old x = old + steps_up n old x

-- how many event records were discarded between two packets with these counts of n bits: none where the
-- counts are the same (own)
abbrev pub discarded_between : ℕ → ℕ → ℕ → Option ℕ
discarded_between n before now = let d = steps_up n before now in if d == 0 then None else Some d

-- how many packets were lost between two with these sequence numbers of n bits: none where the number is the
-- same or the next, nor where it went back, that is more than half of all numbers on (own)
abbrev pub lost_between : ℕ → ℕ → ℕ → Option ℕ
lost_between n before now =
    let d = steps_up n before now in
    if nat_le 2 d && nat_le d (2 ^ (n - 1)) then Some (d - 1) else None

-- it is that number
abbrev pub SumIsLeast : Type 0
SumIsLeast = (n old x : ℕ) → IsLeastFrom n old x (least_from n old x)
