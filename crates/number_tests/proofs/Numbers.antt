-- Numbers that are at any bit of some bytes.
use Rattle.std.specs.Prelude.{◌≡◌, ℕ, ℤ, pos, negsuc, ◌+◌, ◌-◌, ◌*◌, ◌/◌, ◌%◌, ◌^◌, ◌-ℤ◌, List, [], ◌∷◌, map, refl, length, if◌then◌else◌, nat_lt, nat_le, Option, Some, None}
use Rattle.std.specs.List.{range_with_len, flat_map}
use Rattle.ctf_bits.specs.declared.number.Order.{Order}
use Rattle.ctf_bits.specs.declared.number.Order.TheVariants.{Le, Be}
use Rattle.ctf_bits.specs.Number.{number, signed_number}

-- the numbers of `uint` and of `sint`, where the bytes have these bits
abbrev both : Order → ℕ → ℕ → List ℕ → Option (ℕ × ℤ)
both order place count bytes =
    if nat_le (place + count) (8 * length bytes) then Some (number order bytes place count, signed_number order bytes place count) else None

abbrev two : List ℕ
two = 0xB4 ∷ 0x2F ∷ []

abbrev ones : List ℕ
ones = 0xFF ∷ 0xFF ∷ 0xFF ∷ 0xFF ∷ 0xFF ∷ 0xFF ∷ 0xFF ∷ 0xFF ∷ []

pub le_3_7 : both Le 3 7 two ≡ Some (118, negsuc 9)
unfolding number signed_number
le_3_7 = refl

pub be_3_7 : both Be 3 7 two ≡ Some (80, negsuc 47)
unfolding number signed_number
be_3_7 = refl

pub le_9_7 : both Le 9 7 two ≡ Some (23, pos 23)
unfolding number signed_number
le_9_7 = refl

pub be_9_7 : both Be 9 7 two ≡ Some (47, pos 47)
unfolding number signed_number
be_9_7 = refl

-- a bit too many
pub le_10_7 : both Le 10 7 two ≡ None
unfolding number signed_number
le_10_7 = refl

pub be_10_7 : both Be 10 7 two ≡ None
unfolding number signed_number
be_10_7 = refl

pub be_0_9 : both Be 0 9 (0xB4 ∷ []) ≡ None
unfolding number signed_number
be_0_9 = refl

-- single bits
pub le_2_1 : both Le 2 1 (0xB4 ∷ []) ≡ Some (1, negsuc 0)
unfolding number signed_number
le_2_1 = refl

pub be_1_1 : both Be 1 1 (0xB4 ∷ []) ≡ Some (0, pos 0)
unfolding number signed_number
be_1_1 = refl

-- 64 bits, also across nine bytes
pub le_0_64 : both Le 0 64 ones ≡ Some (18446744073709551615, negsuc 0)
unfolding number signed_number
le_0_64 = refl

pub be_1_64 : both Be 1 64 (0x40 ∷ 0 ∷ 0 ∷ 0 ∷ 0 ∷ 0 ∷ 0 ∷ 0 ∷ 0 ∷ []) ≡ Some (9223372036854775808, negsuc 9223372036854775807)
unfolding number signed_number
be_1_64 = refl

pub le_7_64 : both Le 7 64 (0x80 ∷ 0xFF ∷ 0xFF ∷ 0xFF ∷ 0xFF ∷ 0xFF ∷ 0xFF ∷ 0xFF ∷ 0x3F ∷ []) ≡ Some (9223372036854775807, pos 9223372036854775807)
unfolding number signed_number
le_7_64 = refl

-- Each count of bits at each place of ten bytes, against a reading that is not bit by bit: all bytes as one number, of
-- which a shift and a remainder leave some bits.
abbrev ten : List ℕ
ten = 0xB4 ∷ 0x2F ∷ 0x00 ∷ 0xFF ∷ 0x80 ∷ 0x01 ∷ 0x7E ∷ 0x55 ∷ 0xAA ∷ 0xC3 ∷ []

abbrev whole : Order → List ℕ → ℕ
whole Le [] = 0
whole Le (byte ∷ bytes) = byte + 256 * whole Le bytes
whole Be [] = 0
whole Be (byte ∷ bytes) = byte * 256 ^ length bytes + whole Be bytes

abbrev shifted : Order → ℕ → ℕ → ℕ → ℕ
shifted Le all place count = all / 2 ^ place % 2 ^ count
shifted Be all place count = all / 2 ^ (80 - place - count) % 2 ^ count

abbrev in_two : ℕ → ℕ → ℤ
in_two count n = if nat_lt n (2 ^ (count - 1)) then pos n else pos n -ℤ pos (2 ^ count)

-- the places from 0 to 80, each with the counts from 1 to 64
abbrev every : List (ℕ × ℕ)
every = flat_map (λ place. map (λ i. (place, i + 1)) (range_with_len 0 64)) (range_with_len 0 81)

abbrev here : Order → ℕ × ℕ → Option (ℕ × ℤ)
here order (place, count) = both order place count ten

abbrev wanted : Order → ℕ × ℕ → Option (ℕ × ℤ)
wanted order (place, count) =
    let n = shifted order (whole order ten) place count in if nat_le (place + count) 80 then Some (n, in_two count n) else None

pub every_le : map (here Le) every ≡ map (wanted Le) every
unfolding number signed_number
every_le = refl

pub every_be : map (here Be) every ≡ map (wanted Be) every
unfolding number signed_number
every_be = refl

-- in each order 3,104 of 5,184 pass no end
abbrev within : ℕ × ℕ → List ℕ
within (place, count) = if nat_le (place + count) 80 then 0 ∷ [] else []

pub count_within : length (flat_map within every) ≡ 3104
count_within = refl

pub count_of_every : length every ≡ 5184
count_of_every = refl
