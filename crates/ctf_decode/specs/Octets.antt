-- Elements that are bytes (own).
use Rattle.std.specs.Prelude.{◌≡◌, ℕ, ◌+◌, ◌*◌, ◌%◌, ◌≤◌, false}
use Rattle.ctf_class.specs.Integers.{bits_of}
use Rattle.ctf_decode.specs.Forms.{Form, integer}
use Rattle.ctf_decode.specs.Input.{Input}

-- an unsigned integer of 8 bits that may begin at each byte
abbrev pub IsOctet : Form → Type 0
IsOctet (integer a i) = (8 % a ≡ 0) × (bits_of i ≡ 8) × (i.is_signed ≡ false)
IsOctet _ = ⊥

-- so many elements from a place on are whole bytes in the content, and not too many values
pub record Octets (k : Form) (n : ℕ) (c : Input) (p s : ℕ) : Type 0 where
  pub octet : IsOctet k
  pub whole : p % 8 ≡ 0
  pub within : p + 8 * n ≤ c.content
  pub few : s + n ≤ c.limit
