-- What values are decoded from.
use Rattle.std.specs.Prelude.{ℕ, pos, ◌-◌, ◌/◌, List, take, drop, Option, if◌then◌else◌}
use Rattle.ctf_bits.specs.Number.{number, signed_number}
use Rattle.ctf_class.specs.declared.integer.Integer.{Integer}
use Rattle.ctf_class.specs.declared.route.Scope.{Scope}
use Rattle.ctf_class.specs.Integers.{bits_of}
use Rattle.ctf_decode.specs.Values.{Val, unsigned, signed, label}

-- a packet's bytes, the place in bits where its content ends, the values of earlier scopes, and how many
-- values may be there
pub record Input : Type 0 where
  pub packet : List ℕ
  pub content : ℕ
  pub earlier : Scope → Option Val
  pub limit : ℕ

-- the earlier members of the structures around a value, the innermost first
abbrev pub Env : Type 0
Env = List (List Val)

-- an integer's value at a place (CTF 1.8.3, section 4.1.5)
abbrev pub integer_at : Input → Integer → ℕ → Val
integer_at c i b =
    if i.is_signed then signed (signed_number i.order c.packet b (bits_of i))
    else unsigned (number i.order c.packet b (bits_of i))

-- an enumeration's value at a place: its container's number (CTF 1.8.3, section 4.1.8)
abbrev pub label_at : Input → Integer → ℕ → Val
label_at c i b =
    label (if i.is_signed then signed_number i.order c.packet b (bits_of i)
    else pos (number i.order c.packet b (bits_of i)))

-- the whole bytes from a place to the content's end
abbrev pub bytes_from : Input → ℕ → List ℕ
bytes_from c b = take ((c.content - b) / 8) (drop (b / 8) c.packet)
