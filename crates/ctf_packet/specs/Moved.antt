-- The integers of a value that set the clock, as the clock reads them: each number by its lowest bits.
use Rattle.std.specs.Prelude.{ℕ, ℤ, ◌%◌, ◌^◌, List, [], ◌∷◌, if◌then◌else◌}
use Rattle.std.specs.Int.{w64, cast_unsigned}
use Rattle.ctf_class.specs.declared.integer.Integer.{Integer}
use Rattle.ctf_decode.specs.Values.{Val, Vals, unsigned, signed}
use Rattle.ctf_decode.specs.Forms.{Form, Parts}
use Rattle.ctf_decode.specs.Fields.{of_integers, of_members, of_option}

-- the lowest bits of a number in two's complement
abbrev pub low_bits : ℤ → ℕ → ℕ
low_bits z n = cast_unsigned w64 z % 2 ^ n

-- the width and the unsigned number of an integer
abbrev pub unsigned_pair : ℕ → Val → List (ℕ × ℕ)
unsigned_pair n (unsigned x) = (n, x) ∷ []
unsigned_pair n _ = []

abbrev pub signed_pair : ℕ → Val → List (ℕ × ℕ)
signed_pair n (signed z) = (n, low_bits z n) ∷ []
signed_pair n _ = []

abbrev pub moved_in : Integer → Val → List (ℕ × ℕ)
moved_in i v =
    if i.is_moving then (if i.is_signed then signed_pair i.size v else unsigned_pair i.size v)
    else []

-- the width and the unsigned number of each integer that sets the clock, in the order of decoding
abbrev pub moved : Form → Val → List (ℕ × ℕ)
moved = of_integers moved_in

abbrev pub member_moved : Parts → Vals → List (ℕ × ℕ)
member_moved = of_members moved_in

abbrev pub option_moved : Parts → ℕ → Val → List (ℕ × ℕ)
option_moved = of_option moved_in
