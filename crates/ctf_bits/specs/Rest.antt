-- What a source over a slice has given, and what is left.
use Rattle.std.specs.Prelude.{ℕ, List, ◌-◌, length}
use Rattle.ctf_bits.specs.declared.rest.Rest.{Rest}

-- the bytes that are left
abbrev pub left_of : Rest → List ℕ
left_of rest = rest.left.now

-- how many bytes were given: what there was at first, less what is left
abbrev pub given_of : Rest → ℕ
given_of rest = rest.whole - length rest.left.now
