-- What a source over a slice has given, and what is left.
use Rattle.std.specs.Prelude.{ℕ, List}
use Rattle.ctf_bits.specs.Rest as rest
use Rattle.ctf_bits.specs.declared.slices.FailingSource.{FailingSource}

-- the bytes that are left
abbrev pub left_of : FailingSource → List ℕ
left_of source = rest.left_of source.rest

-- how many bytes were given
abbrev pub given_of : FailingSource → ℕ
given_of source = rest.given_of source.rest
