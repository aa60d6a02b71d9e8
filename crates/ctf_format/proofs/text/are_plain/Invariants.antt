use Rattle.std.proofs.Common.{◌≡◌, [], ◌∷◌, take, IsTrue}
use Rattle.std.specs.List.{All}
use Rattle.ctf_class.specs.Escapes.{shown_byte}
use Rattle.ctf_format.proofs.text.are_plain.Given as goal

abbrev pub invariant-loop-byte : goal.invariant-loop-byte
invariant-loop-byte l = IsTrue l.plain → All (λ byte. shown_byte byte ≡ byte ∷ []) (take l.byte-index l.bytes)
