use Rattle.std.proofs.Common.{◌≡◌, ◌*◌, [], ◌∷◌, take}
use Rattle.std.specs.List.{All}
use Rattle.ctf_class.specs.Escapes.{shown_byte}
use Rattle.ctf_format.proofs.window.count_all_plain.Given as goal

abbrev pub invariant-loop-i : goal.invariant-loop-i
invariant-loop-i l = All (λ byte. shown_byte byte ≡ byte ∷ []) (take (16 * l.i) l.bytes)
