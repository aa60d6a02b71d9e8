use Rattle.std.proofs.Common.{◌-◌, ◌+◌, ◌≡◌, length, drop}
use Rattle.std.specs.Option.{option_map}
use Rattle.tsdl_text.specs.Scanning.{string_len}
use Rattle.tsdl_text.proofs.lexer.string_len.Given as goal

abbrev pub invariant-loop-start : goal.invariant-loop-start
invariant-loop-start l = string_len l.text ≡ option_map (λ n. l.start + n) (string_len (drop l.start l.text))

abbrev pub decreases-loop-start : goal.decreases-loop-start
decreases-loop-start l = length l.text - l.start
