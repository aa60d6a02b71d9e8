use Rattle.std.proofs.Common.{◌-◌, ◌+◌, ◌≡◌, length, drop}
use Rattle.std.specs.Option.{option_map}
use Rattle.tsdl_text.specs.Scanning.{block_len}
use Rattle.tsdl_text.proofs.lexer.block_len.Given as goal

abbrev pub invariant-loop-start : goal.invariant-loop-start
invariant-loop-start l = block_len l.text ≡ option_map (λ n. l.start + n) (block_len (drop l.start l.text))

abbrev pub decreases-loop-start : goal.decreases-loop-start
decreases-loop-start l = length l.text - l.start
