use Rattle.std.proofs.Common.{◌≡◌, ◌++◌, ◌-◌, length, drop}
use Rattle.tsdl_text.specs.Strings.{string_value}
use Rattle.tsdl_text.proofs.StringLemmas.{all_values}
use Rattle.tsdl_text.proofs.string.string_value.Given as goal

abbrev pub invariant-loop-start : goal.invariant-loop-start
invariant-loop-start l = l.value.items ++ all_values (drop l.start l.slice) ≡ string_value l.slice

abbrev pub decreases-loop-start : goal.decreases-loop-start
decreases-loop-start l = length l.slice - l.start
