use Rattle.std.proofs.Common.{◌≡◌, take}
use Rattle.ctf_stream.proofs.copy.+copy.Given as goal

abbrev pub invariant-copy_each-loop-value : goal.invariant-copy_each-loop-value
invariant-copy_each-loop-value l = l.copied ≡ take l.value-index l.values
