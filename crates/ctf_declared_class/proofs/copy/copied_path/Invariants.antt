use Rattle.std.proofs.Common.{◌≡◌, take}
use Rattle.ctf_declared_class.proofs.copy.copied_path.Given as goal

abbrev pub invariant-loop-word : goal.invariant-loop-word
invariant-loop-word l = l.words.items ≡ take l.word-index l.word-items
