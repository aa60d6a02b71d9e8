use Rattle.std.proofs.Common.{◌≡◌, ◌++◌, take}
use Rattle.ctf_attributes.specs.Dots.{dotted}
use Rattle.ctf_attributes.proofs.dots.put_dotted.Given as goal

abbrev pub invariant-loop-word : goal.invariant-loop-word
invariant-loop-word l = l.text ≡ l.initial.text ++ dotted (take l.word-index l.words)
