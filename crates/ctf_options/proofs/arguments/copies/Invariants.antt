use Rattle.std.proofs.Common.{◌≡◌, take, map}
use Rattle.ctf_options.proofs.arguments.copies.Given as goal

abbrev pub invariant-loop-text : goal.invariant-loop-text
invariant-loop-text l = l.copies.items ≡ map (λ text. text.now) (take l.text-index l.texts)
