use Rattle.std.proofs.Common.{◌≡◌, map, drop}
use Rattle.ctf_meaning.specs.Settings.{says}
use Rattle.ctf_attributes.proofs.value.says.Given as goal

-- the words that are left decide
abbrev pub invariant-loop-word : goal.invariant-loop-word
invariant-loop-word l = says l.value (map (λ word. word.now) l.words) ≡ says l.value (map (λ word. word.now) (drop l.word-index l.words))
