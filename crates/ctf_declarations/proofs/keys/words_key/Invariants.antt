use Rattle.std.proofs.Common.{◌≡◌, ◌∷◌, take}
use Rattle.std.specs.Prelude.{flat_map}
use Rattle.ctf_declarations.specs.Keys.{word_key}
use Rattle.ctf_declarations.proofs.keys.words_key.Given as goal

abbrev pub invariant-loop-word : goal.invariant-loop-word
invariant-loop-word l = l.key.items ≡ 0 ∷ flat_map word_key (take l.word-index l.words)
