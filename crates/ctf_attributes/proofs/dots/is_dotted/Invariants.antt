use Rattle.std.proofs.Common.{◌≡◌, drop}
use Rattle.ctf_meaning.specs.Name.{same_word}
use Rattle.ctf_attributes.specs.Dots.{dotted}
use Rattle.ctf_attributes.proofs.dots.is_dotted.Given as goal

-- what is left of both is compared
abbrev pub invariant-loop-word : goal.invariant-loop-word
invariant-loop-word l = same_word (dotted l.words) l.text ≡ same_word (dotted (drop l.word-index l.words)) l.rest
