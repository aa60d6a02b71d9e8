use Rattle.std.proofs.Common.{◌≡◌, drop}
use Rattle.ctf_class.specs.Choices as choosing
use Rattle.ctf_class.proofs.listed_choices.first_option.Given as goal

abbrev pub invariant-loop-choice : goal.invariant-loop-choice
invariant-loop-choice l = choosing.chosen (drop l.choice-index l.choices) l.number ≡ choosing.chosen l.choices l.number
