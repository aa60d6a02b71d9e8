use Rattle.ctf_class.specs.ListedChoices.{choice_at}
use Rattle.ctf_class.proofs.LabelsLemmas.{Ordered}
use Rattle.ctf_class.proofs.listed_choices.are_apart.Given as goal

abbrev pub invariant-loop-choice : goal.invariant-loop-choice
invariant-loop-choice l = Ordered (λ i. (choice_at l.choices i).span) l.choice-index l.before
