use Rattle.std.proofs.Common.{◌≡◌, ◌++◌, take, drop}
use Rattle.ctf_class.specs.ChoiceSearch.{choices_named}
use Rattle.ctf_class.specs.Choices.{choices_by}
use Rattle.ctf_class.proofs.choices.Named.to_list.Given as goal

abbrev pub invariant-loop-label : goal.invariant-loop-label
invariant-loop-label l = l.choices ++ choices_by (take l.self.count l.self.names) (drop l.label-index l.label-items) ≡ choices_named l.self
