use Rattle.std.proofs.Common.{◌≡◌, map, drop}
use Rattle.ctf_meaning_steps.specs.Seen.{declare_each}
use Rattle.ctf_declared_class.specs.Knowns.{known}
use Rattle.ctf_declarations.specs.Views.{names_in}
use Rattle.ctf_declarations.specs.Given.{by_declarator}
use Rattle.ctf_declarations.proofs.declaring.declare_declarators.Given as goal

abbrev pub invariant-loop-declarator : goal.invariant-loop-declarator
invariant-loop-declarator l = declare_each (names_in l.own) (known l.class) (map by_declarator (drop l.declarator-index l.declarators)) ≡ declare_each (names_in l.initial.own) (known l.class) (map by_declarator l.declarators)
