use Rattle.std.proofs.Common.{◌≡◌, map, drop}
use Rattle.ctf_meaning.specs.Blocks.{entry_name}
use Rattle.ctf_meaning_steps.specs.Blocks.{class_named}
use Rattle.ctf_declarations.specs.DeclaredSoFar.{named_class}
use Rattle.ctf_declarations.proofs.placing.class_for.Given as goal

abbrev pub invariant-loop-class : goal.invariant-loop-class
invariant-loop-class l = class_named (map named_class (drop l.class-index l.classes)) (entry_name l.scope) ≡ class_named (map named_class l.classes) (entry_name l.scope)
