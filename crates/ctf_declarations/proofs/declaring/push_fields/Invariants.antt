use Rattle.std.proofs.Common.{◌≡◌, ◌++◌, Some, map, take}
use Rattle.ctf_meaning.specs.Shapes as plain
use Rattle.ctf_declared_class.specs.Knowns.{known, field}
use Rattle.ctf_declarations.proofs.declaring.push_fields.Given as goal

abbrev pub invariant-loop-declarator : goal.invariant-loop-declarator
invariant-loop-declarator l = map field l.fields.items ≡ map field l.initial.fields.items ++ plain.declared (Some (known l.class)) (take l.declarator-index l.declarators)
