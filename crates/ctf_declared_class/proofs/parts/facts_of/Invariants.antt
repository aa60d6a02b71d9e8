use Rattle.std.proofs.Common.{map, take}
use Rattle.ctf_declared_class.specs.Kept.{KeepsAll}
use Rattle.ctf_declared_class.specs.Knowns.{field}
use Rattle.ctf_declared_class.proofs.parts.facts_of.Given as goal

abbrev pub invariant-loop-field : goal.invariant-loop-field
invariant-loop-field l = KeepsAll l.fn.least (map field (take l.field-index l.fields)) l.facts
