use Rattle.std.proofs.Common.{map}
use Rattle.ctf_meaning.specs.Reading.{declaration_of}
use Rattle.ctf_types.specs.Ids.{AreIds}
use Rattle.ctf_types.proofs.Going.{Gone}
use Rattle.ctf_types.proofs.text.KnownText.link.Given as goal

abbrev pub ghost-row : goal.ghost-row
ghost-row g a = g.text

abbrev pub invariant-loop-number : goal.invariant-loop-number
invariant-loop-number g l = Gone l.declarations l.self.order l.number l.parts × AreIds (map declaration_of l.declarations) l.number l.ids
