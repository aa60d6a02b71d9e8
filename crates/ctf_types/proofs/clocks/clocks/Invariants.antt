use Rattle.std.proofs.Common.{map}
use Rattle.ctf_meaning.specs.Blocks.{clocks_of}
use Rattle.ctf_meaning.specs.Reading.{declaration_of}
use Rattle.ctf_types.proofs.Clocked.{AreFound}
use Rattle.ctf_types.proofs.clocks.clocks.Given as goal

abbrev pub invariant-loop-declaration : goal.invariant-loop-declaration
invariant-loop-declaration l = AreFound l.declarations (clocks_of (map declaration_of l.declarations)) l.found.items l.declaration-index
