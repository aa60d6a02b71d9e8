use Rattle.std.proofs.Common.{map}
use Rattle.ctf_meaning.specs.Reading.{declaration_of}
use Rattle.ctf_types.proofs.resolving.resolve.Given as goal

abbrev pub ghost-resolve_walked : goal.ghost-resolve_walked
ghost-resolve_walked a = map declaration_of a.declarations.now
