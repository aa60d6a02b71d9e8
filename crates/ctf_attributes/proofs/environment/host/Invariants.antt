use Rattle.std.proofs.Common.{◌≡◌, map, take, option_copied}
use Rattle.ctf_meaning.specs.Reading.{declaration_of}
use Rattle.ctf_meaning.specs.Denotes.{host_of}
use Rattle.ctf_attributes.proofs.environment.host.Given as goal

abbrev pub invariant-loop-declaration : goal.invariant-loop-declaration
invariant-loop-declaration l = option_copied l.host ≡ host_of (map declaration_of (take l.declaration-index l.declarations))
