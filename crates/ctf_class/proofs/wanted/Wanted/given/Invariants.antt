use Rattle.std.specs.List.{All}
use Rattle.ctf_class.specs.Records.{IsInPacket}
use Rattle.ctf_class.proofs.wanted.Wanted.given.Given as goal

abbrev pub invariant-loop-path : goal.invariant-loop-path
invariant-loop-path l = All IsInPacket l.given
