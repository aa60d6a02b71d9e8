use Rattle.std.proofs.Common.{◌≡◌, [], length, take, Option}
use Rattle.ctf_class.specs.declared.route.Scope.{Scope}
use Rattle.ctf_decode.specs.Values.{Val}
use Rattle.ctf_format.specs.Found.{SharesPacket}
use Rattle.ctf_format.specs.Kept.{Knows}
use Rattle.ctf_format.proofs.kept.KeptNumbers.keep_given.Given as goal

abbrev pub invariant-loop-route : goal.invariant-loop-route
invariant-loop-route l =
    let met = take l.route-index l.given in
    (length met ≡ length l.self.numbers)
    × ((earlier : Scope → Option Val) → SharesPacket l.scopes earlier → Knows met l.self.numbers earlier [])
