use Rattle.std.proofs.Common.{◌≡◌, drop}
use Rattle.ctf_decode.specs.Values.{down}
use Rattle.ctf_decode.specs.Views.{val}
use Rattle.ctf_decode.proofs.find.down.Given as goal

abbrev pub invariant-loop-step : goal.invariant-loop-step
invariant-loop-step l = down (drop l.step-index l.steps) (val l.at) ≡ down l.steps (val l.value)
