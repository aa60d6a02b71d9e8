use Rattle.std.proofs.Common.{◌-◌, ◌+◌, ◌*◌, ◌^◌, ◌≡◌, length, drop}
use Rattle.tsdl_text.specs.Bytes.{number}
use Rattle.tsdl_text.proofs.string.number.Given as goal

abbrev pub invariant-loop-digit : goal.invariant-loop-digit
invariant-loop-digit l = number l.base l.digits ≡ l.value * l.base ^ (length l.digits - l.digit-index) + number l.base (drop l.digit-index l.digits)
