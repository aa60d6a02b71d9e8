use Rattle.std.proofs.Common.{◌≡◌, ◌+◌, ◌*◌, ◌^◌, ◌-◌, ◌≤◌, length, get_or, drop, sym, ap, ◌∙◌, arith}
use Rattle.std.specs.Char.{digit_value}
use Rattle.tsdl_text.specs.Bytes.{number}
use Rattle.tsdl_text.proofs.Digits.{number_more, number_least, number_end}
use Rattle.tsdl_text.proofs.string.number.Goals as goal

pub returns-in_err-checked_mul : goal.returns-in_err-checked_mul
returns-in_err-checked_mul c =
    let i = c.loop-digit.digit-index in
    let ds = c.args.digits.now in
    let over : 2 ^ 64 ≤ c.loop-digit.value * c.args.base + digit_value (get_or ds i 0) = omega (arith, c.in_err-checked_mul.ensures) in
    rw c.from_residual.ensures
    (number_least c.args.base (2 ^ 64) _ (length ds - (i + 1)) _ _ c.requires (number_more c.args.base ds i c.loop-digit.value c.loop-digit-test.true c.loop-digit.invariant) over)

pub returns-in_err-value : goal.returns-in_err-value
returns-in_err-value c =
    let i = c.loop-digit.digit-index in
    let ds = c.args.digits.now in
    let d : c.from.result ≡ digit_value (get_or ds i 0) = cc in
    let over : 2 ^ 64 ≤ c.loop-digit.value * c.args.base + digit_value (get_or ds i 0) = omega (arith, c.in_err-value.ensures, c.in_ok-checked_mul.ensures) in
    rw c.from_residual-in_err-value.ensures
    (number_least c.args.base (2 ^ 64) _ (length ds - (i + 1)) _ _ c.requires (number_more c.args.base ds i c.loop-digit.value c.loop-digit-test.true c.loop-digit.invariant) over)

pub loop-digit-preserved : goal.loop-digit-preserved
loop-digit-preserved c =
    let i = c.loop-digit.digit-index in
    let ds = c.args.digits.now in
    let d : c.from.result ≡ digit_value (get_or ds i 0) = cc in
    let same : c.loop-digit.value * c.args.base + digit_value (get_or ds i 0) ≡ c.in_ok-value.value = omega (arith, c.in_ok-value.ensures, c.in_ok-checked_mul.ensures) in
    number_more c.args.base ds i c.loop-digit.value c.loop-digit-test.true c.loop-digit.invariant ∙ ap (λ v. v * c.args.base ^ (length ds - (i + 1)) + number c.args.base (drop (i + 1) ds)) same

pub returns : goal.returns
returns c = sym (number_end c.args.base c.args.digits.now c.loop-digit.digit-index c.loop-digit.value c.loop-digit-test.false c.loop-digit.invariant)
