use Rattle.ctf_attributes.proofs.FirstLemmas.{handed}
use Rattle.ctf_attributes.proofs.IntegerLemmas.{align-first, base-first, order-first, text-first}
use Rattle.ctf_attributes.proofs.integers.integer.Goals as goal

pub returns-in_err-align : goal.returns-in_err-align
returns-in_err-align c =
    let f = c.in_err-align.field-0.0 in
    record { told = handed _ _ _ f c.from_residual-in_err-align.ensures (align-first c.args.settings.now f c.in_ok-each_once.ensures.told.0 c.in_ok-size.ensures.told.0 c.in_err-align.ensures.told) }

pub returns-in_err-base : goal.returns-in_err-base
returns-in_err-base c =
    let f = c.in_err-base.field-0.0 in
    record { told = handed _ _ _ f c.from_residual-in_err-base.ensures (base-first c.args.settings.now f c.in_ok-each_once.ensures.told.0 c.in_ok-size.ensures.told.0 c.in_ok-align.ensures.told.0 c.in_ok-is_signed.ensures.told.0 c.in_err-base.ensures.told) }

pub returns-in_err-order : goal.returns-in_err-order
returns-in_err-order c =
    let f = c.in_err-order.field-0.0 in
    record { told = handed _ _ _ f c.from_residual-in_err-order.ensures (order-first c.args.settings.now f c.in_ok-each_once.ensures.told.0 c.in_ok-size.ensures.told.0 c.in_ok-align.ensures.told.0 c.in_ok-is_signed.ensures.told.0 c.in_ok-base.ensures.told.0 c.in_err-order.ensures.told) }

pub returns-in_err-is_text : goal.returns-in_err-is_text
returns-in_err-is_text c =
    let f = c.in_err-is_text.field-0.0 in
    record { told = handed _ _ _ f c.from_residual-in_err-is_text.ensures (text-first c.args.settings.now f c.in_ok-each_once.ensures.told.0 c.in_ok-size.ensures.told.0 c.in_ok-align.ensures.told.0 c.in_ok-is_signed.ensures.told.0 c.in_ok-base.ensures.told.0 c.in_ok-order.ensures.told.0 c.in_err-is_text.ensures.told) }
