use Rattle.ctf_attributes.proofs.FirstLemmas.{still, after, both, handed, handed-told, told-after}
use Rattle.ctf_attributes.proofs.trace.TraceSettings.read.Goals as goal

pub returns-in_err-check_trace : goal.returns-in_err-check_trace
returns-in_err-check_trace c =
    let f = c.in_err-check_trace.field-0.0 in
    record { told = handed _ _ _ f c.from_residual.ensures (still _ _ f c.in_err-check_trace.ensures.told) }

pub returns-in_err-check_number : goal.returns-in_err-check_number
returns-in_err-check_number c =
    let f = c.in_err-check_number.field-0.0 in
    record { told = handed _ _ _ f c.from_residual-in_err-check_number.ensures (after _ _ f c.in_ok-check_trace.ensures.told.0 (still _ _ f (still _ _ f (still _ _ f c.in_err-check_number.ensures.told)))) }

pub returns-in_err-check_number-2 : goal.returns-in_err-check_number-2
returns-in_err-check_number-2 c =
    let f = c.in_err-check_number-2.field-0.0 in
    record {
      told = handed _ _ _ f c.from_residual-in_err-check_number-2.ensures
          (after _ _ f c.in_ok-check_trace.ensures.told.0 (still _ _ f (still _ _ f (after _ _ f c.in_ok-check_number.ensures.told.0 c.in_err-check_number-2.ensures.told))));
    }

pub returns-in_err-order : goal.returns-in_err-order
returns-in_err-order c =
    let f = c.in_err-order.field-0.0 in
    let version = both _ _ c.in_ok-check_number.ensures.told.0 c.in_ok-check_number-2.ensures.told.0 in
    record { told = handed _ _ _ f c.from_residual-in_err-order.ensures (after _ _ f c.in_ok-check_trace.ensures.told.0 (still _ _ f (after _ _ f version c.in_err-order.ensures.told))) }

pub returns-in_err-uuid : goal.returns-in_err-uuid
returns-in_err-uuid c =
    let f = c.in_err-uuid.field-0.0 in
    let version = both _ _ c.in_ok-check_number.ensures.told.0 c.in_ok-check_number-2.ensures.told.0 in
    record {
      told = handed-told _ _ _ f c.from_residual-in_err-uuid.ensures
          (told-after _ _ f c.in_ok-check_trace.ensures.told.0 (told-after _ _ f (both _ _ version c.in_ok-order.ensures.told.0) c.in_err-uuid.ensures.told));
    }

pub returns : goal.returns
returns c =
    let version = both _ _ c.in_ok-check_number.ensures.told.0 c.in_ok-check_number-2.ensures.told.0 in
    record {
      told = (
        both _ _ c.in_ok-check_trace.ensures.told.0 (both _ _ (both _ _ version c.in_ok-order.ensures.told.0) c.in_ok-uuid.ensures.told.0),
        record { order = c.in_ok-order.ensures.told.1; uuid = c.in_ok-uuid.ensures.told.1 },
      );
    }
