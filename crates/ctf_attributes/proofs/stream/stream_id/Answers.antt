use Rattle.ctf_attributes.proofs.FirstLemmas.{still, handed-first, first-after}
use Rattle.ctf_attributes.proofs.stream.stream_id.Goals as goal

pub returns-in_err-check_stream : goal.returns-in_err-check_stream
returns-in_err-check_stream c =
    let f = c.in_err-check_stream.field-0.0 in
    record { told = handed-first _ _ _ f c.from_residual.ensures (still _ _ f c.in_err-check_stream.ensures.told) }

pub returns : goal.returns
returns c = record { told = first-after _ _ _ c.id.result c.in_ok-check_stream.ensures.told.0 c.id.ensures.told }
