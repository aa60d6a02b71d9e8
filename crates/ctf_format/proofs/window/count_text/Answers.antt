use Rattle.std.proofs.Common.{arith}
use Rattle.ctf_format.proofs.WindowLemmas.{text_shown}
use Rattle.ctf_format.proofs.window.count_text.Goals as goal

pub returns-then-count-bytes-clause-shown : goal.returns-then-count-bytes-clause-shown
returns-then-count-bytes-clause-shown c =
    text_shown c.args.bytes.now c.count_all_plain-count.result c.count_all_plain-count.ensures.bounded c.count_all_plain-count.ensures.plain (λ inside. absurd (omega arith))

pub returns-clause-shown : goal.returns-clause-shown
returns-clause-shown c =
    text_shown c.args.bytes.now c.count_all_plain-count.result c.count_all_plain-count.ensures.bounded c.count_all_plain-count.ensures.plain (λ _. c.if-bytes-count-ne0.false)
