use Rattle.std.proofs.Common.{arith}
use Rattle.ctf_format.proofs.WindowLemmas.{first_zero}
use Rattle.ctf_format.proofs.window.count_long.Goals as goal

pub returns-clause-first : goal.returns-clause-first
returns-clause-first c = first_zero c.args.bytes.now c.count_all_plain-count.result c.count_all_plain-count.ensures.plain (omega arith) c.if-bytes-count-ne0.false
