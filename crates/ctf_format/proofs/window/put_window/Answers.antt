use Rattle.std.proofs.Common.{arith}
use Rattle.ctf_format.proofs.WindowLemmas.{window_written}
use Rattle.ctf_format.proofs.window.put_window.Goals as goal

pub returns-clause-text : goal.returns-clause-text
returns-clause-text c = window_written c.args.bytes.now c.args.line.now c.args.at c.args.count c.requires.window c.requires.few (omega (arith, c.requires.room))
