use Rattle.std.proofs.Common.{take, length-set, arith}
use Rattle.ctf_format.proofs.WindowLemmas.{quoted}
use Rattle.ctf_format.proofs.window.put_short.Goals as goal

pub returns : goal.returns
returns c =
    let line = c.as_mut_slice-line.result.now in
    let long = length-set line c.args.at 34 in
    record {
      text = quoted (take c.args.count c.args.bytes.now) c.args.buffer.now.items line c.put_window.new.line c.args.at c.put_window.result c.args.buffer.now.len
          c.as_mut_slice-line.ensures.value (omega arith) (omega arith) (omega arith) c.requires.plain c.put_window.ensures.text;
      held = omega arith;
    }
