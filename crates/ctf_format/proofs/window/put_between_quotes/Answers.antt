use Rattle.std.proofs.Common.{◌+◌, set, length-set, arith}
use Rattle.ctf_format.proofs.WindowLemmas.{quoted, long_written}
use Rattle.ctf_format.proofs.window.put_between_quotes.Goals as goal

pub returns : goal.returns
returns c =
    let line = c.as_mut_slice-line.result.now in
    let long = length-set line c.args.at 34 in
    let bytes = c.args.bytes.now in
    let mid = c.put_bytes-end.new.line in
    let end = c.put_bytes-end.result in
    let closed = length-set mid end 34 in
    let wrote = long_written bytes (set line c.args.at 34) mid (c.args.at + 1) end c.put_bytes-end.ensures.end (omega arith) c.put_bytes-end.ensures.text in
    record {
      text = quoted bytes c.args.buffer.now.items line (set mid end 34) c.args.at (end + 1) c.args.buffer.now.len
          c.as_mut_slice-line.ensures.value (omega arith) (omega arith) (omega arith) c.requires.plain wrote;
      held = omega arith;
    }
