use Rattle.std.proofs.Common.{◌+◌, take, set, length-set, sym, ap, ◌∙◌, arith}
use Rattle.ctf_format.proofs.WindowLemmas.{quoted, windows_written}
use Rattle.ctf_format.proofs.window.put_longer.Goals as goal

pub returns : goal.returns
returns c =
    let line = c.as_mut_slice-line.result.now in
    let long = length-set line c.args.at 34 in
    let bytes = c.args.bytes.now in
    let first = c.put_window.new.line in
    let both = c.put_window-2.new.line in
    let front = ap (λ n. take n first) (sym c.put_window.ensures.end) ∙ c.put_window.ensures.text in
    let wrote = windows_written bytes (set line c.args.at 34) first (take c.put_window-2.result both) (c.args.at + 1) 16 c.args.count (omega arith) (omega arith) (omega arith) front c.put_window-2.ensures.text in
    record {
      text = quoted (take c.args.count bytes) c.args.buffer.now.items line both c.args.at c.put_window-2.result c.args.buffer.now.len
          c.as_mut_slice-line.ensures.value (omega arith) (omega arith) (omega arith) c.requires.plain wrote;
      held = omega arith;
    }
