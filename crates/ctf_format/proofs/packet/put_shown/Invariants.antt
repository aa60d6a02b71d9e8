use Rattle.std.proofs.Common.{◌≡◌, ◌++◌, ◌≤◌, map, take, drop, vec_len}
use Rattle.ctf_decode.specs.Values.{vals_of}
use Rattle.ctf_decode.specs.Views.{val}
use Rattle.ctf_format.specs.Rows.{row}
use Rattle.ctf_format.specs.Lines.{shown_members}
use Rattle.ctf_format.proofs.packet.put_shown.Given as goal

abbrev pub invariant-loop-i : goal.invariant-loop-i
invariant-loop-i l = record {
  held : l.end ≤ vec_len l.buffer;
  text : take l.end l.buffer.items ++ row l.lead (shown_members (drop l.i l.members) (vals_of (map val (drop l.i l.values)))) ≡ take l.fn.at l.fn.buffer.items ++ row 123 (shown_members l.members (vals_of (map val l.values)));
}
