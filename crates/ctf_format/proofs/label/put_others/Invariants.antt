use Rattle.std.proofs.Common.{◌≡◌, ◌++◌, ◌-◌, ◌≤◌, length, map, take, drop, vec_len}
use Rattle.ctf_class.specs.Names.{label_text}
use Rattle.ctf_format.specs.Labels.{names_after}
use Rattle.ctf_format.specs.Rows.{row}
use Rattle.ctf_format.proofs.label.put_others.Given as goal

abbrev pub invariant-loop-place : goal.invariant-loop-place
invariant-loop-place l = record {
  held : l.end ≤ vec_len l.buffer;
  text : take l.end l.buffer.items ++ row 44 (map label_text (names_after (take l.begin l.labels) (drop l.begin l.labels) l.number)) ≡ take l.fn.at l.fn.buffer.items ++ row 44 (map label_text (names_after (take l.from l.labels) (drop l.from l.labels) l.number));
}

abbrev pub decreases-loop-place : goal.decreases-loop-place
decreases-loop-place l = length l.labels - l.begin
