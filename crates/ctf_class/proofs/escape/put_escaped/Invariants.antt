use Rattle.std.proofs.Common.{◌≡◌, ◌++◌, ◌≤◌, take}
use Rattle.std.specs.List.{slice_range}
use Rattle.ctf_class.specs.Escapes.{escaped}
use Rattle.ctf_class.proofs.escape.put_escaped.Given as goal

-- all before `start` is appended, and what is from there on is shown as it is
abbrev pub invariant-loop-place : goal.invariant-loop-place
invariant-loop-place l = record {
  after : l.start ≤ l.place;
  shown : l.text.items ++ slice_range l.bytes l.start l.place ≡ l.fn.text.items ++ escaped (take l.place l.bytes);
}
