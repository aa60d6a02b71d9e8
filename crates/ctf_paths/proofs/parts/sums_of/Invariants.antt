use Rattle.std.proofs.Common.{◌≡◌, ◌+◌, max, drop}
use Rattle.ctf_paths.specs.Telling.{depth_in, nodes_in}
use Rattle.ctf_paths.proofs.parts.sums_of.Given as goal

abbrev pub invariant-loop-member : goal.invariant-loop-member
invariant-loop-member l = record {
  depth : max l.depth (depth_in (drop l.member-index l.members)) ≡ depth_in l.members;
  nodes : l.nodes + nodes_in (drop l.member-index l.members) ≡ nodes_in l.members;
}
