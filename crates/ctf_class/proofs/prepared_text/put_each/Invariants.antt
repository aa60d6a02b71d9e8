use Rattle.std.proofs.Common.{◌≡◌, ◌+◌, ◌*◌, ◌++◌, take}
use Rattle.std.specs.Int.{w64, to_le_bytes}
use Rattle.std.specs.List.{flat_map}
use Rattle.ctf_class.proofs.prepared_text.put_each.Given as goal

-- the words before this one are written
abbrev pub invariant-loop-word : goal.invariant-loop-word
invariant-loop-word l = record {
  counted : l.to ≡ l.at + 8 * l.word-index;
  written : take l.to l.line ≡ take l.at l.fn.line ++ flat_map (to_le_bytes w64) (take l.word-index l.words);
}
