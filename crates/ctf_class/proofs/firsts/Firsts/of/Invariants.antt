use Rattle.std.proofs.Common.{◌≡◌, ℕ, List, take}
use Rattle.std.specs.List.{position_from}
use Rattle.std.specs.Ordering.{nat_cmp}
use Rattle.std.specs.Cmp.Lexicographic.{slice_cmp}
use Rattle.std.specs.BTreeMap.{get_by}
use Rattle.std.specs.Str.{bytes_eq}
use Rattle.ctf_class.specs.SameNames.{has_twins}
use Rattle.ctf_class.proofs.firsts.Firsts.of.Given as goal

abbrev pub invariant-loop-place : goal.invariant-loop-place
invariant-loop-place l = record {
  places : (word : List ℕ) → get_by (λ key. slice_cmp nat_cmp word key.items) l.places ≡ position_from (λ w. bytes_eq w word) 0 (take l.place l.names);
  twins : l.has_twins ≡ has_twins bytes_eq (take l.place l.names);
}
