use Rattle.std.proofs.Common.{◌≡◌, ◌++◌, ◌+◌, ◌^◌, drop, false, pos, ◌≤ℤ◌}
use Rattle.std.specs.List.{list_any}
use Rattle.ctf_meaning.specs.Labels.{labels_of, labels_from, goes_backwards}
use Rattle.ctf_attributes.specs.Spans.{is_numberless}
use Rattle.ctf_attributes.proofs.labelled.labels.Given as goal

abbrev pub invariant-loop-label : goal.invariant-loop-label
invariant-loop-label l = record {
  so_far : labels_of l.labels ≡ l.numbered ++ labels_from l.next (drop l.label-index l.labels);
  numbers : list_any (λ w. is_numberless w.span) l.labels ≡ list_any (λ w. is_numberless w.span) (drop l.label-index l.labels);
  forward : list_any goes_backwards l.numbered ≡ false;
  bounded : l.next ≤ℤ pos (2 ^ 64 + l.label-index);
}
