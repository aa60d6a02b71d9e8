use Rattle.std.proofs.Common.{◌≡◌, ℕ, ◌<◌, List, length, get_or, unwrap_or}
use Rattle.std.specs.Ordering.{nat_cmp}
use Rattle.std.specs.Cmp.Lexicographic.{slice_cmp}
use Rattle.std.specs.BTreeMap.{get_by}
use Rattle.ctf_class.specs.Labels.{label_at}
use Rattle.ctf_class.specs.LabelSearch.{IsLast}
use Rattle.ctf_class.proofs.chain.chain_of.Given as goal

abbrev pub invariant-loop-place : goal.invariant-loop-place
invariant-loop-place l = record {
  count : length l.earlier.items ≡ l.place;
  links : (k : ℕ) → k < l.place → IsLast l.labels k (label_at l.labels k).name (get_or l.earlier.items k 0);
  lasts : (name : List ℕ) → IsLast l.labels l.place name (unwrap_or (get_by (λ key. slice_cmp nat_cmp name key.items) l.lasts) 0);
}
