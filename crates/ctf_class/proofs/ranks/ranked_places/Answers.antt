use Rattle.std.proofs.Common.{◌≡◌, length, sym, subst, ◌∙◌, arith}
use Rattle.std.specs.List.{range_with_len}
use Rattle.std.specs.List.Sorted.{IsPermutation}
use Rattle.std.proofs.lemmas.List.{with_items_is}
use Rattle.ctf_class.proofs.ranks.ranked_places.Goals as goal

pub returns : goal.returns
returns c =
    let places = c.in_ok-places.places in
    let sorted = c.sort_unstable_by_key.new.self in
    let made : places.items ≡ range_with_len 0 (length c.args.names.now) = c.in_ok-places.ensures in
    let back : c.from_vec.result ≡ sorted = c.from_vec.ensures ∙ with_items_is places sorted (omega (arith, c.sort_unstable_by_key.ensures.len, c.as_mut_slice.ensures.len)) in
    subst (IsPermutation (range_with_len 0 (length c.args.names.now))) (sym back)
    (subst (λ xs. IsPermutation xs sorted) (c.as_mut_slice.ensures.value ∙ made) c.sort_unstable_by_key.ensures.permutation)
