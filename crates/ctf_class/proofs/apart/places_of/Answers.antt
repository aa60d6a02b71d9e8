use Rattle.std.proofs.Common.{◌≡◌, ◌+◌, ◌++◌, ◌∷◌, [], sym, ap, ◌∙◌, arith}
use Rattle.std.specs.List.{range_with_len}
use Rattle.ctf_class.proofs.PlacesLemmas.{range_with_len-push}
use Rattle.ctf_class.proofs.apart.places_of.Goals as goal

pub loop-place-preserved : goal.loop-place-preserved
loop-place-preserved c =
    let i = c.loop-place.place in
    let same : i ≡ 0 + i = omega arith in
    c.in_ok-push.ensures.items
    ∙ (ap (λ xs. xs ++ i ∷ []) c.loop-place.invariant
    ∙ (ap (λ n. range_with_len 0 i ++ n ∷ []) same ∙ sym (range_with_len-push 0 i)))
