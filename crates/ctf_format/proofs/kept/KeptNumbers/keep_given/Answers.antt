use Rattle.std.proofs.Common.{◌≡◌, ◌+◌, ◌<◌, ◌∷◌, ◌++◌, ◌∙◌, [], length, length-append, take, ap, subst, sym, arith, rules}
use Rattle.std.proofs.lemmas.List.{take_more}
use Rattle.ctf_format.specs.Kept.{Knows}
use Rattle.ctf_format.proofs.KeptLemmas.{knows_and}
use Rattle.ctf_format.proofs.kept.KeptNumbers.keep_given.Goals as goal

pub loop-route-preserved : goal.loop-route-preserved
loop-route-preserved c =
    let rs = c.args.given.now in
    let i = c.loop-route.route-index in
    let r = c.route-item.result in
    let ns = c.loop-route.self.numbers in
    let n = c.given_number.result in
    let met = take i rs in
    let within : i < length rs = search (rules, arith) in
    let same : length met ≡ length ns = c.loop-route.invariant.0 in
    let more : take (i + 1) rs ≡ met ++ r ∷ [] = take_more rs i r within ∙ ap (λ x. met ++ x ∷ []) (sym c.route-item.is) in
    let pushed : c.push.new.self ≡ ns ++ n ∷ [] = search rules in
    let lengths = ap length more ∙ length-append met (r ∷ []) ∙ ap (λ k. k + 1) same ∙ sym (length-append ns (n ∷ [])) ∙ ap length (sym pushed) in (
      lengths,
      λ earlier shares. subst (λ xs. Knows xs c.push.new.self earlier []) (sym more)
          (subst (λ xs. Knows (met ++ r ∷ []) xs earlier []) (sym pushed) (knows_and met ns r n earlier [] same (c.loop-route.invariant.1 earlier shares) (c.given_number.ensures earlier shares))),
    )
