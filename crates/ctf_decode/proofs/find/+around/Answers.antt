use Rattle.std.proofs.Common.{◌≡◌, List, map, slice_get, ℕ, suc, ◌-◌, ◌<◌, ◌∷◌, ◌∙◌, ap, sym, subst, refl, arith}
use Rattle.ctf_decode.specs.Values.{Val}
use Rattle.ctf_decode.specs.Views.{val, env}
use Rattle.ctf_decode.proofs.Views.{env-Within}
use Rattle.ctf_decode.proofs.find.+around.Goals as goal

get_further : (x : List Val) (xs : List (List Val)) (n : ℕ) → 0 < n → slice_get xs (n - 1) ≡ slice_get (x ∷ xs) n
get_further x xs n h = let e : n ≡ suc (n - 1) = omega arith in subst (λ m. slice_get xs (n - 1) ≡ slice_get (x ∷ xs) m) (sym e) refl

pub returns-else-out-eq0 : goal.returns-else-out-eq0
returns-else-out-eq0 t c =
    let e = ap env c.in-Within.is ∙ env-Within c.in-Within.values c.in-Within.outer in
    let up : 0 < c.args.out = omega arith in
    c.around.ensures ∙ get_further (map val c.in-Within.values.now) (env c.in-Within.outer.now) c.args.out up ∙ ap (λ xs. slice_get xs c.args.out) (sym e)
