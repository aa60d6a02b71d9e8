-- A body, by one equation.
use Rattle.std.proofs.Common.{◌≡◌, ℕ, zero, suc, ◌-◌, List, Result, Ok, Err, refl, ap, arith}
use Rattle.tsdl_text.specs.declared.token.Symbol.TheVariants as s
use Rattle.tsdl_text.specs.declared.token.Token.{Token}
use Rattle.tsdl_tree.specs.declared.tree.Item.{Item}
use Rattle.tsdl_grammar.specs.Steps.{Refusal, deep, bad, ◌>>=◌, all, before_close, expect, open_at}
use Rattle.tsdl_grammar.specs.Reading.{item_at, body_at}

abbrev rest_of : ℕ → List Token → Result (List Item × List Token) Refusal
rest_of d inner = all before_close (item_at (body_at d) d) inner >>= λ es. expect s.CloseBrace es.1 >>= λ close. Ok (es.0, close)

closed : {A : Type 0} (r : Result (List Token) Refusal) (k : List Token → Result A Refusal) (l : List Token → Result A Refusal) → ((r >>= λ rest. Err deep) >>= k) ≡ ((r >>= λ rest. Err deep) >>= l)
closed (Ok x) k l = refl
closed (Err e) k l = refl

pub body_is : (d : ℕ) (ts : List Token) → body_at d ts ≡ (open_at d ts >>= λ inner. all before_close (item_at (body_at (d - 1)) (d - 1)) inner >>= λ es. expect s.CloseBrace es.1 >>= λ close. Ok (es.0, close))
unfolding body_at open_at
body_is zero ts = closed (expect s.OpenBrace ts) (λ inner. Err bad) (rest_of 0)
body_is (suc d) ts = let e : d ≡ suc d - 1 = omega arith in ap (λ k. open_at (suc d) ts >>= rest_of k) e
