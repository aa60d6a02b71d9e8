-- The line of the last token.
use Rattle.std.proofs.Common.{◌≡◌, suc, ◌-◌, ◌≤◌, List, [], ◌∷◌, length, get_or, ap, ◌∙◌, arith}
use Rattle.tsdl_text.specs.declared.token.Token.{Token}
use Rattle.tsdl_grammar.specs.Spelling.{last_line}

pub last_line_is : (ts : List Token) (t : Token) → 1 ≤ length ts → t ≡ get_or ts (length ts - 1) t → t.line ≡ last_line ts
last_line_is [] t le e = absurd (let never : ⊥ = omega arith in never)
last_line_is (u ∷ []) t le e = ap (λ (v : Token). v.line) e
last_line_is (u ∷ v ∷ ts) t le e =
    let k : length (u ∷ v ∷ ts) - 1 ≡ suc (length (v ∷ ts) - 1) = omega arith in
    last_line_is (v ∷ ts) t (omega arith) (e ∙ ap (λ i. get_or (u ∷ v ∷ ts) i t) k)
