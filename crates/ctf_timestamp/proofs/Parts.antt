-- The beginning of a line, from its pieces.
use Rattle.std.proofs.Common.{◌≡◌, ℤ, true, false, if◌then◌else◌, Option, Some, List, [], ◌∷◌, ◌++◌, sym, ap, ◌∙◌, append_assoc}
use Rattle.ctf_clock.specs.declared.moment.Moment.{Moment}
use Rattle.ctf_timestamp.specs.Stamps.{stamp, stamp_part, delta_part, delta_text}
use Rattle.ctf_timestamp.specs.declared.style.Style.{Style}

pub end_plain : (style : Style) (last : Option ℤ) (t : ℤ) → style.delta ≡ false → 93 ∷ 32 ∷ [] ≡ 93 ∷ 32 ∷ delta_part style last t
unfolding delta_part
end_plain style last t e = ap (λ b. 93 ∷ 32 ∷ (if b then (40 ∷ [] ++ delta_text last t) ++ 41 ∷ 32 ∷ [] else [])) (sym e)

pub end_delta : (style : Style) (last : Option ℤ) (t : ℤ) (text : List _) → style.delta ≡ true → delta_text last t ≡ text
    → 93 ∷ 32 ∷ 40 ∷ (text ++ 41 ∷ 32 ∷ []) ≡ 93 ∷ 32 ∷ delta_part style last t
unfolding delta_part
end_delta style last t text e f =
    ap (λ d. 93 ∷ 32 ∷ 40 ∷ (d ++ 41 ∷ 32 ∷ [])) (sym f)
    ∙ ap (λ b. 93 ∷ 32 ∷ (if b then (40 ∷ [] ++ delta_text last t) ++ 41 ∷ 32 ∷ [] else [])) (sym e)

pub whole_part : (own style : Style) (moment : Option Moment) (m : Moment) (last : Option ℤ) (t : ℤ) → own ≡ style → moment ≡ Some m → t ≡ m.time
    → 91 ∷ stamp style m ++ 93 ∷ 32 ∷ delta_part own last t ≡ stamp_part style moment last
whole_part own style moment m last t o e h =
    ap (λ x. 91 ∷ stamp style m ++ 93 ∷ 32 ∷ delta_part x last t) o
    ∙ (ap (λ n. 91 ∷ stamp style m ++ 93 ∷ 32 ∷ delta_part style last n) h
    ∙ (sym (append_assoc (91 ∷ stamp style m) (93 ∷ 32 ∷ []) (delta_part style last m.time)) ∙ ap (λ o. stamp_part style o last) (sym e)))
