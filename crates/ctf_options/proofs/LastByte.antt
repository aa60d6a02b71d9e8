-- The last byte of a text.
use Rattle.std.proofs.Common.{◌≡◌, ◌≢◌, ◌<◌, ◌-◌, ◌==◌, ◌∙◌, ℕ, suc, cond, List, [], ◌∷◌, ◌++◌, length, take, drop, Option, Some, None, refl, sym, ap, ap₂, arith, slice_index, MatchOption, drop-cons, drop_of_length-le, length-append}
use Rattle.std.proofs.lemmas.Grind.{common_steps}
use Rattle.std.proofs.lemmas.List.{get_or-append_right, take-append-drop}
use Rattle.std.proofs.Math.Seq.{take-append_seam}
use Rattle.std.specs.Borrow.{Bor}
use Rattle.ctf_options.specs.Asked.{unbracketed, given}

-- a text that ends with a byte is what is before the byte, and the byte
last_is : (text : List ℕ) (byte : ℕ) → 0 < length text → slice_index text (length text - 1) ≡ byte → text ≡ take (length text - 1) text ++ (byte ∷ [])
last_is text byte some e =
    let rest : drop (length text - 1) text ≡ byte ∷ [] = drop-cons text (length text - 1) 0 (omega arith)
    ∙ ap₂ (λ x xs. x ∷ xs) e (drop_of_length-le text {i = suc (length text - 1)} (omega arith)) in
    sym (take-append-drop (length text - 1) text) ∙ ap (λ xs. take (length text - 1) text ++ xs) rest

not_closed : (rest : List ℕ) → ((front : List ℕ) → rest ≢ front ++ (93 ∷ [])) → slice_index rest (length rest - 1) ≢ 93
not_closed [] h e = omega (arith, e)
not_closed (c ∷ cs) h e = h _ (last_is (c ∷ cs) 93 (omega arith) e)

within : (front : List ℕ) → cond (slice_index (front ++ (93 ∷ [])) (length (front ++ (93 ∷ [])) - 1) == 93)
    (Some (take (length (front ++ (93 ∷ [])) - 1) (front ++ (93 ∷ [])))) None ≡ Some front
within front =
    let n : length (front ++ (93 ∷ [])) - 1 ≡ length front = omega (arith, length-append front (93 ∷ [])) in
    let last : slice_index (front ++ (93 ∷ [])) (length front) ≡ 93 = rw (get_or-append_right front (93 ∷ []) (length front) (length front) 0 refl (omega arith)) (grind (arith, common_steps)) in
    rw (n, last, take-append_seam front (93 ∷ [])) refl

closed : (rest : List ℕ) (r : Option (Bor (List ℕ)))
    → MatchOption r ((front : List ℕ) → rest ≢ front ++ (93 ∷ [])) (λ x. rest ≡ x.now ++ (93 ∷ []))
    → given r ≡ cond (slice_index rest (length rest - 1) == 93) (Some (take (length rest - 1) rest)) None
closed rest None h = grind (arith, common_steps, not_closed rest h)
closed rest (Some x) h = rw h (sym (within x.now))

-- after a bracket the text has to end with one
pub bracketed : (text rest : List ℕ) (r : Option (Bor (List ℕ))) → text ≡ 91 ∷ rest
    → MatchOption r ((front : List ℕ) → rest ≢ front ++ (93 ∷ [])) (λ x. rest ≡ x.now ++ (93 ∷ []))
    → given r ≡ unbracketed text
bracketed text rest r e h = rw e (closed rest r h)

-- a text without a bracket in front
pub plain : (text : List ℕ) → ((rest : List ℕ) → text ≢ 91 ∷ rest) → Some text ≡ unbracketed text
plain [] h = refl
plain (c ∷ cs) h = unlike (λ e. h cs (ap (λ b. b ∷ cs) e))
  where
    unlike : c ≢ 91 → Some (c ∷ cs) ≡ unbracketed (c ∷ cs)
    unlike other = grind (arith, common_steps, other)
