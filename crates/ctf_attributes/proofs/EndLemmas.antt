-- Texts with a beginning or an end.
use Rattle.std.proofs.Common.{◌≡◌, ℕ, ◌+◌, ◌-◌, nat_eq, Bool, true, false, ◌&&◌, if◌then◌else◌, [], ◌∷◌, ◌++◌, take, drop, length, reverse, Option, Some, None, option_map, unwrap_or, option_copied, MatchOption, Bor, length-append, refl, sym, ap, ◌∙◌, arith}
use Rattle.std.proofs.Math.Seq.{drop-append_seam}
use Rattle.std.proofs.lemmas.List.{take-append-drop, reverse-append, reverse-reverse}
use Rattle.std.proofs.lemmas.Bool.{eq-eqb, eqb-true}
use mathlib.Core.Bool.{true≢false}
use lib.Pointwise.{pointwise, bytes_decides}
use Rattle.ctf_meaning.specs.Name.{Word}
use Rattle.ctf_meaning.specs.Integers.{after}

turned : (a b : ℕ) (s t : Bool) → nat_eq a b ≡ s → nat_eq b a ≡ t → s ≡ t
turned a b true true h k = refl
turned a b true false h k = sym (eq-eqb b a (sym (eqb-true a b h))) ∙ k
turned a b false true h k = sym h ∙ eq-eqb a b (sym (eqb-true b a k))
turned a b false false h k = refl

nat_eq-turned : (a b : ℕ) → nat_eq a b ≡ nat_eq b a
nat_eq-turned a b = turned a b (nat_eq a b) (nat_eq b a) refl refl

-- what is after a beginning is cut off by its length
cut : Bool → Word → Option Word
cut true rest = Some rest
cut false rest = None

cut-and : (s p : Bool) (rest : Word) → (if s then cut p rest else None) ≡ cut (s && p) rest
unfolding cut
cut-and true p rest = refl
cut-and false p rest = refl

after-cut : (p t : Word) → after p t ≡ cut (pointwise nat_eq (take (length p) t) p) (drop (length p) t)
unfolding cut
after-cut [] t = refl
after-cut (b ∷ bs) [] = refl
after-cut (b ∷ bs) (c ∷ cs) =
    let same = pointwise nat_eq (take (length bs) cs) bs in
    let rest = drop (length bs) cs in
    ap (λ r. if nat_eq b c then r else None) (after-cut bs cs) ∙ (cut-and (nat_eq b c) same rest ∙ ap (λ s. cut (s && same) rest) (nat_eq-turned b c))

pub after-of : (p t : Word) (r : Option (Bor Word)) → MatchOption r (pointwise nat_eq (take (length p) t) p ≡ false) (λ x. (pointwise nat_eq (take (length p) t) p ≡ true) × (x.now ≡ drop (length p) t) × (length x.now + length p ≡ length t)) → option_copied r ≡ after p t
unfolding cut
after-of p t None h = sym (after-cut p t ∙ ap (λ b. cut b (drop (length p) t)) h)
after-of p t (Some x) h = ap (λ xs. Some xs) h.1 ∙ sym (after-cut p t ∙ ap (λ b. cut b (drop (length p) t)) h.0)

some-is : Option Word → Bool
some-is None = false
some-is (Some x) = true

none-some : {y : Word} → None ≡ Some y → ⊥
unfolding some-is
none-some h = true≢false (sym (ap some-is h))

after-append : (p r : Word) → after p (p ++ r) ≡ Some r
after-append [] r = refl
after-append (b ∷ bs) r = ap (λ s. if s then after bs (bs ++ r) else None) (eq-eqb b b refl) ∙ after-append bs r

begins : (b c : ℕ) (s : Bool) (o : Option Word) (y : Word) → nat_eq b c ≡ s → (if s then o else None) ≡ Some y → (b ≡ c) × (o ≡ Some y)
begins b c true o y same h = (eqb-true b c same, h)
begins b c false o y same h = absurd (none-some h)

after-some : (p t y : Word) → after p t ≡ Some y → t ≡ p ++ y
after-some [] t y h = ap (λ o. unwrap_or o t) h
after-some (b ∷ bs) [] y h = absurd (none-some h)
after-some (b ∷ bs) (c ∷ cs) y h =
    let both = begins b c (nat_eq b c) (after bs cs) y refl h in
    ap (λ x. x ∷ cs) (sym both.0) ∙ ap (λ xs. b ∷ xs) (after-some bs cs y both.1)

ends-drop : (z s : Word) → drop (length (z ++ s) - length s) (z ++ s) ≡ s
ends-drop z s =
    let cutting : length (z ++ s) - length s ≡ length z = omega (arith, length-append z s) in
    ap (λ k. drop k (z ++ s)) cutting ∙ drop-append_seam z s

gone : (s t : Word) (r : Option Word) → after (reverse s) (reverse t) ≡ r → pointwise nat_eq (drop (length t - length s) t) s ≡ false → option_map reverse r ≡ None
gone s t None e h = refl
gone s t (Some y) e h =
    let whole : t ≡ reverse y ++ s = sym (reverse-reverse t) ∙ (ap reverse (after-some (reverse s) (reverse t) y e) ∙ (reverse-append (reverse s) y ∙ ap (λ u. reverse y ++ u) (reverse-reverse s))) in
    let end : drop (length t - length s) t ≡ s = ap (λ u. drop (length u - length s) u) whole ∙ ends-drop (reverse y) s in
    absurd (true≢false (sym ((bytes_decides (drop (length t - length s) t) s).1 end) ∙ h))

pub before-of : (s t : Word) (r : Option (Bor Word)) → MatchOption r (pointwise nat_eq (drop (length t - length s) t) s ≡ false) (λ x. (pointwise nat_eq (drop (length t - length s) t) s ≡ true) × (x.now ≡ take (length t - length s) t) × (length x.now + length s ≡ length t)) → option_copied r ≡ option_map reverse (after (reverse s) (reverse t))
before-of s t None h = sym (gone s t (after (reverse s) (reverse t)) refl h)
before-of s t (Some x) h =
    let end = (bytes_decides (drop (length t - length s) t) s).0 h.0 in
    let whole : t ≡ x.now ++ s = sym (take-append-drop (length t - length s) t) ∙ (ap (λ u. u ++ drop (length t - length s) t) (sym h.1) ∙ ap (λ u. x.now ++ u) end) in
    let turned-whole : reverse t ≡ reverse s ++ reverse x.now = ap reverse whole ∙ reverse-append x.now s in
    sym (ap (λ u. option_map reverse (after (reverse s) u)) turned-whole ∙ (ap (option_map reverse) (after-append (reverse s) (reverse x.now)) ∙ ap (λ u. Some u) (reverse-reverse x.now)))
