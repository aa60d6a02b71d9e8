-- Times below and above 0, and times since others.
use Rattle.std.proofs.Common.{◌≡◌, ◌<◌, ◌/◌, ◌%◌, ℕ, ℤ, pos, negsuc, ◌<ℤ◌, ◌≤ℤ◌, unsigned_abs, ◌-ℤ◌, Option, Some, None, codes, [], ◌∷◌, ◌++◌, sym, ap, ◌∙◌, arith}
use Rattle.std.proofs.lemmas.Int.{ints}
use Rattle.std.specs.Fmt.{decimal}
use Rattle.std.proofs.lemmas.Fmt.{decimal_digit}
use Rattle.ctf_timestamp.specs.Digits.{last_digits, seconds_text}
use Rattle.ctf_timestamp.specs.Stamps.{signed_seconds, delta_text}

pub below : (t : ℤ) (n : ℕ) → n ≡ unsigned_abs t → t <ℤ pos 0 → (45 ∷ []) ++ seconds_text n ≡ signed_seconds t
unfolding signed_seconds
below (pos m) n e h = absurd (omega (arith, ints))
below (negsuc m) n e h = ap (λ k. (45 ∷ []) ++ seconds_text k) e

pub above : (t : ℤ) (n : ℕ) → n ≡ unsigned_abs t → pos 0 ≤ℤ t → seconds_text n ≡ signed_seconds t
unfolding signed_seconds
above (pos m) n e h = ap seconds_text e
above (negsuc m) n e h = absurd (omega (arith, ints))

pub since_none : (last : Option ℤ) (t : ℤ) → last ≡ None → codes "+?.?????????" ≡ delta_text last t
unfolding delta_text
since_none last t e = ap (λ o. delta_text o t) (sym e)

pub since_some : (last : Option ℤ) (t b : ℤ) (n : ℕ) → last ≡ Some b → n ≡ unsigned_abs (t -ℤ b) → (43 ∷ []) ++ seconds_text n ≡ delta_text last t
unfolding delta_text
since_some last t b n e h = ap (λ k. (43 ∷ []) ++ seconds_text k) h ∙ ap (λ o. delta_text o t) (sym e)

-- below a second
short_text : (n : ℕ) → n < 1000000000 → seconds_text n ≡ 48 ∷ 46 ∷ last_digits 9 n
unfolding seconds_text
short_text n few =
    let whole : n / 1000000000 ≡ 0 = omega (arith, few) in
    let rest : n % 1000000000 ≡ n = omega (arith, few) in
    ap (λ m. (decimal m ++ 46 ∷ []) ++ last_digits 9 (n % 1000000000)) whole
    ∙ (ap (λ ds. (ds ++ 46 ∷ []) ++ last_digits 9 (n % 1000000000)) (decimal_digit 0 (omega arith)) ∙ ap (λ m. 48 ∷ 46 ∷ last_digits 9 m) rest)

pub since_short : (last : Option ℤ) (t b : ℤ) (n : ℕ) → last ≡ Some b → n ≡ unsigned_abs (t -ℤ b) → n < 1000000000 → delta_text last t ≡ 43 ∷ 48 ∷ 46 ∷ last_digits 9 n
since_short last t b n e h few = sym (since_some last t b n e h) ∙ ap (λ xs. 43 ∷ xs) (short_text n few)
