-- Texts one after the other.
use Rattle.std.proofs.Common.{◌≡◌, ◌+◌, ◌≤◌, ℕ, List, ◌++◌, length, take, sym, ap, subst, ◌∙◌, append_assoc, length-append, arith}
use Rattle.std.proofs.lemmas.List.{take-take, take_at, length-take-le}
use Rattle.ctf_timestamp.specs.Putting.{IsPut}

pub put_both : {a b c : List ℕ} {i j k : ℕ} {s t : List ℕ} → IsPut a b i j s → IsPut b c j k t → IsPut a c i k (s ++ t)
put_both {a} {b} {c} {i} {j} {k} {s} {t} p q = record {
  ends = omega (arith, p.ends, q.ends, length-append s t);
  stands = q.stands ∙ ap (λ x. x ++ t) p.stands ∙ append_assoc (take i a) s t;
}

pub put_as : {a b : List ℕ} {i j : ℕ} {s t : List ℕ} → IsPut a b i j s → s ≡ t → IsPut a b i j t
put_as {a} {b} {i} {j} p e = subst (IsPut a b i j) e p

-- the first of two texts that were put as one
pub put_front : {a b : List ℕ} {i j k : ℕ} (s t : List ℕ) → IsPut a b i j (s ++ t) → i ≤ length a → k ≡ i + length s → IsPut a b i k s
put_front {a} {b} {i} {j} {k} s t p held end =
    let long : length (take i a ++ s) ≡ k = omega (arith, end, length-append (take i a) s, length-take-le i a held) in
    let within : k ≤ j = omega (arith, p.ends, end, length-append s t) in
    record {
      ends = end;
      stands = sym (take-take k j b within) ∙ (ap (take k) (p.stands ∙ sym (append_assoc (take i a) s t)) ∙ take_at (take i a ++ s) t k long);
    }
