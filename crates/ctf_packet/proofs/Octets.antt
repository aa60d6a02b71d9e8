-- Bytes beside the numbers of elements, one more at a time.
use Rattle.std.proofs.Common.{◌≡◌, ◌==◌, ◌&&◌, ℕ, suc, ◌+◌, ◌<◌, ◌≤◌, Bool, true, false, List, [], ◌∷◌, map, drop, length, nat_eq, get_or, refl, sym, ap, ◌∙◌, arith}
use Rattle.std.specs.Str.{bytes_eq}
use lib.Pointwise.{pointwise_long}
use Rattle.std.proofs.Math.Seq.{drop-cons}
use Rattle.std.proofs.lemmas.Bool.Decides.{nat_tests}
use Rattle.ctf_decode.specs.Values.{vals_of}
use Rattle.ctf_decode.specs.Views.{val}
use Rattle.ctf_decode.specs.declared.value.Value.{Value}
use Rattle.ctf_packet.specs.Roles.{octet, octets}
use Rattle.ctf_packet.proofs.Named.{here, drop-all}

abbrev pub same : List Value → List ℕ → Bool
same vs bs = bytes_eq (octets (vals_of (map val vs))) bs

read : (bs : List ℕ) (i : ℕ) → i < length bs → drop i bs ≡ get_or bs i 0 ∷ drop (i + 1) bs
read bs i h = let e : suc i ≡ i + 1 = omega arith in drop-cons bs i 0 h ∙ ap (λ k. get_or bs i 0 ∷ drop k bs) e

opens : (vs : List Value) (bs : List ℕ) (i : ℕ) (v : Value) → i < length vs → i < length bs → v ≡ get_or vs i v
    → same (drop i vs) (drop i bs) ≡ ((octet (val v) == get_or bs i 0) && same (drop (i + 1) vs) (drop (i + 1) bs))
opens vs bs i v l k e = λ j. same (here vs i v l e j) (read bs i k j)

pub same_next : (vs : List Value) (bs : List ℕ) (i : ℕ) (v : Value) → i < length vs → i < length bs → v ≡ get_or vs i v → octet (val v) ≡ get_or bs i 0
    → same (drop (i + 1) vs) (drop (i + 1) bs) ≡ same (drop i vs) (drop i bs)
same_next vs bs i v l k e h =
    let t : (octet (val v) == get_or bs i 0) ≡ true = grind (arith, nat_tests) in
    sym (opens vs bs i v l k e ∙ ap (λ x. x && same (drop (i + 1) vs) (drop (i + 1) bs)) t)

pub same_not : (vs : List Value) (bs : List ℕ) (i : ℕ) (v : Value) → i < length vs → i < length bs → v ≡ get_or vs i v → (octet (val v) ≡ get_or bs i 0 → ⊥)
    → false ≡ same (drop i vs) (drop i bs)
same_not vs bs i v l k e h =
    let t : (octet (val v) == get_or bs i 0) ≡ false = grind (arith, nat_tests) in
    sym (opens vs bs i v l k e ∙ ap (λ x. x && same (drop (i + 1) vs) (drop (i + 1) bs)) t)

long : (vs : List Value) → length (octets (vals_of (map val vs))) ≡ length vs
long [] = refl
long (v ∷ vs) = ap suc (long vs)

is_false : (b : Bool) → (b ≡ true → ⊥) → false ≡ b
is_false true h = absurd (h refl)
is_false false h = refl

pub other_length : (vs : List Value) (bs : List ℕ) → (length vs ≡ length bs → ⊥) → false ≡ same vs bs
other_length vs bs h = is_false (same vs bs) (λ t. h (sym (long vs) ∙ pointwise_long nat_eq (octets (vals_of (map val vs))) bs t))

pub none_left : (vs : List Value) (bs : List ℕ) (i : ℕ) → length vs ≤ i → length bs ≤ i → true ≡ same (drop i vs) (drop i bs)
none_left vs bs i l k = λ j. same (sym (drop-all vs i l) j) (sym (drop-all bs i k) j)
