-- What `byteorder` reads is the number of the bits.
use Rattle.std.proofs.Common.{◌≡◌, ℕ, zero, suc, ◌+◌, ◌*◌, ◌^◌, ◌<◌, List, refl, ap, sym, ◌∙◌, arith}
use Rattle.std.specs.Prelude.{slice_index}
use Rattle.std.proofs.Math.Nat.{pow-suc}
use Rattle.std.proofs.lemmas.Nat.{pow-add}
use Rattle.byteorder.specs.Endian.{big_from, little_from}
use Rattle.ctf_bits.specs.declared.number.Order.TheVariants.{Le, Be}
use Rattle.ctf_bits.specs.Number.{number}
use Rattle.ctf_bits.proofs.Numbers.{number-zero}
use Rattle.ctf_bits.proofs.Joins.{join-le, join-be, whole_byte-le, whole_byte-be}

pow-bytes : (k : ℕ) → 2 ^ (8 * k) ≡ 256 ^ k
pow-bytes zero = refl
pow-bytes (suc k) =
    let one_more : 8 * suc k ≡ 8 * k + 8 = omega arith in
    ap (λ (j : ℕ). 2 ^ j) one_more ∙ pow-add 2 (8 * k) 8 ∙ ap (λ (j : ℕ). j * 256) (pow-bytes k) ∙ sym (pow-suc 256 k)

pub little_from-number : (bytes : List ℕ) (i k : ℕ) → ((j : ℕ) → slice_index bytes j < 256) → little_from i k bytes ≡ number Le bytes (8 * i) (8 * k)
little_from-number bytes i zero below = sym (number-zero Le bytes (8 * i))
little_from-number bytes i (suc k) below =
    let bits : 8 * suc k ≡ 8 + 8 * k = omega arith in
    let next : 8 * suc i ≡ 8 * i + 8 = omega arith in
    let rest : little_from (suc i) k bytes ≡ number Le bytes (8 * i + 8) (8 * k) =
    little_from-number bytes (suc i) k below ∙ ap (λ (p : ℕ). number Le bytes p (8 * k)) next in
    rw (bits, join-le bytes (8 * i) 8 (8 * k), whole_byte-le bytes i (below i), rest) (omega arith)

pub big_from-number : (bytes : List ℕ) (i k : ℕ) → ((j : ℕ) → slice_index bytes j < 256) → big_from i k bytes ≡ number Be bytes (8 * i) (8 * k)
big_from-number bytes i zero below = sym (number-zero Be bytes (8 * i))
big_from-number bytes i (suc k) below =
    let bits : 8 * suc k ≡ 8 + 8 * k = omega arith in
    let next : 8 * suc i ≡ 8 * i + 8 = omega arith in
    let rest : big_from (suc i) k bytes ≡ number Be bytes (8 * i + 8) (8 * k) =
    big_from-number bytes (suc i) k below ∙ ap (λ (p : ℕ). number Be bytes p (8 * k)) next in
    rw (bits, join-be bytes (8 * i) 8 (8 * k), whole_byte-be bytes i (below i), pow-bytes k, rest) refl
