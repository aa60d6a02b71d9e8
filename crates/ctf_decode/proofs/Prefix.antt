-- What is in a beginning of a packet is in the whole.
use Rattle.std.proofs.Common.{◌≡◌, ℕ, zero, suc, ◌+◌, ◌-◌, ◌*◌, ◌/◌, ◌%◌, ◌^◌, ◌<◌, ◌≤◌, ◌-ℤ◌, Bool, cond, not, List, [], ◌∷◌, ◌++◌, length, take, drop, Option, Some, None, refl, sym, ap, subst, ◌∙◌, arith, nat_lt, nat_eq, pos, length-append, length-drop}
use Rattle.std.specs.Prelude.{position}
use Rattle.std.specs.List.{position_or_len, take_while}
use Rattle.std.specs.Int.{bit_at, next_multiple_of}
use Rattle.std.proofs.lemmas.Bool.{lt-ltb}
use Rattle.std.proofs.lemmas.List.{get_or_append_left, take-append-le, drop-append-le, length-take}
use Rattle.std.proofs.lemmas.List.Quantifiers.{position-Some}
use Rattle.std.proofs.lemmas.List.Sums.{position_or_len_is}
use Rattle.std.proofs.Math.Seq.{take-add}
use Rattle.ctf_bits.specs.declared.number.Order.{Order}
use Rattle.ctf_bits.specs.declared.number.Order.TheVariants.{Le, Be}
use Rattle.ctf_bits.specs.Number.{bit_of, top_bit, number, signed_number}
use Rattle.ctf_bits.proofs.Numbers.{number-zero, number-le, number-be}
use Rattle.ctf_class.specs.declared.route.Scope.{Scope}
use Rattle.ctf_class.specs.declared.integer.Integer.{Integer}
use Rattle.ctf_class.specs.Integers.{bits_of}
use Rattle.ctf_decode.specs.Values.{Val, unsigned, signed, label, text as text_val}
use Rattle.ctf_decode.specs.Forms.{Form, Parts, integer, enumeration, string, structure, variant, array, text, no_parts, part, align_of}
use Rattle.ctf_decode.specs.Input.{Input, Env, integer_at, label_at, bytes_from}
use Rattle.ctf_decode.specs.Routes.{length_of}
use Rattle.ctf_decode.specs.Stands.{Leaf, StandsString, text_in, StandsRow, Stands, StandsMembers, StandsOption}
use Rattle.ctf_decode.specs.Laws.{input_of}

bit_more : (o : Order) (bytes more : List ℕ) (k : ℕ) → k < 8 * length bytes → bit_of o bytes k ≡ bit_of o (bytes ++ more) k
bit_more Le bytes more k h = let l : k / 8 < length bytes = omega arith in ap (λ x. bit_at x (k % 8)) (sym (get_or_append_left bytes more 0 (k / 8) l))
bit_more Be bytes more k h = let l : k / 8 < length bytes = omega arith in ap (λ x. bit_at x (7 - k % 8)) (sym (get_or_append_left bytes more 0 (k / 8) l))

number_more : (o : Order) (bytes more : List ℕ) (p n : ℕ) → p + n ≤ 8 * length bytes → number o bytes p n ≡ number o (bytes ++ more) p n
number_more o bytes more p zero h = number-zero o bytes p ∙ sym (number-zero o (bytes ++ more) p)
number_more Le bytes more p (suc n) h =
    let one : suc n ≡ n + 1 = omega arith in
    let rest = number_more Le bytes more p n (omega arith) in
    let bit = bit_more Le bytes more (p + n) (omega arith) in
    ap (number Le bytes p) one ∙ number-le bytes p n ∙ (λ i. rest i + bit i * 2 ^ n) ∙ sym (number-le (bytes ++ more) p n) ∙ ap (number Le (bytes ++ more) p) (sym one)
number_more Be bytes more p (suc n) h =
    let one : suc n ≡ n + 1 = omega arith in
    let rest = number_more Be bytes more p n (omega arith) in
    let bit = bit_more Be bytes more (p + n) (omega arith) in
    ap (number Be bytes p) one ∙ number-be bytes p n ∙ (λ i. 2 * rest i + bit i) ∙ sym (number-be (bytes ++ more) p n) ∙ ap (number Be (bytes ++ more) p) (sym one)

top_more : (o : Order) (bytes more : List ℕ) (p n : ℕ) → 1 ≤ n → p + n ≤ 8 * length bytes → top_bit o bytes p n ≡ top_bit o (bytes ++ more) p n
top_more Le bytes more p n some h = bit_more Le bytes more (p + (n - 1)) (omega arith)
top_more Be bytes more p n some h = bit_more Be bytes more p (omega arith)

signed_more : (o : Order) (bytes more : List ℕ) (p n : ℕ) → 1 ≤ n → p + n ≤ 8 * length bytes → signed_number o bytes p n ≡ signed_number o (bytes ++ more) p n
unfolding signed_number
signed_more o bytes more p n some h =
    let number_is = number_more o bytes more p n h in
    let top_is = top_more o bytes more p n some h in
    λ i. pos (number_is i) -ℤ pos (top_is i * 2 ^ n)

position_append : (p : ℕ → Bool) (xs ys : List ℕ) (i : ℕ) → position p xs ≡ Some i → position p (xs ++ ys) ≡ Some i
position_append p xs ys i e =
    let s = position-Some p xs i 0 e in
    let l : i < length (xs ++ ys) = omega (arith, s.0, length-append xs ys) in
    let q : position_or_len p (xs ++ ys) ≡ i = position_or_len_is p (xs ++ ys) i 0 (omega (arith, l)) (λ k h. ap p (get_or_append_left xs ys 0 k (omega (arith, h, s.0))) ∙ s.2 k h) (λ h. ap p (get_or_append_left xs ys 0 i s.0) ∙ s.1) in
    subst (λ j. cond (nat_lt j (length (xs ++ ys))) (Some j) None ≡ Some i) (sym q) (subst (λ b. cond b (Some i) None ≡ Some i) (sym (lt-ltb i (length (xs ++ ys)) l)) refl)

row_more : (R S : ℕ → Val → ℕ → Type 0) → ((p : ℕ) (v : Val) (q : ℕ) → R p v q → S p v q) → (n : ℕ) (done : List Val) (p : ℕ) (vs : List Val) (q : ℕ) → StandsRow R n done p vs q → StandsRow S n done p vs q
row_more R S one zero done p vs q h = h
row_more R S one (suc n) done p vs q h = (h.0, h.1, one p h.0 h.1 h.2, row_more R S one n (done ++ h.0 ∷ []) h.1 vs q h.3)

module _ (packet more : List ℕ) (content whole limit : ℕ) (earlier : Scope → Option Val) (longer : content ≤ whole) (held : content ≤ 8 * length packet) where
  abbrev c : Input
  c = input_of packet content earlier limit

  abbrev d : Input
  d = input_of (packet ++ more) whole earlier limit

  integer_more : (i : Integer) (b : ℕ) → b + bits_of i ≤ content → integer_at c i b ≡ integer_at d i b
  integer_more i b h =
      let fits : b + bits_of i ≤ 8 * length packet = omega arith in
      let plain = number_more i.order packet more b (bits_of i) fits in
      let two = signed_more i.order packet more b (bits_of i) (omega arith) fits in
      λ j. cond i.is_signed (signed (two j)) (unsigned (plain j))

  label_more : (i : Integer) (b : ℕ) → b + bits_of i ≤ content → label_at c i b ≡ label_at d i b
  label_more i b h =
      let fits : b + bits_of i ≤ 8 * length packet = omega arith in
      let plain = number_more i.order packet more b (bits_of i) fits in
      let two = signed_more i.order packet more b (bits_of i) (omega arith) fits in
      λ j. label (cond i.is_signed (two j) (pos (plain j)))

  text_more : (b n : ℕ) → b + 8 * n ≤ content → text_in c b n ≡ text_in d b n
  text_more b n h =
      let j = b / 8 in
      let fits : j + n ≤ length packet = omega arith in
      let xs = drop j packet in
      let l : n ≤ length xs = omega (arith, length-drop j packet) in
      let e1 : drop j (packet ++ more) ≡ xs ++ more = drop-append-le j packet more (omega arith) in
      let e2 : take n (drop j (packet ++ more)) ≡ take n xs = ap (take n) e1 ∙ take-append-le n xs more l in
      sym (ap (λ (ys : List ℕ). text_val (take_while (λ x. not (nat_eq x 0)) ys)) e2)

  leaf_more : (e : ℕ) (w x v : Val) (q : ℕ) → (e ≤ content → w ≡ x) → Leaf c e w v q → Leaf d e x v q
  leaf_more e w x v q same h = record { value = h.value ∙ same h.within; ends = h.ends; within = omega (arith, h.within) }

  -- the bytes to the end of the whole begin as those to the end of the content
  pub bytes_more : (b : ℕ) → b ≤ content → (ys : List ℕ) × (bytes_from d b ≡ bytes_from c b ++ ys)
  bytes_more b h =
      let m = (content - b) / 8 in
      let n = (whole - b) / 8 in
      let j = b / 8 in
      let fits : j + m ≤ length packet = omega arith in
      let xs = drop j packet in
      let l : m ≤ length xs = omega (arith, length-drop j packet) in
      let k : n ≡ m + (n - m) = omega arith in
      let e1 : drop j (packet ++ more) ≡ xs ++ more = drop-append-le j packet more (omega arith) in
      let e2 : take n (drop j (packet ++ more)) ≡ take m (xs ++ more) ++ take (n - m) (drop m (xs ++ more)) = ap (take n) e1 ∙ ap (λ x. take x (xs ++ more)) k ∙ take-add m (n - m) (xs ++ more) in
      (take (n - m) (drop m (xs ++ more)), e2 ∙ ap (λ x. x ++ take (n - m) (drop m (xs ++ more))) (take-append-le m xs more l))

  -- a string that is there begins within the content
  string_within : (b : ℕ) (v : Val) (q : ℕ) → StandsString c b v q → b ≤ content
  string_within b v q t =
      let s = position-Some (λ x. nat_eq x 0) (bytes_from c b) t.n 0 t.first in
      let len = length-take ((content - b) / 8) (drop (b / 8) packet) in
      omega (arith, s.0, len)

  string_more : (b : ℕ) (v : Val) (q : ℕ) → StandsString c b v q → StandsString d b v q
  string_more b v q t =
      let g = bytes_more b (string_within b v q t) in
      let s = position-Some (λ x. nat_eq x 0) (bytes_from c b) t.n 0 t.first in
      let first : position (λ x. nat_eq x 0) (bytes_from d b) ≡ Some t.n = ap (position (λ x. nat_eq x 0)) g.1 ∙ position_append (λ x. nat_eq x 0) (bytes_from c b) g.0 t.n t.first in
      let value : v ≡ text_val (take t.n (bytes_from d b)) = t.value ∙ ap text_val (sym (ap (take t.n) g.1 ∙ take-append-le t.n (bytes_from c b) g.0 (omega (arith, s.0)))) in
      record { n = t.n; first = first; value = value; ends = t.ends }

  mutual
    pub stands_more : (k : Form) (env : Env) (p : ℕ) (v : Val) (q : ℕ) → Stands k c env p v q → Stands k d env p v q
    stands_more (integer a i) env p v q h =
        let b = next_multiple_of p a in leaf_more (b + bits_of i) (integer_at c i b) (integer_at d i b) v q (integer_more i b) h
    stands_more (enumeration a i) env p v q h =
        let b = next_multiple_of p a in leaf_more (b + bits_of i) (label_at c i b) (label_at d i b) v q (label_more i b) h
    stands_more (string a) env p v q h = string_more (next_multiple_of p 8) v q h
    stands_more (structure a ps) env p v q h =
        (omega (arith, h.0), (h.1.0, h.1.1, members_more ps env [] (next_multiple_of p a) h.1.0 q h.1.2))
    stands_more (variant a tag choices ps) env p v q h = (h.0, h.1, (h.2.0, h.2.1, option_more ps h.0 env p h.2.0 q h.2.2))
    stands_more (array a many k) env p v q h =
        (omega (arith, h.0), (h.1.0, h.1.1, row_more (Stands k c env) (Stands k d env) (λ p v q. stands_more k env p v q) (length_of many earlier env) [] (next_multiple_of p (align_of k)) h.1.0 q h.1.2))
    stands_more (text a many) env p v q h =
        let b = next_multiple_of p 8 in
        let n = length_of many earlier env in
        leaf_more (b + 8 * n) (text_in c b n) (text_in d b n) v q (text_more b n) h

    members_more : (ps : Parts) (env : Env) (done : List Val) (p : ℕ) (vs : List Val) (q : ℕ) → StandsMembers ps c env done p vs q → StandsMembers ps d env done p vs q
    members_more no_parts env done p vs q h = h
    members_more (part n k ps) env done p vs q h =
        (h.0, h.1, stands_more k (done ∷ env) p h.0 h.1 h.2, members_more ps env (done ++ h.0 ∷ []) h.1 vs q h.3)

    option_more : (ps : Parts) (i : ℕ) (env : Env) (p : ℕ) (v : Val) (q : ℕ) → StandsOption ps i c env p v q → StandsOption ps i d env p v q
    option_more no_parts i env p v q h = absurd h
    option_more (part n k ps) zero env p v q h = stands_more k env p v q h
    option_more (part n k ps) (suc i) env p v q h = option_more ps i env p v q h
