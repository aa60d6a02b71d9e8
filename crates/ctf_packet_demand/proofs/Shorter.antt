-- A value that is in a packet is in each beginning that reaches its end.
use Rattle.std.proofs.Common.{◌≡◌, ℕ, zero, suc, ◌+◌, ◌-◌, ◌/◌, ◌<◌, ◌≤◌, Bool, cond, List, [], ◌∷◌, ◌++◌, length, take, drop, Option, Some, None, refl, sym, ap, subst, ◌∙◌, arith, nat_lt, nat_eq}
use Rattle.std.specs.Prelude.{position}
use Rattle.std.specs.Int.{next_multiple_of}
use Rattle.std.specs.List.{position_or_len}
use Rattle.std.proofs.lemmas.Bool.{lt-ltb}
use Rattle.std.proofs.lemmas.List.{length-take, get_or_append_left, take-append-le}
use Rattle.std.proofs.lemmas.List.Quantifiers.{position-Some}
use Rattle.std.proofs.lemmas.List.Sums.{position_or_len_is}
use Rattle.std.proofs.Math.Seq.{take-add}
use Rattle.ctf_class.specs.declared.route.Scope.{Scope}
use Rattle.ctf_decode.specs.Values.{Val, text as text_val}
use Rattle.ctf_decode.specs.Forms.{Form, Parts, integer, enumeration, string, structure, variant, array, text, no_parts, part, align_of}
use Rattle.ctf_decode.specs.Input.{Input, Env, bytes_from}
use Rattle.ctf_decode.specs.Routes.{length_of}
use Rattle.ctf_decode.specs.Stands.{Leaf, StandsString, StandsRow, Stands, StandsMembers, StandsOption}
use Rattle.ctf_decode.specs.Laws.{input_of}
use Rattle.ctf_packet.proofs.Forward.{forward, forward_members, row}

-- what is found in a beginning of a text, where it is found in the text before that ends
found_in : (p : ℕ → Bool) (xs ys : List ℕ) (i : ℕ) → position p (xs ++ ys) ≡ Some i → i < length xs → position p xs ≡ Some i
found_in p xs ys i e l =
    let s = position-Some p (xs ++ ys) i 0 e in
    let q : position_or_len p xs ≡ i = position_or_len_is p xs i 0 (omega (arith, l)) (λ k h. ap p (sym (get_or_append_left xs ys 0 k (omega (arith, h, l)))) ∙ s.2 k h) (λ h. ap p (sym (get_or_append_left xs ys 0 i l)) ∙ s.1) in
    subst (λ j. cond (nat_lt j (length xs)) (Some j) None ≡ Some i) (sym q) (subst (λ b. cond b (Some i) None ≡ Some i) (sym (lt-ltb i (length xs) l)) refl)

module _ (packet : List ℕ) (content shorter limit : ℕ) (earlier : Scope → Option Val) (within : shorter ≤ content) where
  abbrev c : Input
  c = input_of packet content earlier limit

  abbrev d : Input
  d = input_of packet shorter earlier limit

  string_to : (b : ℕ) (v : Val) (q : ℕ) → StandsString c b v q → q ≤ shorter → StandsString d b v q
  string_to b v q t l =
      let xs = drop (b / 8) packet in
      let m = (shorter - b) / 8 in
      let n = (content - b) / 8 in
      let s = position-Some (λ x. nat_eq x 0) (bytes_from c b) t.n 0 t.first in
      let ends = t.ends in
      let fits : t.n + 1 ≤ m = omega (arith, ends, l) in
      let more : n ≡ m + (n - m) = omega (arith, within) in
      let parts : bytes_from c b ≡ bytes_from d b ++ take (n - m) (drop m xs) = ap (λ k. take k xs) more ∙ take-add m (n - m) xs in
      let inside : t.n < length (bytes_from d b) = omega (arith, fits, s.0, length-take m xs, length-take n xs) in
      let first = found_in (λ x. nat_eq x 0) (bytes_from d b) (take (n - m) (drop m xs)) t.n (ap (position (λ x. nat_eq x 0)) (sym parts) ∙ t.first) inside in
      let value : v ≡ text_val (take t.n (bytes_from d b)) = t.value ∙ ap text_val (ap (take t.n) parts ∙ take-append-le t.n (bytes_from d b) (take (n - m) (drop m xs)) (omega (arith, inside))) in
      record { n = t.n; first = first; value = value; ends = t.ends }

  leaf_to : (e : ℕ) (w v : Val) (q : ℕ) → Leaf c e w v q → q ≤ shorter → Leaf d e w v q
  leaf_to e w v q h l = let ends = h.ends in record { value = h.value; ends = h.ends; within = omega (arith, ends, l) }

  row_to : (k : Form) (env : Env) → ((p : ℕ) (v : Val) (q : ℕ) → Stands k c env p v q → q ≤ shorter → Stands k d env p v q)
      → (n : ℕ) (done : List Val) (p : ℕ) (vs : List Val) (q : ℕ) → StandsRow (Stands k c env) n done p vs q → q ≤ shorter → StandsRow (Stands k d env) n done p vs q
  row_to k env one zero done p vs q h l = h
  row_to k env one (suc n) done p vs q h l =
      let on : h.1 ≤ q = row (Stands k c env) (λ x w y g. forward k c env x w y g) n (done ++ h.0 ∷ []) h.1 vs q h.3 in
      (h.0, h.1, one p h.0 h.1 h.2 (omega (arith, on, l)), row_to k env one n (done ++ h.0 ∷ []) h.1 vs q h.3 l)

  mutual
    pub stands_to : (k : Form) (env : Env) (p : ℕ) (v : Val) (q : ℕ) → Stands k c env p v q → q ≤ shorter → Stands k d env p v q
    stands_to (integer a i) env p v q h l = leaf_to _ _ v q h l
    stands_to (enumeration a i) env p v q h l = leaf_to _ _ v q h l
    stands_to (string a) env p v q h l = string_to (next_multiple_of p 8) v q h l
    stands_to (structure a ps) env p v q h l =
        let b = next_multiple_of p a in
        let on : b ≤ q = forward_members ps c env [] b h.1.0 q h.1.2 in
        (omega (arith, on, l), (h.1.0, h.1.1, members_to ps env [] b h.1.0 q h.1.2 l))
    stands_to (variant a tag choices ps) env p v q h l = (h.0, h.1, (h.2.0, h.2.1, option_to ps h.0 env p h.2.0 q h.2.2 l))
    stands_to (array a many k) env p v q h l =
        let b = next_multiple_of p (align_of k) in
        let n = length_of many earlier env in
        let on : b ≤ q = row (Stands k c env) (λ x w y g. forward k c env x w y g) n [] b h.1.0 q h.1.2 in
        (omega (arith, on, l), (h.1.0, h.1.1, row_to k env (λ p v q. stands_to k env p v q) n [] b h.1.0 q h.1.2 l))
    stands_to (text a many) env p v q h l = leaf_to _ _ v q h l

    members_to : (ps : Parts) (env : Env) (done : List Val) (p : ℕ) (vs : List Val) (q : ℕ) → StandsMembers ps c env done p vs q → q ≤ shorter → StandsMembers ps d env done p vs q
    members_to no_parts env done p vs q h l = h
    members_to (part n k ps) env done p vs q h l =
        let on : h.1 ≤ q = forward_members ps c env (done ++ h.0 ∷ []) h.1 vs q h.3 in
        (h.0, h.1, stands_to k (done ∷ env) p h.0 h.1 h.2 (omega (arith, on, l)), members_to ps env (done ++ h.0 ∷ []) h.1 vs q h.3 l)

    option_to : (ps : Parts) (i : ℕ) (env : Env) (p : ℕ) (v : Val) (q : ℕ) → StandsOption ps i c env p v q → q ≤ shorter → StandsOption ps i d env p v q
    option_to no_parts i env p v q h l = absurd h
    option_to (part n k ps) zero env p v q h l = stands_to k env p v q h l
    option_to (part n k ps) (suc i) env p v q h l = option_to ps i env p v q h l
