-- A place that the content does not reach is needed in each packet with this beginning.
use Rattle.std.proofs.Common.{◌≡◌, ℕ, zero, suc, ◌+◌, ◌-◌, ◌*◌, ◌/◌, ◌≤◌, Bool, true, false, cond, List, [], ◌∷◌, ◌++◌, length, take, drop, get_or, Option, Some, None, sym, ap, subst, ◌∙◌, arith, nat_eq, inl, inr}
use Rattle.std.specs.Prelude.{position}
use Rattle.std.specs.Int.{next_multiple_of}
use Rattle.std.proofs.lemmas.Bool.{cases_lt}
use Rattle.std.proofs.lemmas.List.{get_or_append_left, length-take}
use Rattle.std.proofs.lemmas.List.Quantifiers.{position-Some}
use Rattle.std.proofs.lemmas.List.Sums.{fails_before_first}
use Rattle.std.specs.List.{position_or_len}
use Rattle.ctf_class.specs.declared.route.Scope.{Scope}
use Rattle.ctf_class.specs.Integers.{bits_of}
use Rattle.ctf_decode.specs.Values.{Val, text as text_val, group, list, choice, vals_of, count}
use Rattle.ctf_decode.specs.Forms.{Form, Parts, integer, enumeration, string, structure, variant, array, text, no_parts, part, align_of}
use Rattle.ctf_decode.specs.Input.{Input, Env, integer_at, label_at, bytes_from}
use Rattle.ctf_decode.specs.Routes.{length_of, option_at}
use Rattle.ctf_decode.specs.Stands.{Leaf, StandsString, text_in, StandsRow, Stands, StandsMembers, StandsOption}
use Rattle.ctf_decode.specs.Breaks.{too_many, past, Begins, Opens, BreaksLeaf, BreaksString, BreaksRow, IsOption, Breaks, BreaksMembers, BreaksOption}
use Rattle.ctf_decode.specs.Laws.{input_of}
use Rattle.ctf_decode.proofs.Sound.{test}
use Rattle.ctf_decode.proofs.Prefix.{stands_more, bytes_more}

leaf_one : (d : Input) (e : ℕ) (w v v' : Val) (q q' : ℕ) → Leaf d e w v q → Leaf d e w v' q' → (v ≡ v') × (q ≡ q')
leaf_one d e w v v' q q' h g = (h.value ∙ sym g.value, h.ends ∙ sym g.ends)

string_one : (d : Input) (b : ℕ) (v v' : Val) (q q' : ℕ) → StandsString d b v q → StandsString d b v' q' → (v ≡ v') × (q ≡ q')
string_one d b v v' q q' h g =
    let both : Some h.n ≡ Some g.n = sym h.first ∙ g.first in
    let same : h.n ≡ g.n = cc in
    (h.value ∙ ap (λ n. text_val (take n (bytes_from d b))) same ∙ sym g.value, h.ends ∙ ap (λ n. b + 8 * (n + 1)) same ∙ sym g.ends)

-- at the most one value is there
abbrev One : (ℕ → Val → ℕ → Type 0) → Type 0
One R = (p : ℕ) (v : Val) (q : ℕ) (v' : Val) (q' : ℕ) → R p v q → R p v' q' → (v ≡ v') × (q ≡ q')

row_one : (R : ℕ → Val → ℕ → Type 0) → One R → (n : ℕ) (done : List Val) (p : ℕ) (vs : List Val) (q : ℕ) (vs' : List Val) (q' : ℕ) → StandsRow R n done p vs q → StandsRow R n done p vs' q' → (vs ≡ vs') × (q ≡ q')
row_one R one zero done p vs q vs' q' h g = (h.0 ∙ sym g.0, h.1 ∙ sym g.1)
row_one R one (suc n) done p vs q vs' q' h g =
    let e = one p h.0 h.1 g.0 g.1 h.2 g.2 in
    let rest = subst (λ m. StandsRow R n (done ++ h.0 ∷ []) m vs' q') (sym e.1) (subst (λ v. StandsRow R n (done ++ v ∷ []) g.1 vs' q') (sym e.0) g.3) in
    row_one R one n (done ++ h.0 ∷ []) h.1 vs q vs' q' h.3 rest

mutual
  one_value : (k : Form) (d : Input) (env : Env) → One (Stands k d env)
  one_value (integer a i) d env p v q v' q' h g =
      let b = next_multiple_of p a in leaf_one d (b + bits_of i) (integer_at d i b) v v' q q' h g
  one_value (enumeration a i) d env p v q v' q' h g =
      let b = next_multiple_of p a in leaf_one d (b + bits_of i) (label_at d i b) v v' q q' h g
  one_value (string a) d env p v q v' q' h g = string_one d (next_multiple_of p 8) v v' q q' h g
  one_value (structure a ps) d env p v q v' q' h g =
      let e = one_members ps d env [] (next_multiple_of p a) h.1.0 q g.1.0 q' h.1.2 g.1.2 in
      (h.1.1 ∙ ap (λ vs. group (vals_of vs)) e.0 ∙ sym g.1.1, e.1)
  one_value (variant a tag choices ps) d env p v q v' q' h g =
      let both : Some h.0 ≡ Some g.0 = sym h.1 ∙ g.1 in
      let same : h.0 ≡ g.0 = cc in
      let e = one_option ps h.0 d env p h.2.0 q g.2.0 q' h.2.2 (subst (λ i. StandsOption ps i d env p g.2.0 q') (sym same) g.2.2) in
      (h.2.1 ∙ (λ j. choice (same j) (e.0 j)) ∙ sym g.2.1, e.1)
  one_value (array a many k) d env p v q v' q' h g =
      let e = row_one (Stands k d env) (one_value k d env) (length_of many d.earlier env) [] (next_multiple_of p (align_of k)) h.1.0 q g.1.0 q' h.1.2 g.1.2 in
      (h.1.1 ∙ ap (λ vs. list (vals_of vs)) e.0 ∙ sym g.1.1, e.1)
  one_value (text a many) d env p v q v' q' h g =
      let b = next_multiple_of p 8 in
      let n = length_of many d.earlier env in leaf_one d (b + 8 * n) (text_in d b n) v v' q q' h g

  one_members : (ps : Parts) (d : Input) (env : Env) (done : List Val) (p : ℕ) (vs : List Val) (q : ℕ) (vs' : List Val) (q' : ℕ) → StandsMembers ps d env done p vs q → StandsMembers ps d env done p vs' q' → (vs ≡ vs') × (q ≡ q')
  one_members no_parts d env done p vs q vs' q' h g = (h.0 ∙ sym g.0, h.1 ∙ sym g.1)
  one_members (part n k ps) d env done p vs q vs' q' h g =
      let e = one_value k d (done ∷ env) p h.0 h.1 g.0 g.1 h.2 g.2 in
      let rest = subst (λ m. StandsMembers ps d env (done ++ h.0 ∷ []) m vs' q') (sym e.1) (subst (λ v. StandsMembers ps d env (done ++ v ∷ []) g.1 vs' q') (sym e.0) g.3) in
      one_members ps d env (done ++ h.0 ∷ []) h.1 vs q vs' q' h.3 rest

  one_option : (ps : Parts) (i : ℕ) (d : Input) (env : Env) (p : ℕ) (v : Val) (q : ℕ) (v' : Val) (q' : ℕ) → StandsOption ps i d env p v q → StandsOption ps i d env p v' q' → (v ≡ v') × (q ≡ q')
  one_option no_parts i d env p v q v' q' h g = absurd h
  one_option (part n k ps) zero d env p v q v' q' h g = one_value k d env p v q v' q' h g
  one_option (part n k ps) (suc i) d env p v q v' q' h g = one_option ps i d env p v q v' q' h g

none_end : (p : ℕ → Bool) (xs : List ℕ) → position p xs ≡ None → length xs ≤ position_or_len p xs
none_end p xs e = elim (test (position_or_len p xs) (length xs)) [
  | inl t ↦ absurd (let bad : Some (position_or_len p xs) ≡ None = subst (λ b. cond b (Some (position_or_len p xs)) None ≡ None) t.0 e in cc)
  | inr t ↦ t.1
]

-- a text without such a byte in its beginning has it after that beginning
position_past : (p : ℕ → Bool) (xs ys : List ℕ) (m : ℕ) → position p xs ≡ None → position p (xs ++ ys) ≡ Some m → length xs ≤ m
position_past p xs ys m none some =
    let at = position-Some p (xs ++ ys) m 0 some in
    elim (cases_lt m (length xs)) [
      | inl below ↦
          let here : get_or (xs ++ ys) m 0 ≡ get_or xs m 0 = get_or_append_left xs ys 0 m below in
          let yes : p (get_or xs m 0) ≡ true = ap p (sym here) ∙ at.1 in
          let end = none_end p xs none in
          let no : p (get_or xs m 0) ≡ false = fails_before_first p xs m 0 (omega (arith, end, below)) in
          absurd (cc)
      | inr above ↦ above
    ]

pub begins : (c : Input) (s n : ℕ) (T : Type 0) → Begins c s (past n) T → T
begins c s n T h = elim h [ inl t ↦ absurd (let e : past n ≡ too_many = t.1 in cc) | inr t ↦ t.1 ]

leaf_needs : (c d : Input) (e n : ℕ) (w v : Val) (q : ℕ) → BreaksLeaf c e (past n) → Leaf d e w v q → n ≤ d.content
leaf_needs c d e n w v q b h =
    let is : past n ≡ past e = b.1 in
    let same : n ≡ e = cc in
    omega (arith, same, h.within)

module _ (packet more : List ℕ) (content whole limit : ℕ) (earlier : Scope → Option Val) (longer : content ≤ whole) (held : content ≤ 8 * length packet) where
  abbrev c : Input
  c = input_of packet content earlier limit

  abbrev d : Input
  d = input_of (packet ++ more) whole earlier limit

  string_needs : (b n : ℕ) (v : Val) (q : ℕ) → BreaksString c b (past n) → StandsString d b v q → n ≤ whole
  string_needs b n v q h t =
      let is : past n ≡ past (b + 8 * (length (bytes_from c b) + 1)) = h.1 in
      let same : n ≡ b + 8 * (length (bytes_from c b) + 1) = cc in
      let at = position-Some (λ x. nat_eq x 0) (bytes_from d b) t.n 0 t.first in
      let len = length-take ((whole - b) / 8) (drop (b / 8) (packet ++ more)) in
      let short = length-take ((content - b) / 8) (drop (b / 8) packet) in
      elim (cases_lt content b) [
        | inl beyond ↦ omega (arith, same, at.0, len, short)
        | inr inside ↦
            let g = bytes_more packet more content whole limit earlier longer held b inside in
            let after = position_past (λ x. nat_eq x 0) (bytes_from c b) g.0 t.n h.0 (ap (position (λ x. nat_eq x 0)) (sym g.1) ∙ t.first) in
            omega (arith, same, at.0, len, after)
      ]

  opens : (b n : ℕ) (T : Type 0) → b ≤ whole → (T → n ≤ whole) → Opens c b (past n) T → n ≤ whole
  opens b n T fits rest h = elim h [
    | inl t ↦ (let is : past n ≡ past b = t.1 in let same : n ≡ b = cc in omega (arith, same, fits))
    | inr t ↦ rest t.1
  ]

  row_needs : (k : Form) (env : Env) → ((p s n : ℕ) (v : Val) (q : ℕ) → Breaks k c env p s (past n) → Stands k d env p v q → n ≤ whole)
      → (m : ℕ) (done : List Val) (p s n : ℕ) (vs : List Val) (q : ℕ) → BreaksRow c (Stands k c env) (Breaks k c env) m p s (past n) → StandsRow (Stands k d env) m done p vs q → n ≤ whole
  row_needs k env one zero done p s n vs q b h = absurd b
  row_needs k env one (suc m) done p s n vs q b h = elim b [
    | inl first ↦ one p s n h.0 h.1 first h.2
    | inr later ↦
        let also = stands_more packet more content whole limit earlier longer held k env p later.0 later.1 later.2 in
        let e = one_value k d env p later.0 later.1 h.0 h.1 also h.2 in
        let rest = subst (λ x. StandsRow (Stands k d env) m (done ++ later.0 ∷ []) x vs q) (sym e.1) (subst (λ v. StandsRow (Stands k d env) m (done ++ v ∷ []) h.1 vs q) (sym e.0) h.3) in
        row_needs k env one m (done ++ later.0 ∷ []) later.1 (s + count later.0) n vs q later.4 rest
  ]

  mutual
    pub needs : (k : Form) (env : Env) (p s n : ℕ) (v : Val) (q : ℕ) → Breaks k c env p s (past n) → Stands k d env p v q → n ≤ whole
    needs (integer a i) env p s n v q b h =
        let e = next_multiple_of p a + bits_of i in leaf_needs c d e n (integer_at d i (next_multiple_of p a)) v q (begins c s n (BreaksLeaf c e (past n)) b) h
    needs (enumeration a i) env p s n v q b h =
        let e = next_multiple_of p a + bits_of i in leaf_needs c d e n (label_at d i (next_multiple_of p a)) v q (begins c s n (BreaksLeaf c e (past n)) b) h
    needs (string a) env p s n v q b h =
        let e = next_multiple_of p 8 in string_needs e n v q (begins c s n (BreaksString c e (past n)) b) h
    needs (structure a ps) env p s n v q b h =
        let e = next_multiple_of p a in
        let T = BreaksMembers ps c env [] e (s + 1) (past n) in
        opens e n T h.0 (λ t. needs_members ps env [] e (s + 1) n h.1.0 q t h.1.2) (begins c s n (Opens c e (past n) T) b)
    needs (variant a tag choices ps) env p s n v q b h =
        let T = λ (i : ℕ). BreaksOption ps i c env p (s + 1) (past n) in
        let o = option_at tag choices earlier env in
        let here = begins c s n (IsOption o (past n) T) b in
        needs_option ps h.0 env p (s + 1) n h.2.0 q (subst (λ x. IsOption x (past n) T) h.1 here) h.2.2
    needs (array a many k) env p s n v q b h =
        let e = next_multiple_of p (align_of k) in
        let m = length_of many earlier env in
        let T = BreaksRow c (Stands k c env) (Breaks k c env) m e (s + 1) (past n) in
        opens e n T h.0 (λ t. row_needs k env (λ p s n v q. needs k env p s n v q) m [] e (s + 1) n h.1.0 q t h.1.2) (begins c s n (Opens c e (past n) T) b)
    needs (text a many) env p s n v q b h =
        let at = next_multiple_of p 8 in
        let m = length_of many earlier env in
        leaf_needs c d (at + 8 * m) n (text_in d at m) v q (begins c s n (BreaksLeaf c (at + 8 * m) (past n)) b) h

    needs_members : (ps : Parts) (env : Env) (done : List Val) (p s n : ℕ) (vs : List Val) (q : ℕ) → BreaksMembers ps c env done p s (past n) → StandsMembers ps d env done p vs q → n ≤ whole
    needs_members no_parts env done p s n vs q b h = absurd b
    needs_members (part name k ps) env done p s n vs q b h = elim b [
      | inl first ↦ needs k (done ∷ env) p s n h.0 h.1 first h.2
      | inr later ↦
          let also = stands_more packet more content whole limit earlier longer held k (done ∷ env) p later.0 later.1 later.2 in
          let e = one_value k d (done ∷ env) p later.0 later.1 h.0 h.1 also h.2 in
          let rest = subst (λ x. StandsMembers ps d env (done ++ later.0 ∷ []) x vs q) (sym e.1) (subst (λ v. StandsMembers ps d env (done ++ v ∷ []) h.1 vs q) (sym e.0) h.3) in
          needs_members ps env (done ++ later.0 ∷ []) later.1 (s + count later.0) n vs q later.4 rest
    ]

    needs_option : (ps : Parts) (i : ℕ) (env : Env) (p s n : ℕ) (v : Val) (q : ℕ) → BreaksOption ps i c env p s (past n) → StandsOption ps i d env p v q → n ≤ whole
    needs_option no_parts i env p s n v q b h = absurd h
    needs_option (part name k ps) zero env p s n v q b h = needs k env p s n v q b h
    needs_option (part name k ps) (suc i) env p s n v q b h = needs_option ps i env p s n v q b h
