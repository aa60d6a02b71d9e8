-- A place that is needed is past the end of the content.
use Rattle.std.proofs.Common.{◌≡◌, ℕ, zero, suc, ◌+◌, ◌-◌, ◌*◌, ◌/◌, ◌<◌, ◌≤◌, List, [], ◌∷◌, ◌++◌, length, drop, Option, Some, None, arith, inl, inr, length-drop}
use Rattle.std.specs.Int.{next_multiple_of}
use Rattle.std.proofs.lemmas.List.{length-take}
use Rattle.ctf_class.specs.Integers.{bits_of}
use Rattle.ctf_decode.specs.Values.{Val, count}
use Rattle.ctf_decode.specs.Forms.{Form, Parts, integer, enumeration, string, structure, variant, array, text, no_parts, part, align_of}
use Rattle.ctf_decode.specs.Input.{Input, Env, bytes_from}
use Rattle.ctf_decode.specs.Routes.{length_of, option_at}
use Rattle.ctf_decode.specs.Stands.{Stands}
use Rattle.ctf_decode.specs.Breaks.{past, no_option, Opens, BreaksLeaf, BreaksString, BreaksRow, IsOption, Breaks, BreaksMembers, BreaksOption}
use Rattle.ctf_decode.proofs.Needs.{begins}

leaf_beyond : (c : Input) (e n : ℕ) → BreaksLeaf c e (past n) → c.content < n
leaf_beyond c e n b =
    let is : past n ≡ past e = b.1 in
    let same : n ≡ e = cc in omega (arith, same, b.0)

module _ (c : Input) (held : c.content ≤ 8 * length c.packet) where
  string_beyond : (b n : ℕ) → BreaksString c b (past n) → c.content < n
  string_beyond b n h =
      let is : past n ≡ past (b + 8 * (length (bytes_from c b) + 1)) = h.1 in
      let same : n ≡ b + 8 * (length (bytes_from c b) + 1) = cc in
      let len = length-take ((c.content - b) / 8) (drop (b / 8) c.packet) in
      let left = length-drop (b / 8) c.packet in
      omega (arith, same, len, left, held)

  opens_beyond : (b n : ℕ) (T : Type 0) → (T → c.content < n) → Opens c b (past n) T → c.content < n
  opens_beyond b n T rest h = elim h [
    | inl t ↦ (let is : past n ≡ past b = t.1 in let same : n ≡ b = cc in omega (arith, same, t.0))
    | inr t ↦ rest t.1
  ]

  option_case : (n : ℕ) (o : Option ℕ) (T : ℕ → Type 0) → ((i : ℕ) → T i → c.content < n) → IsOption o (past n) T → c.content < n
  option_case n None T rest b = absurd (let is : past n ≡ no_option = b in cc)
  option_case n (Some i) T rest b = rest i b

  row_beyond : (k : Form) (env : Env) → ((p s n : ℕ) → Breaks k c env p s (past n) → c.content < n)
      → (m p s n : ℕ) → BreaksRow c (Stands k c env) (Breaks k c env) m p s (past n) → c.content < n
  row_beyond k env one zero p s n b = absurd b
  row_beyond k env one (suc m) p s n b = elim b [ inl first ↦ one p s n first | inr later ↦ row_beyond k env one m later.1 (s + count later.0) n later.4 ]

  mutual
    pub beyond : (k : Form) (env : Env) (p s n : ℕ) → Breaks k c env p s (past n) → c.content < n
    beyond (integer a i) env p s n b =
        let e = next_multiple_of p a + bits_of i in leaf_beyond c e n (begins c s n (BreaksLeaf c e (past n)) b)
    beyond (enumeration a i) env p s n b =
        let e = next_multiple_of p a + bits_of i in leaf_beyond c e n (begins c s n (BreaksLeaf c e (past n)) b)
    beyond (string a) env p s n b =
        let e = next_multiple_of p 8 in string_beyond e n (begins c s n (BreaksString c e (past n)) b)
    beyond (structure a ps) env p s n b =
        let e = next_multiple_of p a in
        let T = BreaksMembers ps c env [] e (s + 1) (past n) in
        opens_beyond e n T (λ t. members_beyond ps env [] e (s + 1) n t) (begins c s n (Opens c e (past n) T) b)
    beyond (variant a tag choices ps) env p s n b =
        let T = λ (i : ℕ). BreaksOption ps i c env p (s + 1) (past n) in
        option_case n (option_at tag choices c.earlier env) T (λ i t. option_beyond ps i env p (s + 1) n t) (begins c s n (IsOption (option_at tag choices c.earlier env) (past n) T) b)
    beyond (array a many k) env p s n b =
        let e = next_multiple_of p (align_of k) in
        let m = length_of many c.earlier env in
        let T = BreaksRow c (Stands k c env) (Breaks k c env) m e (s + 1) (past n) in
        opens_beyond e n T (λ t. row_beyond k env (λ p s n. beyond k env p s n) m e (s + 1) n t) (begins c s n (Opens c e (past n) T) b)
    beyond (text a many) env p s n b =
        let e = next_multiple_of p 8 + 8 * length_of many c.earlier env in leaf_beyond c e n (begins c s n (BreaksLeaf c e (past n)) b)

    members_beyond : (ps : Parts) (env : Env) (done : List Val) (p s n : ℕ) → BreaksMembers ps c env done p s (past n) → c.content < n
    members_beyond no_parts env done p s n b = absurd b
    members_beyond (part name k ps) env done p s n b = elim b [
      | inl first ↦ beyond k (done ∷ env) p s n first
      | inr later ↦ members_beyond ps env (done ++ later.0 ∷ []) later.1 (s + count later.0) n later.4
    ]

    option_beyond : (ps : Parts) (i : ℕ) (env : Env) (p s n : ℕ) → BreaksOption ps i c env p s (past n) → c.content < n
    option_beyond no_parts i env p s n b = absurd (let is : past n ≡ no_option = b in cc)
    option_beyond (part name k ps) zero env p s n b = beyond k env p s n b
    option_beyond (part name k ps) (suc i) env p s n b = option_beyond ps i env p s n b
