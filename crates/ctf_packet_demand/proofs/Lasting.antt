-- What the beginning of a packet settles is so in the whole packet.
use Rattle.std.proofs.Common.{◌≡◌, ℕ, zero, suc, ◌+◌, ◌-◌, ◌*◌, ◌/◌, ◌<◌, ◌≤◌, List, [], ◌∷◌, ◌++◌, length, take, drop, Option, Some, None, Ok, Err, inl, inr, sym, ap, subst, ◌∙◌, arith, nat_eq, length-drop}
use Rattle.std.specs.Prelude.{position}
use Rattle.std.specs.Int.{next_multiple_of}
use Rattle.std.proofs.lemmas.List.{length-take, take-append-le, drop-append-le}
use Rattle.ctf_class.specs.declared.route.Scope.{Scope}
use Rattle.ctf_class.specs.Integers.{bits_of}
use Rattle.ctf_decode.specs.Values.{Val, count}
use Rattle.ctf_decode.specs.Forms.{Form, Parts, integer, enumeration, string, structure, variant, array, text, no_parts, part, align_of}
use Rattle.ctf_decode.specs.Input.{Input, Env, bytes_from}
use Rattle.ctf_decode.specs.Routes.{length_of, option_at}
use Rattle.ctf_decode.specs.Stands.{Stands}
use Rattle.ctf_decode.specs.Breaks.{Fault, too_many, past, no_option, Begins, Opens, BreaksLeaf, BreaksString, BreaksRow, IsOption, Breaks, BreaksMembers, BreaksOption}
use Rattle.ctf_decode.specs.Walk.{Step, walk}
use Rattle.ctf_decode.specs.Laws.{Is, input_of}
use Rattle.ctf_decode.proofs.Sound.{test, walk_is}
use Rattle.ctf_decode.proofs.Only.{walk_only}
use Rattle.ctf_decode.proofs.Prefix.{stands_more}
use Rattle.ctf_decode.proofs.Beyond as beyond

-- a fault that more bytes do not mend: a place that is needed lies past the content too that they make
abbrev pub Lasts : ℕ → Fault → Type 0
Lasts whole too_many = Unit {0}
Lasts whole no_option = Unit {0}
Lasts whole (past e) = whole < e

-- what the beginning answers the whole answers too
abbrev pub Answers : ℕ → Step Val → Step Val → Type 0
Answers whole (Ok x) r = r ≡ Ok x
Answers whole (Err f) r = Lasts whole f → r ≡ Err f

begins_more : (c : Input) (s : ℕ) (f : Fault) (T U : Type 0) → (T → U) → Begins c s f T → Begins c s f U
begins_more c s f T U go h = elim h [ inl t ↦ inl t | inr t ↦ inr (t.0, go t.1) ]

option_case : (o : Option ℕ) (f : Fault) (T U : ℕ → Type 0) → ((i : ℕ) → T i → U i) → IsOption o f T → IsOption o f U
option_case None f T U go h = h
option_case (Some i) f T U go h = go i h

module _ (packet more : List ℕ) (content whole limit : ℕ) (earlier : Scope → Option Val) (longer : content ≤ whole) (held : content ≤ 8 * length packet) where
  abbrev c : Input
  c = input_of packet content earlier limit

  abbrev d : Input
  d = input_of (packet ++ more) whole earlier limit

  leaf_lasts : (e : ℕ) (f : Fault) → Lasts whole f → BreaksLeaf c e f → BreaksLeaf d e f
  leaf_lasts e f l h = (subst (Lasts whole) h.1 l, h.1)

  -- no whole byte more is there
  same_bytes : (b : ℕ) → whole < b + 8 * (length (bytes_from c b) + 1) → bytes_from d b ≡ bytes_from c b
  same_bytes b l =
      let j = b / 8 in
      let m = (content - b) / 8 in
      let xs = drop j packet in
      let short = length-take m xs in
      let left = length-drop j packet in
      elim (test content b) [
        | inl t ↦
            let none : m ≡ 0 = omega (arith, t.1) in
            let also : (whole - b) / 8 ≡ 0 = omega (arith, t.1, short, none, l) in
            ap (λ n. take n (drop j (packet ++ more))) also ∙ sym (ap (λ n. take n xs) none)
        | inr t ↦
            let inside : b ≤ content = t.1 in
            let fits : j + m ≤ length packet = omega arith in
            let there : m ≤ length xs = omega (arith, left) in
            let same : (whole - b) / 8 ≡ m = omega (arith, short, there, l, longer, inside) in
            let after : drop j (packet ++ more) ≡ xs ++ more = drop-append-le j packet more (omega arith) in
            ap (λ n. take n (drop j (packet ++ more))) same ∙ ap (take m) after ∙ take-append-le m xs more there
      ]

  string_lasts : (b : ℕ) (f : Fault) → Lasts whole f → BreaksString c b f → BreaksString d b f
  string_lasts b f l h =
      let same = same_bytes b (subst (Lasts whole) h.1 l) in
      (ap (position (λ x. nat_eq x 0)) same ∙ h.0, h.1 ∙ ap (λ (xs : List ℕ). past (b + 8 * (length xs + 1))) (sym same))

  opens_lasts : (b : ℕ) (f : Fault) (T U : Type 0) → Lasts whole f → (T → U) → Opens c b f T → Opens d b f U
  opens_lasts b f T U l go h = elim h [
    | inl t ↦ inl (subst (Lasts whole) t.1 l, t.1)
    | inr t ↦ inr (omega (arith, t.0), go t.1)
  ]

  row_lasts : (k : Form) (env : Env) → ((p s : ℕ) (f : Fault) → Lasts whole f → Breaks k c env p s f → Breaks k d env p s f)
      → (n p s : ℕ) (f : Fault) → Lasts whole f → BreaksRow c (Stands k c env) (Breaks k c env) n p s f → BreaksRow d (Stands k d env) (Breaks k d env) n p s f
  row_lasts k env one zero p s f l h = absurd h
  row_lasts k env one (suc n) p s f l h = elim h [
    | inl first ↦ inl (one p s f l first)
    | inr later ↦
        inr (later.0, later.1, stands_more packet more content whole limit earlier longer held k env p later.0 later.1 later.2, later.3, row_lasts k env one n later.1 (s + count later.0) f l later.4)
  ]

  mutual
    pub breaks_more : (k : Form) (env : Env) (p s : ℕ) (f : Fault) → Lasts whole f → Breaks k c env p s f → Breaks k d env p s f
    breaks_more (integer a i) env p s f l h =
        let e = next_multiple_of p a + bits_of i in begins_more c s f (BreaksLeaf c e f) (BreaksLeaf d e f) (leaf_lasts e f l) h
    breaks_more (enumeration a i) env p s f l h =
        let e = next_multiple_of p a + bits_of i in begins_more c s f (BreaksLeaf c e f) (BreaksLeaf d e f) (leaf_lasts e f l) h
    breaks_more (string a) env p s f l h =
        let b = next_multiple_of p 8 in begins_more c s f (BreaksString c b f) (BreaksString d b f) (string_lasts b f l) h
    breaks_more (structure a ps) env p s f l h =
        let b = next_multiple_of p a in
        let T = BreaksMembers ps c env [] b (s + 1) f in
        let U = BreaksMembers ps d env [] b (s + 1) f in
        begins_more c s f (Opens c b f T) (Opens d b f U) (opens_lasts b f T U l (members_more ps env [] b (s + 1) f l)) h
    breaks_more (variant a tag choices ps) env p s f l h =
        let o = option_at tag choices earlier env in
        let T = λ (i : ℕ). BreaksOption ps i c env p (s + 1) f in
        let U = λ (i : ℕ). BreaksOption ps i d env p (s + 1) f in
        begins_more c s f (IsOption o f T) (IsOption o f U) (option_case o f T U (λ i t. option_more ps i env p (s + 1) f l t)) h
    breaks_more (array a many k) env p s f l h =
        let b = next_multiple_of p (align_of k) in
        let n = length_of many earlier env in
        let T = BreaksRow c (Stands k c env) (Breaks k c env) n b (s + 1) f in
        let U = BreaksRow d (Stands k d env) (Breaks k d env) n b (s + 1) f in
        begins_more c s f (Opens c b f T) (Opens d b f U) (opens_lasts b f T U l (row_lasts k env (λ p s f. breaks_more k env p s f) n b (s + 1) f l)) h
    breaks_more (text a many) env p s f l h =
        let e = next_multiple_of p 8 + 8 * length_of many earlier env in begins_more c s f (BreaksLeaf c e f) (BreaksLeaf d e f) (leaf_lasts e f l) h

    members_more : (ps : Parts) (env : Env) (done : List Val) (p s : ℕ) (f : Fault) → Lasts whole f → BreaksMembers ps c env done p s f → BreaksMembers ps d env done p s f
    members_more no_parts env done p s f l h = absurd h
    members_more (part n k ps) env done p s f l h = elim h [
      | inl first ↦ inl (breaks_more k (done ∷ env) p s f l first)
      | inr later ↦
          inr (later.0, later.1, stands_more packet more content whole limit earlier longer held k (done ∷ env) p later.0 later.1 later.2, later.3, members_more ps env (done ++ later.0 ∷ []) later.1 (s + count later.0) f l later.4)
    ]

    option_more : (ps : Parts) (i : ℕ) (env : Env) (p s : ℕ) (f : Fault) → Lasts whole f → BreaksOption ps i c env p s f → BreaksOption ps i d env p s f
    option_more no_parts i env p s f l h = h
    option_more (part n k ps) zero env p s f l h = breaks_more k env p s f l h
    option_more (part n k ps) (suc i) env p s f l h = option_more ps i env p s f l h

  pub walk_more : (k : Form) (env : Env) (p s : ℕ) → Answers whole (walk k c env p s) (walk k d env p s)
  walk_more k env p s = answers (walk k c env p s) (walk_is k c env p s)
    where
      answers : (r : Step Val) → Is k c env p s r → Answers whole r (walk k d env p s)
      answers (Ok x) h = sym (walk_only k d env p s (Ok x) (stands_more packet more content whole limit earlier longer held k env p x.0 x.1 h.0, h.1, h.2))
      answers (Err f) h = λ l. sym (walk_only k d env p s (Err f) (breaks_more k env p s f l h))

  -- a place that is needed lies past the content
  pub walk_beyond : (k : Form) (env : Env) (p s e : ℕ) → walk k c env p s ≡ Err (past e) → content < e
  walk_beyond k env p s e h = beyond.beyond c held k env p s e (subst (Is k c env p s) h (walk_is k c env p s))
