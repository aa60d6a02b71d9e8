-- What the function finds is there.
use Rattle.std.proofs.Common.{◌≡◌, ℕ, zero, suc, ◌+◌, ◌*◌, ◌<◌, ◌≤◌, true, false, cond, List, [], ◌∷◌, ◌++◌, Option, Some, None, Ok, Err, refl, sym, subst, ◌⊎◌, inl, inr, arith, nat_lt, nat_eq}
use Rattle.std.specs.Prelude.{position}
use Rattle.std.specs.Int.{next_multiple_of}
use Rattle.std.proofs.lemmas.Bool.{ltb-true, ltb-false}
use Rattle.ctf_bits.specs.Number.{number, signed_number}
use Rattle.ctf_class.specs.declared.integer.Integer.{Integer}
use Rattle.ctf_class.specs.Integers.{bits_of}
use Rattle.ctf_decode.specs.Values.{Val, Vals, unsigned, signed, group, list, choice, vals_of, count, counts}
use Rattle.ctf_decode.specs.Forms.{Form, Parts, integer, enumeration, string, structure, variant, array, text, no_parts, part, align_of}
use Rattle.ctf_decode.specs.Input.{Input, Env, integer_at, label_at, bytes_from}
use Rattle.ctf_decode.specs.Routes.{length_of, option_at}
use Rattle.ctf_decode.specs.Stands.{Leaf, StandsString, text_in, StandsRow, Stands, StandsMembers, StandsOption}
use Rattle.ctf_decode.specs.Breaks.{Fault, too_many, past, Begins, Opens, BreaksLeaf, BreaksString, BreaksRow, IsOption, Breaks, BreaksMembers, BreaksOption}
use Rattle.ctf_decode.specs.Walk.{Step, and_then, begin, open_at, leaf, string_end, string_at, repeat, with_option, as_choice, walk, walk_members, walk_option}

-- what was found is there by R, and raises the count from s, or is a fault by B
abbrev pub Holds : Input → (Val → ℕ → Type 0) → (Fault → Type 0) → ℕ → Step Val → Type 0
Holds c R B s (Ok x) = R x.0 x.1 × (x.2 ≡ s + count x.0) × (x.2 ≤ c.limit)
Holds c R B s (Err f) = B f

-- the same of a list that goes on after the values that are done
abbrev pub HoldsAll : Input → (List Val → ℕ → Type 0) → (Fault → Type 0) → List Val → ℕ → Step (List Val) → Type 0
HoldsAll c R B done s (Ok x) = R x.0 x.1 × (x.2 + counts (vals_of done) ≡ s + counts (vals_of x.0)) × (x.2 ≤ c.limit)
HoldsAll c R B done s (Err f) = B f

-- a test on numbers, either way
pub test : (a b : ℕ) → ((nat_lt a b ≡ true) × (a < b)) ⊎ ((nat_lt a b ≡ false) × (b ≤ a))
test a b = (elim (nat_lt a b) as (λ t. nat_lt a b ≡ t → ((nat_lt a b ≡ true) × (a < b)) ⊎ ((nat_lt a b ≡ false) × (b ≤ a))) [ true ↦ λ e. inl (e, ltb-true a b e) | false ↦ λ e. inr (e, ltb-false a b e) ]) refl

module _ (c : Input) (R : Val → ℕ → Type 0) (T : Fault → Type 0) (s : ℕ) where
  begin_ok : (r : Step Val) → Holds c R T s r → s < c.limit → Holds c R (λ f. Begins c s f (T f)) s r
  begin_ok (Ok x) h l = h
  begin_ok (Err f) h l = inr (l, h)

  holds_begin : (r : Step Val) → (s < c.limit → Holds c R T s r) → Holds c R (λ f. Begins c s f (T f)) s (begin c s r)
  holds_begin r h = elim (test s c.limit) [
    | inl t ↦ subst (λ b. Holds c R (λ f. Begins c s f (T f)) s (cond b r (Err too_many))) (sym t.0) (begin_ok r (h t.1) t.1)
    | inr t ↦ subst (λ b. Holds c R (λ f. Begins c s f (T f)) s (cond b r (Err too_many))) (sym t.0) (inl (t.1, refl))
  ]

  open_ok : (b : ℕ) (r : Step Val) → Holds c R T s r → b ≤ c.content → Holds c (λ v q. (b ≤ c.content) × R v q) (λ f. Opens c b f (T f)) s r
  open_ok b (Ok x) h l = ((l, h.0), h.1, h.2)
  open_ok b (Err f) h l = inr (l, h)

  holds_open : (b : ℕ) (r : Step Val) → Holds c R T s r → Holds c (λ v q. (b ≤ c.content) × R v q) (λ f. Opens c b f (T f)) s (open_at c b r)
  holds_open b r h = elim (test c.content b) [
    | inl t ↦ subst (λ u. Holds c (λ v q. (b ≤ c.content) × R v q) (λ f. Opens c b f (T f)) s (cond u (Err (past b)) r)) (sym t.0) (inl (t.1, refl))
    | inr t ↦ subst (λ u. Holds c (λ v q. (b ≤ c.content) × R v q) (λ f. Opens c b f (T f)) s (cond u (Err (past b)) r)) (sym t.0) (open_ok b r h t.1)
  ]

holds_leaf : (c : Input) (e s : ℕ) (w : Val) → count w ≡ 1 → s < c.limit → Holds c (Leaf c e w) (BreaksLeaf c e) s (leaf c e s w)
holds_leaf c e s w one l = elim (test c.content e) [
  | inl t ↦ subst (λ u. Holds c (Leaf c e w) (BreaksLeaf c e) s (cond u (Err (past e)) (Ok (w, e, s + 1)))) (sym t.0) (t.1, refl)
  | inr t ↦ subst (λ u. Holds c (Leaf c e w) (BreaksLeaf c e) s (cond u (Err (past e)) (Ok (w, e, s + 1)))) (sym t.0) (record { value = refl; ends = refl; within = t.1 }, omega (arith, one), omega arith)
]

string_ok : (c : Input) (b s : ℕ) (o : Option ℕ) → position (λ x. nat_eq x 0) (bytes_from c b) ≡ o → s < c.limit → Holds c (StandsString c b) (BreaksString c b) s (string_end b s (bytes_from c b) o)
string_ok c b s None e l = (e, refl)
string_ok c b s (Some n) e l = (record { n = n; first = e; value = refl; ends = refl }, omega arith, omega arith)

holds_string : (c : Input) (b s : ℕ) → s < c.limit → Holds c (StandsString c b) (BreaksString c b) s (string_at c b s)
unfolding string_at
holds_string c b s l = string_ok c b s _ refl l

pub counts-snoc : (vs : List Val) (v : Val) → counts (vals_of (vs ++ v ∷ [])) ≡ counts (vals_of vs) + count v
counts-snoc [] v = omega arith
counts-snoc (w ∷ vs) v = omega (arith, counts-snoc vs v)

module _ (c : Input) (R : Val → ℕ → Type 0) (B : Fault → Type 0) (S : Val → ℕ → List Val → ℕ → Type 0) (T : Val → ℕ → ℕ → Fault → Type 0) (done : List Val) (s : ℕ) where
  abbrev Then : List Val → ℕ → Type 0
  Then vs q = (v : Val) × (m : ℕ) × R v m × S v m vs q

  abbrev Or : Fault → Type 0
  Or f = B f ⊎ ((v : Val) × (m : ℕ) × R v m × (s + count v ≤ c.limit) × T v m (s + count v) f)

  rest_ok : (v : Val) (m t : ℕ) (y : Step (List Val)) → R v m → t ≡ s + count v → t ≤ c.limit → HoldsAll c (S v m) (T v m t) (done ++ v ∷ []) t y → HoldsAll c Then Or done s y
  rest_ok v m t (Ok y) r e l h = ((v, m, r, h.0), omega (arith, h.1, e, counts-snoc done v), h.2)
  rest_ok v m t (Err f) r e l h = inr (v, m, r, omega arith, subst (λ k. T v m k f) e h)

  holds_next : (r : Step Val) (f : Val → ℕ → ℕ → Step (List Val)) → Holds c R B s r → ((v : Val) (m t : ℕ) → t ≤ c.limit → HoldsAll c (S v m) (T v m t) (done ++ v ∷ []) t (f v m t)) → HoldsAll c Then Or done s (and_then r f)
  holds_next (Ok x) f h g = rest_ok x.0 x.1 x.2 (f x.0 x.1 x.2) h.0 h.1 h.2 (g x.0 x.1 x.2 h.2)
  holds_next (Err e) f h g = inl h

module _ (c : Input) (R : ℕ → Val → ℕ → Type 0) (B : ℕ → ℕ → Fault → Type 0) (f : ℕ → ℕ → Step Val) (one : (p s : ℕ) → Holds c (R p) (B p s) s (f p s)) where
  holds_row : (n : ℕ) (done : List Val) (p s : ℕ) → s ≤ c.limit → HoldsAll c (StandsRow R n done p) (BreaksRow c R B n p s) done s (repeat f n done p s)
  holds_row zero done p s l = ((refl, refl), refl, l)
  holds_row (suc n) done p s l =
      holds_next c (R p) (B p s) (λ v m. StandsRow R n (done ++ v ∷ []) m) (λ v m t. BreaksRow c R B n m t) done s (f p s) (λ v q t. repeat f n (done ++ v ∷ []) q t) (one p s) (λ v m t k. holds_row n (done ++ v ∷ []) m t k)

-- the values of a group or a list as one value
holds_whole : (c : Input) (make : Vals → Val) (R : List Val → ℕ → Type 0) (B : Fault → Type 0) (s : ℕ) (r : Step (List Val)) → ((vs : Vals) → count (make vs) ≡ 1 + counts vs) → HoldsAll c R B [] (s + 1) r → Holds c (λ v q. (vs : List Val) × (v ≡ make (vals_of vs)) × R vs q) B s (and_then r (λ vs q t. Ok (make (vals_of vs), q, t)))
holds_whole c make R B s (Ok x) e h = ((x.0, refl, h.0), omega (arith, h.1, e (vals_of x.0)), h.2)
holds_whole c make R B s (Err f) e h = h

holds_choice : (c : Input) (i : ℕ) (R : Val → ℕ → Type 0) (B : Fault → Type 0) (s : ℕ) (r : Step Val) → Holds c R B (s + 1) r → Holds c (λ v q. (w : Val) × (v ≡ choice i w) × R w q) B s (and_then r (as_choice i))
holds_choice c i R B s (Ok x) h = ((x.0, refl, h.0), omega (arith, h.1), h.2)
holds_choice c i R B s (Err f) h = h

some_ok : (c : Input) (i : ℕ) (R : ℕ → Val → ℕ → Type 0) (B : Fault → Type 0) (s : ℕ) (r : Step Val) → Holds c (R i) B s r → Holds c (λ v q. (j : ℕ) × (Some i ≡ Some j) × R j v q) B s r
some_ok c i R B s (Ok x) h = ((i, refl, h.0), h.1, h.2)
some_ok c i R B s (Err f) h = h

holds_option : (c : Input) (o : Option ℕ) (R : ℕ → Val → ℕ → Type 0) (B : ℕ → Fault → Type 0) (s : ℕ) (f : ℕ → Step Val) → ((i : ℕ) → Holds c (R i) (B i) s (f i)) → Holds c (λ v q. (i : ℕ) × (o ≡ Some i) × R i v q) (λ g. IsOption o g (λ i. B i g)) s (with_option o f)
holds_option c None R B s f h = refl
holds_option c (Some i) R B s f h = some_ok c i R (B i) s (f i) (h i)

pub one_integer : (c : Input) (i : Integer) (b : ℕ) → count (integer_at c i b) ≡ 1
one_integer c i b = elim i.is_signed as (λ t. count (cond t (signed (signed_number i.order c.packet b (bits_of i))) (unsigned (number i.order c.packet b (bits_of i)))) ≡ 1) [ true ↦ refl | false ↦ refl ]

mutual
  pub walk_is : (k : Form) (c : Input) (env : Env) (p s : ℕ) → Holds c (Stands k c env p) (Breaks k c env p s) s (walk k c env p s)
  walk_is (integer a i) c env p s =
      let b = next_multiple_of p a in
      let w = integer_at c i b in
      holds_begin c _ (BreaksLeaf c (b + bits_of i)) s _ (λ l. holds_leaf c (b + bits_of i) s w (one_integer c i b) l)
  walk_is (enumeration a i) c env p s =
      let b = next_multiple_of p a in
      let w = label_at c i b in
      holds_begin c _ (BreaksLeaf c (b + bits_of i)) s _ (λ l. holds_leaf c (b + bits_of i) s w refl l)
  walk_is (string a) c env p s =
      let b = next_multiple_of p 8 in holds_begin c _ (BreaksString c b) s _ (λ l. holds_string c b s l)
  walk_is (structure a ps) c env p s =
      let b = next_multiple_of p a in
      holds_begin c _ (λ f. Opens c b f (BreaksMembers ps c env [] b (s + 1) f)) s _ (λ l. holds_open c (λ v q. (vs : List Val) × (v ≡ group (vals_of vs)) × StandsMembers ps c env [] b vs q) (BreaksMembers ps c env [] b (s + 1)) s b _ (holds_whole c group (StandsMembers ps c env [] b) (BreaksMembers ps c env [] b (s + 1)) s (walk_members ps c env [] b (s + 1)) (λ vs. refl) (walk_members_is ps c env [] b (s + 1) (omega arith))))
  walk_is (variant a tag choices ps) c env p s =
      let o = option_at tag choices c.earlier env in
      holds_begin c _ (λ f. IsOption o f (λ i. BreaksOption ps i c env p (s + 1) f)) s _ (λ l. holds_option c o (λ i v q. (w : Val) × (v ≡ choice i w) × StandsOption ps i c env p w q) (λ i. BreaksOption ps i c env p (s + 1)) s _ (λ i. holds_choice c i (StandsOption ps i c env p) (BreaksOption ps i c env p (s + 1)) s (walk_option ps i c env p (s + 1)) (walk_option_is ps i c env p (s + 1))))
  walk_is (array a many k) c env p s =
      let b = next_multiple_of p (align_of k) in
      let n = length_of many c.earlier env in
      holds_begin c _ (λ f. Opens c b f (BreaksRow c (Stands k c env) (Breaks k c env) n b (s + 1) f)) s _ (λ l. holds_open c (λ v q. (vs : List Val) × (v ≡ list (vals_of vs)) × StandsRow (Stands k c env) n [] b vs q) (BreaksRow c (Stands k c env) (Breaks k c env) n b (s + 1)) s b _ (holds_whole c list (StandsRow (Stands k c env) n [] b) (BreaksRow c (Stands k c env) (Breaks k c env) n b (s + 1)) s (repeat (walk k c env) n [] b (s + 1)) (λ vs. refl) (holds_row c (Stands k c env) (Breaks k c env) (walk k c env) (λ q t. walk_is k c env q t) n [] b (s + 1) (omega arith))))
  walk_is (text a many) c env p s =
      let b = next_multiple_of p 8 in
      let n = length_of many c.earlier env in
      holds_begin c _ (BreaksLeaf c (b + 8 * n)) s _ (λ l. holds_leaf c (b + 8 * n) s (text_in c b n) refl l)

  walk_members_is : (ps : Parts) (c : Input) (env : Env) (done : List Val) (p s : ℕ) → s ≤ c.limit → HoldsAll c (StandsMembers ps c env done p) (BreaksMembers ps c env done p s) done s (walk_members ps c env done p s)
  walk_members_is no_parts c env done p s l = ((refl, refl), refl, l)
  walk_members_is (part n k ps) c env done p s l =
      holds_next c (Stands k c (done ∷ env) p) (Breaks k c (done ∷ env) p s) (λ v m. StandsMembers ps c env (done ++ v ∷ []) m) (λ v m t. BreaksMembers ps c env (done ++ v ∷ []) m t) done s (walk k c (done ∷ env) p s) (λ v q t. walk_members ps c env (done ++ v ∷ []) q t) (walk_is k c (done ∷ env) p s) (λ v m t h. walk_members_is ps c env (done ++ v ∷ []) m t h)

  walk_option_is : (ps : Parts) (i : ℕ) (c : Input) (env : Env) (p s : ℕ) → Holds c (StandsOption ps i c env p) (BreaksOption ps i c env p s) s (walk_option ps i c env p s)
  walk_option_is no_parts i c env p s = refl
  walk_option_is (part n k ps) zero c env p s = walk_is k c env p s
  walk_option_is (part n k ps) (suc i) c env p s = walk_option_is ps i c env p s
