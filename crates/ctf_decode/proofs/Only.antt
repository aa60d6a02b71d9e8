-- What is there is what the function finds.
use Rattle.std.proofs.Common.{◌≡◌, ℕ, zero, suc, ◌+◌, ◌*◌, ◌<◌, ◌≤◌, cond, List, [], ◌∷◌, ◌++◌, take, Option, Some, None, Ok, Err, refl, sym, ap, subst, ◌∙◌, ◌⊎◌, inl, inr, arith}
use Rattle.std.specs.Int.{next_multiple_of}
use Rattle.std.proofs.lemmas.Bool.{lt-ltb, le-ltb}
use Rattle.ctf_class.specs.Integers.{bits_of}
use Rattle.ctf_decode.specs.Values.{Val, Vals, unsigned, signed, label, text as text_val, group, list, choice, vals_of, count, counts}
use Rattle.ctf_decode.specs.Forms.{Form, Parts, integer, enumeration, string, structure, variant, array, text, no_parts, part, align_of}
use Rattle.ctf_decode.specs.Input.{Input, Env, integer_at, label_at, bytes_from}
use Rattle.ctf_decode.specs.Routes.{length_of, option_at}
use Rattle.ctf_decode.specs.Stands.{Leaf, StandsString, text_in, StandsRow, Stands, StandsMembers, StandsOption}
use Rattle.ctf_decode.specs.Breaks.{Fault, too_many, past, Begins, Opens, BreaksLeaf, BreaksString, BreaksRow, IsOption, Breaks, BreaksMembers, BreaksOption}
use Rattle.ctf_decode.specs.Walk.{Step, and_then, begin, open_at, leaf, string_end, string_at, repeat, with_option, as_group, as_list, as_choice, walk, walk_members, walk_option}
use Rattle.ctf_decode.proofs.Sound.{Holds, HoldsAll, counts-snoc, one_integer}

-- whatever value or fault is there is w
abbrev Finds : Input → (Val → ℕ → Type 0) → (Fault → Type 0) → ℕ → Step Val → Type 0
Finds c R B s w = (r : Step Val) → Holds c R B s r → r ≡ w

abbrev FindsAll : Input → (List Val → ℕ → Type 0) → (Fault → Type 0) → List Val → ℕ → Step (List Val) → Type 0
FindsAll c R B done s w = (r : Step (List Val)) → HoldsAll c R B done s r → r ≡ w

count_pos : (v : Val) → 0 < count v
count_pos (unsigned n) = omega arith
count_pos (signed n) = omega arith
count_pos (label n) = omega arith
count_pos (text_val n) = omega arith
count_pos (group n) = omega arith
count_pos (list n) = omega arith
count_pos (choice i n) = omega arith

module _ (c : Input) where
  pub begin_in : (s : ℕ) (w : Step Val) → s < c.limit → w ≡ begin c s w
  begin_in s w l = subst (λ b. w ≡ cond b w (Err too_many)) (sym (lt-ltb s c.limit l)) refl

  pub begin_out : (s : ℕ) (w : Step Val) → c.limit ≤ s → Err too_many ≡ begin c s w
  begin_out s w l = subst (λ b. Err too_many ≡ cond b w (Err too_many)) (sym (le-ltb s c.limit l)) refl

  pub open_in : (b : ℕ) (w : Step Val) → b ≤ c.content → w ≡ open_at c b w
  open_in b w l = subst (λ u. w ≡ cond u (Err (past b)) w) (sym (le-ltb c.content b l)) refl

  pub open_out : (b : ℕ) (w : Step Val) → c.content < b → Err (past b) ≡ open_at c b w
  open_out b w l = subst (λ u. Err (past b) ≡ cond u (Err (past b)) w) (sym (lt-ltb c.content b l)) refl

module _ (c : Input) (R : Val → ℕ → Type 0) (T : Fault → Type 0) (s : ℕ) where
  only_begin : (w : Step Val) → (s < c.limit → Finds c R T s w) → Finds c R (λ f. Begins c s f (T f)) s (begin c s w)
  only_begin w g (Ok x) h =
      let one = count_pos x.0 in
      let l : s < c.limit = omega (arith, one, h.1, h.2) in
      g l (Ok x) h ∙ begin_in c s w l
  only_begin w g (Err f) h = elim h [ inl t ↦ ap Err t.1 ∙ begin_out c s w t.0 | inr t ↦ g t.0 (Err f) t.1 ∙ begin_in c s w t.0 ]

  only_open : (b : ℕ) (w : Step Val) → Finds c R T s w → Finds c (λ v q. (b ≤ c.content) × R v q) (λ f. Opens c b f (T f)) s (open_at c b w)
  only_open b w g (Ok x) h = g (Ok x) (h.0.1, h.1, h.2) ∙ open_in c b w h.0.0
  only_open b w g (Err f) h = elim h [ inl t ↦ ap Err t.1 ∙ open_out c b w t.0 | inr t ↦ g (Err f) t.1 ∙ open_in c b w t.0 ]

only_leaf : (c : Input) (e s : ℕ) (w : Val) → count w ≡ 1 → Finds c (Leaf c e w) (BreaksLeaf c e) s (leaf c e s w)
only_leaf c e s w one (Ok x) h =
    let n : x.2 ≡ s + 1 = h.1 ∙ ap (λ v. s + count v) h.0.value ∙ ap (λ n. s + n) one in
    let end : Step Val = Ok (w, e, s + 1) in
    let here : Ok x ≡ end = λ i. Ok (h.0.value i, h.0.ends i, n i) in
    here ∙ subst (λ u. end ≡ cond u (Err (past e)) end) (sym (le-ltb c.content e h.0.within)) refl
only_leaf c e s w one (Err f) h =
    let end : Step Val = Ok (w, e, s + 1) in
    let short : Step Val = Err (past e) in
    ap Err h.1 ∙ subst (λ u. short ≡ cond u short end) (sym (lt-ltb c.content e h.0)) refl

only_string : (c : Input) (b s : ℕ) → Finds c (StandsString c b) (BreaksString c b) s (string_at c b s)
unfolding string_at
only_string c b s (Ok x) h =
    let t = h.0 in
    let w = text_val (take t.n (bytes_from c b)) in
    let n : x.2 ≡ s + 1 = h.1 ∙ ap (λ v. s + count v) t.value in
    let here : Ok x ≡ Ok (w, b + 8 * (t.n + 1), s + 1) = λ i. Ok (t.value i, t.ends i, n i) in
    here ∙ ap (string_end b s (bytes_from c b)) (sym t.first)
only_string c b s (Err f) h = ap Err h.1 ∙ ap (string_end b s (bytes_from c b)) (sym h.0)

module _ (c : Input) (R : Val → ℕ → Type 0) (B : Fault → Type 0) (S : Val → ℕ → List Val → ℕ → Type 0) (T : Val → ℕ → ℕ → Fault → Type 0) (done : List Val) (s : ℕ) where
  abbrev Then : List Val → ℕ → Type 0
  Then vs q = (v : Val) × (m : ℕ) × R v m × S v m vs q

  abbrev Or : Fault → Type 0
  Or f = B f ⊎ ((v : Val) × (m : ℕ) × R v m × (s + count v ≤ c.limit) × T v m (s + count v) f)

  only_next : (r : Step Val) (f : Val → ℕ → ℕ → Step (List Val)) → Finds c R B s r → ((v : Val) (m : ℕ) (vs : List Val) (q : ℕ) → S v m vs q → counts (vals_of (done ++ v ∷ [])) ≤ counts (vals_of vs)) → ((v : Val) (m t : ℕ) → FindsAll c (S v m) (T v m t) (done ++ v ∷ []) t (f v m t)) → FindsAll c Then Or done s (and_then r f)
  only_next r f g grows rest (Ok y) h =
      let a = h.0 in
      let v = a.0 in
      let m = a.1 in
      let more = grows v m y.0 y.1 a.3 in
      let snoc = counts-snoc done v in
      let fits : s + count v ≤ c.limit = omega (arith, h.1, h.2, more, snoc) in
      let first : Ok (v, m, s + count v) ≡ r = g (Ok (v, m, s + count v)) (a.2, refl, fits) in
      rest v m (s + count v) (Ok y) (a.3, omega (arith, h.1, snoc), h.2) ∙ ap (λ z. and_then z f) first
  only_next r f g grows rest (Err e) h = elim h [
    | inl b ↦ ap (λ z. and_then z f) (g (Err e) b)
    | inr a ↦
        let first : Ok (a.0, a.1, s + count a.0) ≡ r = g (Ok (a.0, a.1, s + count a.0)) (a.2, refl, a.3) in
        rest a.0 a.1 (s + count a.0) (Err e) a.4 ∙ ap (λ z. and_then z f) first
  ]

module _ (c : Input) (R : ℕ → Val → ℕ → Type 0) (B : ℕ → ℕ → Fault → Type 0) (f : ℕ → ℕ → Step Val) where
  row_grows : (n : ℕ) (done : List Val) (p : ℕ) (vs : List Val) (q : ℕ) → StandsRow R n done p vs q → counts (vals_of done) ≤ counts (vals_of vs)
  row_grows zero done p vs q h = omega (arith, ap (λ x. counts (vals_of x)) h.0)
  row_grows (suc n) done p vs q h = omega (arith, row_grows n (done ++ h.0 ∷ []) h.1 vs q h.3, counts-snoc done h.0)

  only_row : ((p s : ℕ) → Finds c (R p) (B p s) s (f p s)) → (n : ℕ) (done : List Val) (p s : ℕ) → FindsAll c (StandsRow R n done p) (BreaksRow c R B n p s) done s (repeat f n done p s)
  only_row one zero done p s (Ok y) h =
      let n : y.2 ≡ s = omega (arith, h.1, ap (λ x. counts (vals_of x)) h.0.0) in λ i. Ok (h.0.0 i, h.0.1 i, n i)
  only_row one zero done p s (Err e) h = absurd h
  only_row one (suc n) done p s y h =
      only_next c (R p) (B p s) (λ v m. StandsRow R n (done ++ v ∷ []) m) (λ v m t. BreaksRow c R B n m t) done s (f p s) (λ v q t. repeat f n (done ++ v ∷ []) q t) (one p s) (λ v m vs q g. row_grows n (done ++ v ∷ []) m vs q g) (λ v m t. only_row one n (done ++ v ∷ []) m t) y h

only_whole : (c : Input) (make : Vals → Val) (R : List Val → ℕ → Type 0) (B : Fault → Type 0) (s : ℕ) (w : Step (List Val)) → ((vs : Vals) → count (make vs) ≡ 1 + counts vs) → FindsAll c R B [] (s + 1) w → Finds c (λ v q. (vs : List Val) × (v ≡ make (vals_of vs)) × R vs q) B s (and_then w (λ vs q t. Ok (make (vals_of vs), q, t)))
only_whole c make R B s w e g (Ok x) h =
    let vs = h.0.0 in
    let n = ap count h.0.1 in
    let m = e (vals_of vs) in
    let inner : Ok (vs, x.1, x.2) ≡ w = g (Ok (vs, x.1, x.2)) (h.0.2, omega (arith, h.1, n, m), h.2) in
    let here : Ok x ≡ Ok (make (vals_of vs), x.1, x.2) = λ i. Ok (h.0.1 i, x.1, x.2) in
    here ∙ ap (λ z. and_then z (λ vs q t. Ok (make (vals_of vs), q, t))) inner
only_whole c make R B s w e g (Err f) h = ap (λ z. and_then z (λ vs q t. Ok (make (vals_of vs), q, t))) (g (Err f) h)

only_choice : (c : Input) (i : ℕ) (R : Val → ℕ → Type 0) (B : Fault → Type 0) (s : ℕ) (w : Step Val) → Finds c R B (s + 1) w → Finds c (λ v q. (u : Val) × (v ≡ choice i u) × R u q) B s (and_then w (as_choice i))
only_choice c i R B s w g (Ok x) h =
    let u = h.0.0 in
    let n = ap count h.0.1 in
    let inner : Ok (u, x.1, x.2) ≡ w = g (Ok (u, x.1, x.2)) (h.0.2, omega (arith, h.1, n), h.2) in
    let here : Ok x ≡ Ok (choice i u, x.1, x.2) = λ j. Ok (h.0.1 j, x.1, x.2) in
    here ∙ ap (λ z. and_then z (as_choice i)) inner
only_choice c i R B s w g (Err f) h = ap (λ z. and_then z (as_choice i)) (g (Err f) h)

only_option : (c : Input) (o : Option ℕ) (R : ℕ → Val → ℕ → Type 0) (B : ℕ → Fault → Type 0) (s : ℕ) (f : ℕ → Step Val) → ((i : ℕ) → Finds c (R i) (B i) s (f i)) → Finds c (λ v q. (i : ℕ) × (o ≡ Some i) × R i v q) (λ g. IsOption o g (λ i. B i g)) s (with_option o f)
only_option c o R B s f g (Ok x) h =
    let i = h.0.0 in g i (Ok x) (h.0.2, h.1, h.2) ∙ ap (λ z. with_option z f) (sym h.0.1)
only_option c None R B s f g (Err e) h = ap Err h
only_option c (Some i) R B s f g (Err e) h = g i (Err e) h

members_grow : (ps : Parts) (c : Input) (env : Env) (done : List Val) (p : ℕ) (vs : List Val) (q : ℕ) → StandsMembers ps c env done p vs q → counts (vals_of done) ≤ counts (vals_of vs)
members_grow no_parts c env done p vs q h = omega (arith, ap (λ x. counts (vals_of x)) h.0)
members_grow (part n k ps) c env done p vs q h = omega (arith, members_grow ps c env (done ++ h.0 ∷ []) h.1 vs q h.3, counts-snoc done h.0)

mutual
  pub walk_only : (k : Form) (c : Input) (env : Env) (p s : ℕ) → Finds c (Stands k c env p) (Breaks k c env p s) s (walk k c env p s)
  walk_only (integer a i) c env p s =
      let b = next_multiple_of p a in
      let w = integer_at c i b in
      only_begin c (Leaf c (b + bits_of i) w) (BreaksLeaf c (b + bits_of i)) s (leaf c (b + bits_of i) s w) (λ l. only_leaf c (b + bits_of i) s w (one_integer c i b))
  walk_only (enumeration a i) c env p s =
      let b = next_multiple_of p a in
      let w = label_at c i b in
      only_begin c (Leaf c (b + bits_of i) w) (BreaksLeaf c (b + bits_of i)) s (leaf c (b + bits_of i) s w) (λ l. only_leaf c (b + bits_of i) s w refl)
  walk_only (string a) c env p s =
      let b = next_multiple_of p 8 in
      only_begin c (StandsString c b) (BreaksString c b) s (string_at c b s) (λ l. only_string c b s)
  walk_only (structure a ps) c env p s =
      let b = next_multiple_of p a in
      let R = StandsMembers ps c env [] b in
      let B = BreaksMembers ps c env [] b (s + 1) in
      let w = walk_members ps c env [] b (s + 1) in
      only_begin c (λ v q. (b ≤ c.content) × ((vs : List Val) × (v ≡ group (vals_of vs)) × R vs q)) (λ f. Opens c b f (B f)) s (open_at c b (and_then w as_group)) (λ l. only_open c (λ v q. (vs : List Val) × (v ≡ group (vals_of vs)) × R vs q) B s b (and_then w as_group) (only_whole c group R B s w (λ vs. refl) (members_only ps c env [] b (s + 1))))
  walk_only (variant a tag choices ps) c env p s =
      let o = option_at tag choices c.earlier env in
      let R = λ (i : ℕ) (v : Val) (q : ℕ). (w : Val) × (v ≡ choice i w) × StandsOption ps i c env p w q in
      let B = λ (i : ℕ). BreaksOption ps i c env p (s + 1) in
      let F = λ (i : ℕ). and_then (walk_option ps i c env p (s + 1)) (as_choice i) in
      only_begin c (λ v q. (i : ℕ) × (o ≡ Some i) × R i v q) (λ f. IsOption o f (λ i. B i f)) s (with_option o F) (λ l. only_option c o R B s F (λ i. only_choice c i (StandsOption ps i c env p) (B i) s (walk_option ps i c env p (s + 1)) (option_only ps i c env p (s + 1))))
  walk_only (array a many k) c env p s =
      let b = next_multiple_of p (align_of k) in
      let n = length_of many c.earlier env in
      let R = StandsRow (Stands k c env) n [] b in
      let B = BreaksRow c (Stands k c env) (Breaks k c env) n b (s + 1) in
      let w = repeat (walk k c env) n [] b (s + 1) in
      only_begin c (λ v q. (b ≤ c.content) × ((vs : List Val) × (v ≡ list (vals_of vs)) × R vs q)) (λ f. Opens c b f (B f)) s (open_at c b (and_then w as_list)) (λ l. only_open c (λ v q. (vs : List Val) × (v ≡ list (vals_of vs)) × R vs q) B s b (and_then w as_list) (only_whole c list R B s w (λ vs. refl) (only_row c (Stands k c env) (Breaks k c env) (walk k c env) (λ q t. walk_only k c env q t) n [] b (s + 1))))
  walk_only (text a many) c env p s =
      let b = next_multiple_of p 8 in
      let n = length_of many c.earlier env in
      only_begin c (Leaf c (b + 8 * n) (text_in c b n)) (BreaksLeaf c (b + 8 * n)) s (leaf c (b + 8 * n) s (text_in c b n)) (λ l. only_leaf c (b + 8 * n) s (text_in c b n) refl)

  members_only : (ps : Parts) (c : Input) (env : Env) (done : List Val) (p s : ℕ) → FindsAll c (StandsMembers ps c env done p) (BreaksMembers ps c env done p s) done s (walk_members ps c env done p s)
  members_only no_parts c env done p s (Ok y) h =
      let n : y.2 ≡ s = omega (arith, h.1, ap (λ x. counts (vals_of x)) h.0.0) in λ i. Ok (h.0.0 i, h.0.1 i, n i)
  members_only no_parts c env done p s (Err e) h = absurd h
  members_only (part n k ps) c env done p s y h =
      only_next c (Stands k c (done ∷ env) p) (Breaks k c (done ∷ env) p s) (λ v m. StandsMembers ps c env (done ++ v ∷ []) m) (λ v m t. BreaksMembers ps c env (done ++ v ∷ []) m t) done s (walk k c (done ∷ env) p s) (λ v q t. walk_members ps c env (done ++ v ∷ []) q t) (walk_only k c (done ∷ env) p s) (λ v m vs q g. members_grow ps c env (done ++ v ∷ []) m vs q g) (λ v m t. members_only ps c env (done ++ v ∷ []) m t) y h

  option_only : (ps : Parts) (i : ℕ) (c : Input) (env : Env) (p s : ℕ) → Finds c (StandsOption ps i c env p) (BreaksOption ps i c env p s) s (walk_option ps i c env p s)
  option_only no_parts i c env p s (Ok x) h = absurd h.0
  option_only no_parts i c env p s (Err e) h = ap Err h
  option_only (part n k ps) zero c env p s r h = walk_only k c env p s r h
  option_only (part n k ps) (suc i) c env p s r h = option_only ps i c env p s r h
