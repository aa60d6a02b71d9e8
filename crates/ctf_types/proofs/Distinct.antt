-- Without own faults nothing is wrong with the settings of a declaration, and no two streams have one id.
use Rattle.std.proofs.Common.{◌≡◌, ℕ, zero, suc, ◌+◌, Bool, true, false, ◌||◌, nat_eq, List, [], ◌∷◌, ◌++◌, take, length, Option, Some, None, refl, sym, ap, ◌∙◌, subst, arith, append_assoc}
use Rattle.std.specs.Prelude.{filter_map, flat_map, slice_get, option_map}
use Rattle.std.specs.List.{list_any, cons_option, enumerate_from}
use Rattle.std.specs.Option.{option_map_or}
use Rattle.ctf_meaning.specs.declared.fault.ResolveFault.{ResolveFault}
use Rattle.ctf_meaning.specs.declared.fault.ResolveFault.TheVariants.{Twice}
use Rattle.tsdl_tree.specs.declared.tree.BlockKind.TheVariants.{Trace, Stream as StreamKind, Event}
use Rattle.ctf_meaning.specs.Written.{Declaration, Block, Table, Names}
use Rattle.ctf_meaning.specs.Settings.{when}
use Rattle.ctf_meaning.specs.Names.{entries_in}
use Rattle.ctf_meaning.specs.Own.{faults_within}
use Rattle.ctf_meaning.specs.Blocks.{stream_id_of, block_faults, twice_faults}
use Rattle.ctf_meaning.specs.Scopes.{scope_faults, classes_at, node_faults}
use Rattle.ctf_meaning.specs.Streams.{Stream, numbered, stream_by, streams, or_plain}
use Rattle.ctf_meaning.specs.Faults.{own_faults, most_nodes}
use Rattle.ctf_meaning.specs.Laws.{HasNoOwnFault}
use Rattle.ctf_meaning.proofs.Lists.{Each, each_map, some_same, append_left, append_right, or_left, or_right}
use Rattle.ctf_meaning.proofs.Shaped.{when_not}
use Rattle.ctf_meaning.proofs.Clean.{block_none}
use Rattle.ctf_types.specs.Whole.{AreSettled}

none_at : {X : Type 0} (f : ℕ × X → List ResolveFault) (n : ℕ) (xs : List X) (i : ℕ) (x : X) → flat_map f (enumerate_from n xs) ≡ [] → slice_get xs i ≡ Some x → f (n + i, x) ≡ []
none_at f n [] i x h e = absurd (grind (arith, e))
none_at f n (y ∷ ys) zero x h e =
    let same : y ≡ x = some_is e in
    subst (λ m. f (m, x) ≡ []) (let z : n ≡ n + 0 = omega arith in z) (subst (λ z. f (n, z) ≡ []) same (append_left (f (n, y)) (flat_map f (enumerate_from (n + 1) ys)) h))
  where
    some_is : Some y ≡ Some x → y ≡ x
    some_is s = some_same y x s
none_at f n (y ∷ ys) (suc i) x h e =
    subst (λ m. f (m, x) ≡ []) (let z : n + 1 + i ≡ n + suc i = omega arith in z)
    (none_at f (n + 1) ys i x (append_right (f (n, y)) (flat_map f (enumerate_from (n + 1) ys)) h) e)

module _ (text : List Declaration) (own : HasNoOwnFault text) where
  pub own_at : (k : ℕ) (d : Declaration) → slice_get text k ≡ Some d → own_faults text (k, d) ≡ []
  own_at k d e = subst (λ m. own_faults text (m, d) ≡ []) (let z : 0 + k ≡ k = omega arith in z) (none_at (own_faults text) 0 text k d own e)

  pub settled : AreSettled text
  settled k d e = block_none text k d (own_at k d e)

  twice_at : (k : ℕ) (d : Declaration) → slice_get text k ≡ Some d → twice_faults (take k text) d ≡ []
  twice_at k d e =
      let to_block = faults_within (entries_in text) k d ++ block_faults d in
      let twice = twice_faults (take k text) d in
      let floats = flat_map scope_faults (classes_at text k d) in
      append_right to_block twice (append_left (to_block ++ twice) floats (append_left (to_block ++ twice ++ floats) (node_faults text most_nodes k) (own_at k d e)))

  seam : (bs ds : List Declaration) (d : Declaration) → slice_get (bs ++ d ∷ ds) (length bs) ≡ Some d
  seam [] ds d = refl
  seam (b ∷ bs) ds d = seam bs ds d

  front : (bs ds : List Declaration) → take (length bs) (bs ++ ds) ≡ bs
  front [] ds = refl
  front (b ∷ bs) ds = ap (λ xs. b ∷ xs) (front bs ds)

  twice_none : (bs ds : List Declaration) (d : Declaration) → text ≡ bs ++ d ∷ ds → twice_faults bs d ≡ []
  twice_none bs ds d e =
      subst (λ xs. twice_faults xs d ≡ []) (ap (take (length bs)) e ∙ front bs (d ∷ ds))
      (twice_at (length bs) d (ap (λ xs. slice_get xs (length bs)) e ∙ seam bs ds d))

abbrev ids : List Declaration → List ℕ
ids ds = filter_map stream_id_of ds

-- no stream has the id of one of these
abbrev Apart : List ℕ → Stream → Type 0
Apart ns t = list_any (nat_eq t.id) ns ≡ false

abbrev pub Distinct : List Stream → Type 0
Distinct [] = Unit {0}
Distinct (s ∷ ss) = Each (λ t. nat_eq s.id t.id ≡ false) ss × Distinct ss

any_append : (p : ℕ → Bool) (xs ys : List ℕ) → list_any p (xs ++ ys) ≡ (list_any p xs || list_any p ys)
any_append p [] ys = refl
any_append p (x ∷ xs) ys = by_case (p x) (any_append p xs ys)
  where
    by_case : (b : Bool) → list_any p (xs ++ ys) ≡ (list_any p xs || list_any p ys) → (b || list_any p (xs ++ ys)) ≡ ((b || list_any p xs) || list_any p ys)
    by_case true h = refl
    by_case false h = h

map_append : (f : Declaration → Option ℕ) (xs : List Declaration) (d : Declaration) → filter_map f (xs ++ d ∷ []) ≡ filter_map f xs ++ cons_option (f d) []
map_append f [] d = refl
map_append f (x ∷ xs) d = by_case (f x) (map_append f xs d)
  where
    by_case : (o : Option ℕ) → filter_map f (xs ++ d ∷ []) ≡ filter_map f xs ++ cons_option (f d) [] → cons_option o (filter_map f (xs ++ d ∷ [])) ≡ cons_option o (filter_map f xs) ++ cons_option (f d) []
    by_case None h = h
    by_case (Some n) h = ap (λ ys. n ∷ ys) h

before : (bs : List Declaration) (d : Declaration) (t : Stream) → Apart (ids (bs ++ d ∷ [])) t → Apart (ids bs) t × Apart (cons_option (stream_id_of d) []) t
before bs d t h =
    let both : (list_any (nat_eq t.id) (ids bs) || list_any (nat_eq t.id) (cons_option (stream_id_of d) [])) ≡ false =
    sym (any_append (nat_eq t.id) (ids bs) (cons_option (stream_id_of d) [])) ∙ sym (ap (list_any (nat_eq t.id)) (map_append stream_id_of bs d)) ∙ h in
    (or_left (list_any (nat_eq t.id) (ids bs)) _ both, or_right (list_any (nat_eq t.id) (ids bs)) _ both)

turned : (a b : ℕ) → nat_eq a b ≡ false → nat_eq b a ≡ false
turned a b h = grind (arith, h)

module _ (text : List Declaration) (own : HasNoOwnFault text) where
  apart_by : (ds : List Declaration) (bs : List Declaration) (n : ℕ) → text ≡ bs ++ ds →
      Each (Apart (ids bs)) (filter_map stream_by (enumerate_from n ds)) × Distinct (filter_map stream_by (enumerate_from n ds))
  apart_by [] bs n e = (tt, tt)
  apart_by (d ∷ ds) bs n e =
      by_id (stream_id_of d) refl (apart_by ds (bs ++ d ∷ []) (n + 1) (e ∙ sym (append_assoc bs (d ∷ []) ds)))
    where
      later : List Stream
      later = filter_map stream_by (enumerate_from (n + 1) ds)

      here : (d : Declaration) (id : ℕ) → stream_id_of d ≡ Some id → twice_faults bs d ≡ [] → list_any (nat_eq id) (ids bs) ≡ false
      here (Block StreamKind es) id h none =
          when_not (list_any (nat_eq id) (ids bs)) Twice
          (ap (λ o. option_map_or (λ m. when (list_any (nat_eq m) (ids bs)) Twice) o []) (sym h) ∙ none)
      here (Block Trace es) id h none = absurd (grind (arith, h))
      here (Block Event es) id h none = absurd (grind (arith, h))
      here (Table kind settings) id h none = absurd (grind (arith, h))
      here (Names item) id h none = absurd (grind (arith, h))

      by_id : (o : Option ℕ) → stream_id_of d ≡ o →
          Each (Apart (ids (bs ++ d ∷ []))) later × Distinct later →
          Each (Apart (ids bs)) (cons_option (option_map (λ id. record { block = Some n; id = id }) o) later) × Distinct (cons_option (option_map (λ id. record { block = Some n; id = id }) o) later)
      by_id None is rest = (each_map (Apart (ids (bs ++ d ∷ []))) (Apart (ids bs)) (λ t a. (before bs d t a).0) later rest.0, rest.1)
      by_id (Some id) is rest = (
        (here d id is (twice_none text own bs ds d e), each_map (Apart (ids (bs ++ d ∷ []))) (Apart (ids bs)) (λ t a. (before bs d t a).0) later rest.0),
        (
          each_map (Apart (ids (bs ++ d ∷ []))) (λ t. nat_eq id t.id ≡ false)
              (λ t a. turned t.id id (or_left (nat_eq t.id id) false (subst (λ o. list_any (nat_eq t.id) (cons_option o []) ≡ false) is (before bs d t a).1))) later rest.0,
          rest.1,
        ),
      )

  pub streams_distinct : Distinct (streams text)
  streams_distinct = or_plain_distinct (filter_map stream_by (numbered text)) (apart_by text [] 0 refl).1
    where
      or_plain_distinct : (ss : List Stream) → Distinct ss → Distinct (or_plain ss)
      or_plain_distinct [] h = (tt, tt)
      or_plain_distinct (s ∷ ss) h = h

each_at : {X : Type 0} (P : X → Type 0) (xs : List X) (i : ℕ) (x : X) → Each P xs → slice_get xs i ≡ Some x → P x
each_at P [] i x h e = absurd (grind (arith, e))
each_at P (y ∷ ys) zero x h e = subst P (some_same y x e) h.0
each_at P (y ∷ ys) (suc i) x h e = each_at P ys i x h.1 e

-- a stream's id is that of the stream at its place alone
pub alone : (ss : List Stream) (i j : ℕ) (t s : Stream) → Distinct ss → slice_get ss i ≡ Some t → slice_get ss j ≡ Some s → nat_eq t.id s.id ≡ nat_eq i j
alone [] i j t s h e f = absurd (grind (arith, e))
alone (x ∷ xs) zero zero t s h e f =
    let a : x ≡ t = some_same x t e in
    let b : x ≡ s = some_same x s f in
    same_ids t.id s.id (ap (λ (z : Stream). z.id) (sym a ∙ b))
  where
    same_ids : (m n : ℕ) → m ≡ n → nat_eq m n ≡ true
    same_ids m n q = grind (arith, q)
alone (x ∷ xs) zero (suc j) t s h e f =
    let less : nat_eq 0 (suc j) ≡ false = grind arith in
    subst (λ (z : Stream). nat_eq z.id s.id ≡ false) (some_same x t e) (each_at (λ z. nat_eq x.id z.id ≡ false) xs j s h.0 f) ∙ sym less
alone (x ∷ xs) (suc i) zero t s h e f =
    let more : nat_eq (suc i) 0 ≡ false = grind arith in
    turned s.id t.id (subst (λ (z : Stream). nat_eq z.id t.id ≡ false) (some_same x s f) (each_at (λ z. nat_eq x.id z.id ≡ false) xs i t h.0 e)) ∙ sym more
alone (x ∷ xs) (suc i) (suc j) t s h e f =
    let same : nat_eq i j ≡ nat_eq (suc i) (suc j) = less_one i j in
    alone xs i j t s h.1 e f ∙ same
  where
    less_one : (m n : ℕ) → nat_eq m n ≡ nat_eq (suc m) (suc n)
    less_one m n = grind arith
