-- The order of turns, and the turns of streams.
use Rattle.std.proofs.Common.{◌≡◌, ℤ, ℕ, zero, suc, ◌+◌, ◌≤◌, ◌<◌, Bool, true, false, cond, int_lt, ◌<ℤ◌, List, [], ◌∷◌, ◌++◌, length, set, slice_get, Option, Some, None, IfSome, refl, sym, ap, ◌∙◌, subst, arith}
use Rattle.std.specs.Ordering.{int_cmp, nat_cmp, ordering_then, ordering_reverse, is_lt, is_gt, MatchOrdering}
use Rattle.std.specs.Option.{option_cmp}
use Rattle.std.specs.Cmp.Lexicographic.{options_total}
use Rattle.std.specs.List.{AllByRecursion}
use Rattle.std.specs.declared.cmp.Ordering.{Ordering}
use Rattle.std.specs.declared.cmp.Ordering.TheVariants.{Less, Equal, Greater}
use Rattle.std.proofs.lemmas.Cmp.{int_cmp_total, upto, tied_itself, ranked, int_ranked}
use Rattle.ctf_packet.specs.Classes.{Classes}
use Rattle.ctf_packet.specs.Items.{Item}
use Rattle.ctf_packet.specs.ItemTimes.{time_of}
use Rattle.ctf_stream.specs.Peeked.{told}
use Rattle.ctf_stream.specs.Reader as reader
use Rattle.stream_laws.specs.Times.{is_before}
use Rattle.ctf_merge.specs.Merged.{First, item, broken, nothing, later, least, with_first, first_of}
use Rattle.ctf_stream.specs.declared.peeked.Peeked.{Peeked}
use Rattle.ctf_stream.specs.declared.peeked.Peeked.TheVariants as aheads
use Rattle.ctf_merge.specs.Trees.{IsLow}
use Rattle.ctf_merge.specs.Turns.{Turn, turn_cmp, turns_total, turn_at, turns_from}
use Rattle.ctf_merge.proofs.Merging.{later_item}
use Rattle.ctf_merge.proofs.Going.{front_by, next_by}

-- ---- the order of turns

pub both_equal : (o p : Ordering) → ordering_then o p ≡ Equal → (o ≡ Equal) × (p ≡ Equal)
both_equal Less p e = absurd cc
both_equal Equal p e = (refl, e)
both_equal Greater p e = absurd cc

pub int_same : (x y : ℤ) → int_cmp x y ≡ Equal → x ≡ y
int_same x y e = subst (λ (o : Ordering). MatchOrdering o (x <ℤ y) (x ≡ y) (y <ℤ x)) e (int_ranked x y (int_cmp x y) refl)

pub nat_same : (x y : ℕ) → nat_cmp x y ≡ Equal → x ≡ y
nat_same x y e = subst (λ (o : Ordering). MatchOrdering o (x < y) (x ≡ y) (y < x)) e (ranked x y (nat_cmp x y) refl)

pub option_same : (a b : Option ℤ) → option_cmp int_cmp a b ≡ Equal → a ≡ b
option_same None None e = refl
option_same None (Some y) e = absurd cc
option_same (Some x) None e = absurd cc
option_same (Some x) (Some y) e = ap (λ (z : ℤ). Some z) (int_same x y e)

pub turn_same : (x y : Turn) → turn_cmp x y ≡ Equal → x ≡ y
turn_same x y e =
    let both = both_equal (option_cmp int_cmp x.time y.time) (nat_cmp x.number y.number) e in
    λ i. record { time = option_same x.time y.time both.0 i; number = nat_same x.number y.number both.1 i }

pub flipped : (o : Ordering) → is_lt (ordering_reverse o) ≡ is_gt o
flipped Less = refl
flipped Equal = refl
flipped Greater = refl

pub less_is : (x y : Turn) → is_lt (turn_cmp x y) ≡ is_gt (turn_cmp y x)
less_is x y = ap is_lt (turns_total.antisymm x y) ∙ flipped (turn_cmp y x)

pub not_less_along : (x y z : Turn) → is_lt (turn_cmp x y) ≡ false → is_lt (turn_cmp y z) ≡ false → is_lt (turn_cmp x z) ≡ false
not_less_along x y z first second =
    less_is x z ∙ upto turns_total z y x (sym (less_is y z) ∙ second) (sym (less_is x y) ∙ first)

pub neither_less : (o p : Ordering) → o ≡ ordering_reverse p → is_lt o ≡ false → is_lt p ≡ false → o ≡ Equal
neither_less o Less e l m = absurd cc
neither_less o Equal e l m = e
neither_less o Greater e l m = absurd (let no : true ≡ false = sym (ap is_lt e) ∙ l in cc)

pub same_turn : (x y : Turn) → is_lt (turn_cmp x y) ≡ false → is_lt (turn_cmp y x) ≡ false → x ≡ y
same_turn x y l m = turn_same x y (neither_less (turn_cmp x y) (turn_cmp y x) (turns_total.antisymm x y) l m)

pub not_less_itself : (x : Turn) → is_lt (turn_cmp x x) ≡ false
not_less_itself x = ap is_lt (tied_itself turns_total x)

pub before_is : (a b : Option ℤ) → is_before a b ≡ is_lt (option_cmp int_cmp a b)
before_is None None = refl
before_is None (Some y) = refl
before_is (Some x) None = refl
before_is (Some x) (Some y) = by_tests (int_lt x y) (int_lt y x)
  where
    by_tests : (a b : Bool) → a ≡ is_lt (cond a Less (cond b Greater Equal))
    by_tests true b = refl
    by_tests false true = refl
    by_tests false false = refl

pub less_at_first : (o p q : Ordering) → o ≡ ordering_reverse p → is_lt p ≡ true → is_lt (ordering_then o q) ≡ false
less_at_first o Less q e l = rw e refl
less_at_first o Equal q e l = absurd cc
less_at_first o Greater q e l = absurd cc

-- a turn is not less than one of an earlier time
pub later_time : (a b : Option ℤ) (m n : ℕ) → is_before b a ≡ true → is_lt (turn_cmp (record { time = a; number = m }) (record { time = b; number = n })) ≡ false
later_time a b m n e =
    less_at_first (option_cmp int_cmp a b) (option_cmp int_cmp b a) (nat_cmp m n) ((options_total int_cmp_total).antisymm a b) (sym (before_is b a) ∙ e)

pub not_less_then : (o p : Ordering) → is_lt o ≡ false → is_lt p ≡ false → is_lt (ordering_then o p) ≡ false
not_less_then Less p l m = absurd cc
not_less_then Equal p l m = m
not_less_then Greater p l m = refl

pub not_less_number : (n m : ℕ) → m ≤ n → is_lt (nat_cmp n m) ≡ false
not_less_number n m le = by_order (nat_cmp n m) (ranked n m (nat_cmp n m) refl)
  where
    by_order : (o : Ordering) → MatchOrdering o (n < m) (n ≡ m) (m < n) → is_lt o ≡ false
    by_order Less h = absurd (omega (arith, h))
    by_order Equal h = refl
    by_order Greater h = refl

-- a turn of a time that is not earlier is not less than one of a lower stream
pub later_number : (a b : Option ℤ) (m n : ℕ) → is_before b a ≡ false → m ≤ n → is_lt (turn_cmp (record { time = b; number = n }) (record { time = a; number = m })) ≡ false
later_number a b m n e le = not_less_then (option_cmp int_cmp b a) (nat_cmp n m) (sym (before_is b a) ∙ e) (not_less_number n m le)

pub not_before : (x y : Turn) → is_lt (turn_cmp x y) ≡ false → is_before x.time y.time ≡ false
not_before x y e = before_is x.time y.time ∙ not_less_first (option_cmp int_cmp x.time y.time) (nat_cmp x.number y.number) e
  where
    not_less_first : (o p : Ordering) → is_lt (ordering_then o p) ≡ false → is_lt o ≡ false
    not_less_first Less p e = e
    not_less_first Equal p e = refl
    not_less_first Greater p e = refl

-- of two turns at one time the first has the lower stream
pub tied : (a b : Option ℤ) (m n : ℕ) → is_lt (turn_cmp (record { time = b; number = n }) (record { time = a; number = m })) ≡ false → is_before b a ≡ false → is_before a b ≡ false → m ≤ n
tied a b m n low first second =
    let same = neither_less (option_cmp int_cmp b a) (option_cmp int_cmp a b) ((options_total int_cmp_total).antisymm b a) (sym (before_is b a) ∙ first) (sym (before_is a b) ∙ second) in
    by_order (nat_cmp n m) (ranked n m (nat_cmp n m) refl) (sym (ap (λ (o : Ordering). is_lt (ordering_then o (nat_cmp n m))) same) ∙ low)
  where
    by_order : (o : Ordering) → MatchOrdering o (n < m) (n ≡ m) (m < n) → is_lt o ≡ false → m ≤ n
    by_order Less h l = absurd cc
    by_order Equal h l = omega (arith, h)
    by_order Greater h l = omega (arith, h)

-- ---- lists of turns

module _ {X : Type 0} (P : X → Type 0) where
  pub all_append : (xs ys : List X) → AllByRecursion P xs → AllByRecursion P ys → AllByRecursion P (xs ++ ys)
  all_append [] ys a b = b
  all_append (x ∷ xs) ys a b = (a.0, all_append xs ys a.1 b)

  pub all_other : (Q : X → Type 0) → ((x : X) → P x → Q x) → (xs : List X) → AllByRecursion P xs → AllByRecursion Q xs
  all_other Q f [] a = tt
  all_other Q f (x ∷ xs) a = (f x a.0, all_other Q f xs a.1)

abbrev pub turn_of : ℕ → Item Classes → Turn
turn_of number x = record { time = time_of x; number = number }

pub turns_length : (from : ℕ) (hs : List reader.Peeked) → length (turns_from from hs) ≡ length hs
turns_length from [] = refl
turns_length from (h ∷ hs) = let rest = turns_length (suc from) hs in omega (arith, rest)

pub turns_set : (from k n : ℕ) (hs : List reader.Peeked) (h : reader.Peeked) → k ≡ from + n → turns_from from (set hs n h) ≡ set (turns_from from hs) n (turn_at k (told h))
turns_set from k n [] h is = refl
turns_set from k zero (g ∷ hs) h is = ap (λ (j : ℕ). turn_at j (told h) ∷ turns_from (suc from) hs) (let at : from ≡ k = omega (arith, is) in at)
turns_set from k (suc m) (g ∷ hs) h is = λ i. turn_at from (told g) ∷ turns_set (suc from) k m hs h (omega (arith, is)) i

pub turns_more : (from k : ℕ) (hs : List reader.Peeked) (h : reader.Peeked) → k ≡ from + length hs → turns_from from (hs ++ h ∷ []) ≡ turns_from from hs ++ turn_at k (told h) ∷ []
turns_more from k [] h is = ap (λ (j : ℕ). turn_at j (told h) ∷ []) (let at : from ≡ k = omega (arith, is) in at)
turns_more from k (g ∷ hs) h is = λ i. turn_at from (told g) ∷ turns_more (suc from) k hs h (omega (arith, is)) i

-- the first item has a turn
pub turn_there : (from k : ℕ) (hs : List reader.Peeked) (n : ℕ) (x : Item Classes) → k ≡ from + n → first_of hs ≡ item n x → slice_get (turns_from from hs) n ≡ Some (Some (turn_of k x))
turn_there from k [] n x is e = absurd cc
turn_there from k (h ∷ hs) zero x is e =
    ap (λ (a : reader.Peeked). Some (turn_at from (told a))) (front_by h (first_of hs) x e) ∙ ap (λ (j : ℕ). Some (Some (turn_of j x))) (let q : from ≡ k = omega (arith, is) in q)
turn_there from k (h ∷ hs) (suc m) x is e = turn_there (suc from) k hs m x (omega (arith, is)) (next_by h (first_of hs) m x e)

-- a turn is that of the stream at its place
pub turn_number : (from n : ℕ) (hs : List reader.Peeked) (t : Turn) → slice_get (turns_from from hs) n ≡ Some (Some t) → t.number ≡ from + n
turn_number from n [] t e = absurd cc
turn_number from zero (h ∷ hs) t e = by_head (told h) (some_is e)
  where
    some_is : Some (turn_at from (told h)) ≡ Some (Some t) → turn_at from (told h) ≡ Some t
    some_is e = cc

    by_head : (a : Peeked) → turn_at from a ≡ Some t → t.number ≡ from + 0
    by_head aheads.Start e = absurd cc
    by_head (aheads.Item time) e =
        let same : record { time = time; number = from } ≡ t = cc in
        let number = ap (λ (u : Turn). u.number) same in
        omega (arith, number)
    by_head aheads.Ended e = absurd cc
    by_head (aheads.Fault f) e = absurd cc
turn_number from (suc m) (h ∷ hs) t e = let there = turn_number (suc from) m hs t e in omega (arith, there)

-- no stream has a turn
abbrev pub NoTurns : List (Option Turn) → Type 0
NoTurns turns = AllByRecursion (λ t. t ≡ None) turns

pub no_turns_by : (from : ℕ) (h : reader.Peeked) (hs : List reader.Peeked) → (first_of hs ≡ nothing → NoTurns (turns_from (suc from) hs)) → first_of (h ∷ hs) ≡ nothing → NoTurns (turns_from from (h ∷ hs))
no_turns_by from h hs others e = by_head h (first_of hs) refl e
  where
    after : (f : First) → later f ≡ nothing → f ≡ nothing
    after (item i x) e = absurd cc
    after (broken i f) e = absurd cc
    after nothing e = refl

    not_least : (y : Item Classes) (f : First) → least y f ≡ nothing → ⊥
    not_least y (item i z) e = either (is_before (time_of z) (time_of y)) e
      where
        either : (b : Bool) → cond b (item i z) (item 0 y) ≡ nothing → ⊥
        either true h = absurd cc
        either false h = absurd cc
    not_least y (broken i f) e = absurd cc
    not_least y nothing e = absurd cc

    by_head : (h : reader.Peeked) (f : First) → first_of hs ≡ f → with_first h (later f) ≡ nothing → NoTurns (turns_from from (h ∷ hs))
    by_head reader.start f is e = (refl, others (is ∙ after f e))
    by_head (reader.item y) f is e = absurd (not_least y (later f) e)
    by_head reader.ended f is e = (refl, others (is ∙ after f e))
    by_head (reader.fault g) f is e = absurd cc

pub no_turns : (from : ℕ) (hs : List reader.Peeked) → first_of hs ≡ nothing → NoTurns (turns_from from hs)
no_turns from [] e = tt
no_turns from (h ∷ hs) e = no_turns_by from h hs (no_turns (suc from) hs) e

-- no turn is less than that of the first item
lower_too : (x y : Turn) (t : Option Turn) → IfSome t (λ u. is_lt (turn_cmp u x) ≡ false) → is_lt (turn_cmp x y) ≡ false → IfSome t (λ u. is_lt (turn_cmp u y) ≡ false)
lower_too x y None not low = tt
lower_too x y (Some u) not low = not_less_along u x y not low

none_low : (x : Turn) (t : Option Turn) → t ≡ None → IfSome t (λ u. is_lt (turn_cmp u x) ≡ false)
none_low x None e = tt
none_low x (Some u) e = absurd cc

pub lows_by : (from k : ℕ) (h : reader.Peeked) (hs : List reader.Peeked) (n : ℕ) (x : Item Classes)
    → ((k j : ℕ) (z : Item Classes) → k ≡ suc from + j → first_of hs ≡ item j z → IsLow (turn_of k z) (turns_from (suc from) hs))
    → k ≡ from + n → first_of (h ∷ hs) ≡ item n x → IsLow (turn_of k x) (turns_from from (h ∷ hs))
lows_by from k h hs n x others is e = by_head h e
  where
    after : later (first_of hs) ≡ item n x → IsLow (turn_of k x) (turns_from (suc from) hs)
    after l =
        let it = later_item (first_of hs) n x l in
        let number = it.1.0 in
        others k it.0 x (omega (arith, is, number)) it.1.1

    by_item : (y : Item Classes) (f : First) → first_of hs ≡ f → least y (later f) ≡ item n x → IsLow (turn_of k x) (turns_from from (reader.item y ∷ hs))
    by_item y (item j z) at l = either (is_before (time_of z) (time_of y)) refl l
      where
        either : (b : Bool) → is_before (time_of z) (time_of y) ≡ b → cond b (item (suc j) z) (item 0 y) ≡ item n x → IsLow (turn_of k x) (turns_from from (reader.item y ∷ hs))
        either true is_b l =
            let number : suc j ≡ n = cc in
            let same : z ≡ x = cc in
            let here : is_lt (turn_cmp (turn_of from y) (turn_of k x)) ≡ false = later_time (time_of y) (time_of x) from k (sym (ap (λ (w : Item Classes). is_before (time_of w) (time_of y)) same) ∙ is_b) in
            (here, others k j x (omega (arith, is, number)) (at ∙ ap (λ (w : Item Classes). item j w) same))
        either false is_b l =
            let number : 0 ≡ n = cc in
            let same : y ≡ x = cc in
            let k_is : from ≡ k = omega (arith, is, number) in
            let there = others (suc from + j) j z refl at in
            let low = later_number (time_of y) (time_of z) from (suc from + j) is_b (omega arith) in
            let all : IsLow (turn_of from y) (turns_from from (reader.item y ∷ hs)) = (
              not_less_itself (turn_of from y),
              all_other (λ t. IfSome t (λ u. is_lt (turn_cmp u (turn_of (suc from + j) z)) ≡ false)) (λ t. IfSome t (λ u. is_lt (turn_cmp u (turn_of from y)) ≡ false))
                  (λ t not. lower_too (turn_of (suc from + j) z) (turn_of from y) t not low) (turns_from (suc from) hs) there,
            ) in
            subst (λ (t : Turn). IsLow t (turns_from from (reader.item y ∷ hs))) (λ i. turn_of (k_is i) (same i)) all
    by_item y (broken j f) at l = absurd cc
    by_item y nothing at l =
        let number : 0 ≡ n = cc in
        let same : y ≡ x = cc in
        let k_is : from ≡ k = omega (arith, is, number) in
        let all : IsLow (turn_of from y) (turns_from from (reader.item y ∷ hs)) =
        (not_less_itself (turn_of from y), all_other (λ t. t ≡ None) (λ t. IfSome t (λ u. is_lt (turn_cmp u (turn_of from y)) ≡ false)) (none_low (turn_of from y)) (turns_from (suc from) hs) (no_turns (suc from) hs at)) in
        subst (λ (t : Turn). IsLow t (turns_from from (reader.item y ∷ hs))) (λ i. turn_of (k_is i) (same i)) all

    by_head : (h : reader.Peeked) → with_first h (later (first_of hs)) ≡ item n x → IsLow (turn_of k x) (turns_from from (h ∷ hs))
    by_head reader.start l = (tt, after l)
    by_head (reader.item y) l = by_item y (first_of hs) refl l
    by_head reader.ended l = (tt, after l)
    by_head (reader.fault f) l = absurd cc

pub lows : (from k : ℕ) (hs : List reader.Peeked) (n : ℕ) (x : Item Classes) → k ≡ from + n → first_of hs ≡ item n x → IsLow (turn_of k x) (turns_from from hs)
lows from k [] n x is e = absurd cc
lows from k (h ∷ hs) n x is e = lows_by from k h hs n x (λ k j z at f. lows (suc from) k hs j z at f) is e
