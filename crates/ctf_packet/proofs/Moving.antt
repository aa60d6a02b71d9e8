-- The clock after members, one more at a time.
use Rattle.std.proofs.Common.{◌≡◌, ℕ, cond, zero, suc, ℤ, ◌+◌, ◌-◌, ◌%◌, ◌^◌, ◌<◌, ◌≤◌, List, [], ◌∷◌, ◌++◌, map, drop, length, get_or, Option, Some, None, refl, sym, ap, ◌∙◌, arith, rules}
use Rattle.std.specs.Prelude.{option_and_then}
use Rattle.std.proofs.Math.Nat.{mod-add-mod}
use Rattle.std.proofs.lemmas.List.Elements.{All-head, All-tail}
use Rattle.std.specs.List.{All}
use Rattle.ctf_class.specs.Fronts.{AreClockMembers, SetsNoClock, members_of, members_of_kind}
use Rattle.ctf_class.specs.declared.class.Class as class
use Rattle.ctf_class.specs.declared.class.Class.{Class}
use Rattle.ctf_class.specs.declared.class.Kind.TheViews.{out-Kind}
use Rattle.ctf_class.specs.declared.class.Kind as kind
use Rattle.ctf_class.specs.declared.class.Member.{Member}
use Rattle.ctf_clock.specs.declared.moment.Moment.{Moment}
use Rattle.ctf_clock.specs.Clock.{Line, moment_at, advanced, advanced_by}
use Rattle.ctf_clock.specs.Counting.{steps_up}
use Rattle.std.specs.Int.{w64, cast_unsigned}
use Rattle.ctf_decode.specs.Values.{Val, signed, vals_of}
use Rattle.ctf_decode.specs.Forms.{Form, parts_of}
use Rattle.ctf_decode.specs.Views.{form, shape, member_part, val}
use Rattle.ctf_decode.specs.declared.value.Value as value
use Rattle.ctf_decode.specs.declared.value.Value.{Value}
use Rattle.ctf_decode.proofs.Views.{form-is, part-is, shape-Integer, shape-Structure}
use Rattle.ctf_decode.specs.Fields.{members_in, of_each}
use Rattle.ctf_packet.specs.Moved.{low_bits, signed_pair, unsigned_pair, moved, member_moved, option_moved}
use Rattle.ctf_packet.proofs.Named.{here, drop-all}

through : (line : Line) (xs ys : List (ℕ × ℕ)) (ih : (n : Moment) → advanced_by line n (xs ++ ys) ≡ option_and_then (λ d. advanced_by line d ys) (advanced_by line n xs)) (o : Option Moment)
    → option_and_then (λ n. advanced_by line n (xs ++ ys)) o ≡ option_and_then (λ d. advanced_by line d ys) (option_and_then (λ n. advanced_by line n xs) o)
through line xs ys ih None = refl
through line xs ys ih (Some n) = ih n

pub advanced_by-append : (line : Line) (c : Moment) (xs ys : List (ℕ × ℕ)) → advanced_by line c (xs ++ ys) ≡ option_and_then (λ d. advanced_by line d ys) (advanced_by line c xs)
advanced_by-append line c [] ys = refl
advanced_by-append line c (m ∷ xs) ys = through line xs ys (λ n. advanced_by-append line n xs ys) (advanced line c m.0 m.1)

go : (line : Line) (c d : Moment) (xs ys : List (ℕ × ℕ)) → Some d ≡ advanced_by line c xs → advanced_by line d ys ≡ advanced_by line c (xs ++ ys)
go line c d xs ys e = ap (option_and_then (λ n. advanced_by line n ys)) e ∙ sym (advanced_by-append line c xs ys)

stop : (line : Line) (c : Moment) (xs ys : List (ℕ × ℕ)) → None ≡ advanced_by line c xs → None ≡ advanced_by line c (xs ++ ys)
stop line c xs ys e = ap (option_and_then (λ n. advanced_by line n ys)) e ∙ sym (advanced_by-append line c xs ys)

abbrev pub members : List Member → List Value → List (ℕ × ℕ)
members ms vs = member_moved (parts_of (map member_part ms)) (vals_of (map val vs))

opens : (ms : List Member) (vs : List Value) (i : ℕ) (m : Member) (v : Value) → i < length ms → i < length vs → m ≡ get_or ms i m → v ≡ get_or vs i v
    → members (drop i ms) (drop i vs) ≡ moved (form m.class) (val v) ++ members (drop (i + 1) ms) (drop (i + 1) vs)
opens ms vs i m v l k e f =
    let rest = members (drop (i + 1) ms) (drop (i + 1) vs) in
    let opened : members (drop i ms) (drop i vs) ≡ members (m ∷ drop (i + 1) ms) (v ∷ drop (i + 1) vs) = λ j. members (here ms i m l e j) (here vs i v k f j) in
    opened ∙ ap (λ p. moved p.1 (val v) ++ rest) (part-is m)

pub members_next : (line : Line) (c d : Moment) (ms : List Member) (vs : List Value) (i : ℕ) (m : Member) (v : Value) → i < length ms → i < length vs → m ≡ get_or ms i m → v ≡ get_or vs i v
    → Some d ≡ advanced_by line c (moved (form m.class) (val v)) → advanced_by line d (members (drop (i + 1) ms) (drop (i + 1) vs)) ≡ advanced_by line c (members (drop i ms) (drop i vs))
members_next line c d ms vs i m v l k e f h = go line c d _ _ h ∙ sym (ap (advanced_by line c) (opens ms vs i m v l k e f))

pub members_stop : (line : Line) (c : Moment) (ms : List Member) (vs : List Value) (i : ℕ) (m : Member) (v : Value) → i < length ms → i < length vs → m ≡ get_or ms i m → v ≡ get_or vs i v
    → None ≡ advanced_by line c (moved (form m.class) (val v)) → None ≡ advanced_by line c (members (drop i ms) (drop i vs))
members_stop line c ms vs i m v l k e f h = stop line c _ _ h ∙ sym (ap (advanced_by line c) (opens ms vs i m v l k e f))

pub members_end : (line : Line) (c : Moment) (ms : List Member) (vs : List Value) (i : ℕ) → length vs ≤ i → Some c ≡ advanced_by line c (members (drop i ms) (drop i vs))
members_end line c ms vs i h = sym (ap (advanced_by line c) (no_more (drop i ms) (drop i vs) (drop-all vs i h)))
  where
    no_more : (ns : List Member) (ws : List Value) → ws ≡ [] → members ns ws ≡ []
    no_more [] ws e = refl
    no_more (n ∷ ns) ws e = ap (λ xs. members (n ∷ ns) xs) e

-- members that set no clock
unmoved : (m : Member) (v : Val) → SetsNoClock m.class → moved (form m.class) v ≡ []
unmoved m v (i, is, none) =
    let whole = form-is m.class ∙ ap (λ k. shape k m.class.align) is ∙ shape-Integer i m.class.align in
    ap (λ k. moved k v) whole ∙ ap (λ b. cond b (cond i.is_signed (signed_pair i.size v) (unsigned_pair i.size v)) []) none

none_moved : (ms : List Member) (vs : List Value) → All (λ (m : Member). SetsNoClock m.class) ms → members ms vs ≡ []
none_moved [] vs none = refl
none_moved (m ∷ ms) [] none = refl
none_moved (m ∷ ms) (v ∷ vs) none =
    ap (λ p. moved p.1 (val v) ++ members ms vs) (part-is m)
    ∙ ap (λ xs. xs ++ members ms vs) (unmoved m (val v) (All-head (λ (m : Member). SetsNoClock m.class) m ms none))
    ∙ none_moved ms vs (All-tail (λ (m : Member). SetsNoClock m.class) m ms none)

-- only the first members set the clock
pub first_move : (first rest : List Member) (vs : List Value) → All (λ (m : Member). SetsNoClock m.class) rest → members (first ++ rest) vs ≡ members first vs
first_move [] rest vs none = none_moved rest vs none
first_move (m ∷ ms) rest [] none = refl
first_move (m ∷ ms) rest (v ∷ vs) none = ap (λ xs. moved (member_part m).1 (val v) ++ xs) (first_move ms rest vs none)

members_are : (ms : List Member) → members_of_kind (out-Kind (kind.Structure ms)) ≡ ms
members_are ms = search (rules, class.the_lemmas)

pub structure_moves : (class : Class) (first ms : List Member) (value : Value) (vs : List Value) → class.kind ≡ kind.Structure ms → AreClockMembers first (members_of class) → vals_of (map val vs) ≡ members_in (val value) → members first vs ≡ moved (form class) (val value)
structure_moves class first ms value vs is (rest, all, none) are =
    let whole = form-is class ∙ ap (λ k. shape k class.align) is ∙ shape-Structure ms class.align in
    sym (first_move first rest vs none)
    ∙ ap (λ xs. members xs vs) (sym all ∙ ap (λ k. members_of_kind (out-Kind k)) is ∙ members_are ms)
    ∙ ap (member_moved (parts_of (map member_part ms))) are
    ∙ sym (ap (λ k. moved k (val value)) whole)

pub elements_next : (line : Line) (c d : Moment) (k : Form) (vs : List Value) (i : ℕ) (v : Value) → i < length vs → v ≡ get_or vs i v
    → Some d ≡ advanced_by line c (moved k (val v)) → advanced_by line d (of_each (moved k) (vals_of (map val (drop (i + 1) vs)))) ≡ advanced_by line c (of_each (moved k) (vals_of (map val (drop i vs))))
elements_next line c d k vs i v l e h = go line c d _ _ h ∙ sym (ap (λ xs. advanced_by line c (of_each (moved k) (vals_of (map val xs)))) (here vs i v l e))

pub elements_stop : (line : Line) (c : Moment) (k : Form) (vs : List Value) (i : ℕ) (v : Value) → i < length vs → v ≡ get_or vs i v
    → None ≡ advanced_by line c (moved k (val v)) → None ≡ advanced_by line c (of_each (moved k) (vals_of (map val (drop i vs))))
elements_stop line c k vs i v l e h = stop line c _ _ h ∙ sym (ap (λ xs. advanced_by line c (of_each (moved k) (vals_of (map val xs)))) (here vs i v l e))

pub option_here : (ms : List Member) (i : ℕ) (m : Member) (v : Val) → i < length ms → m ≡ get_or ms i m → moved (form m.class) v ≡ option_moved (parts_of (map member_part ms)) i v
option_here [] i m v h g = absurd (omega arith)
option_here (n ∷ ms) zero m v h g = ap (λ (x : Member). moved (form x.class) v) g ∙ sym (ap (λ x. moved x.1 v) (part-is n))
option_here (n ∷ ms) (suc i) m v h g = option_here ms i m v (omega arith) g

pub option_none : (ms : List Member) (i : ℕ) (v : Val) → length ms ≤ i → [] ≡ option_moved (parts_of (map member_part ms)) i v
option_none [] i v h = refl
option_none (n ∷ ms) zero v h = absurd (omega arith)
option_none (n ∷ ms) (suc i) v h = option_none ms i v (omega arith)

-- the bits above a width do not count
pub low_bits_alone : (line : Line) (c : Moment) (n x : ℕ) → advanced line c n x ≡ advanced line c n (x % 2 ^ n)
low_bits_alone line c n x =
    let e : steps_up n c.cycles x ≡ steps_up n c.cycles (x % 2 ^ n) = sym (mod-add-mod x (2 ^ n) (2 ^ n - c.cycles % 2 ^ n)) in
    ap (λ s. moment_at line (c.cycles + s)) e

only : (o : Option Moment) → o ≡ option_and_then (λ n. Some n) o
only None = refl
only (Some n) = refl

pub val-Signed : (z : ℤ) → val (value.Signed z) ≡ signed z
val-Signed z = search (rules, value.the_lemmas)

-- one signed integer
pub signed_one : (line : Line) (c : Moment) (n x : ℕ) (v : Value) (z : ℤ) → v ≡ value.Signed z → x ≡ cast_unsigned w64 z → advanced line c n x ≡ advanced_by line c (signed_pair n (val v))
signed_one line c n x v z e f =
    low_bits_alone line c n x ∙ (ap (λ y. advanced line c n (y % 2 ^ n)) f ∙ (only (advanced line c n (low_bits z n)) ∙ sym (ap (λ w. advanced_by line c (signed_pair n w)) (ap val e ∙ val-Signed z))))
