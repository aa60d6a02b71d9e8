-- The numbers of members, one more at a time.
use Rattle.std.proofs.Common.{◌≡◌, ℕ, zero, suc, ℤ, ◌+◌, ◌<◌, ◌≤◌, List, [], ◌∷◌, ◌++◌, map, drop, length, get_or, Option, Some, refl, sym, ap, ◌∙◌, arith}
use Rattle.std.specs.List.{last_or}
use Rattle.std.proofs.Math.Seq.{drop-cons}
use Rattle.ctf_class.specs.declared.class.Member.{Member}
use Rattle.ctf_decode.specs.Values.{Val, vals_of}
use Rattle.ctf_decode.specs.Forms.{Form, parts_of}
use Rattle.ctf_decode.specs.Views.{form, member_part, val}
use Rattle.ctf_decode.specs.Fields.{named_id, ids, member_ids, option_ids, of_each}
use Rattle.ctf_decode.specs.declared.value.Value.{Value}
use Rattle.ctf_decode.proofs.Views.{part-is}

pub last_or-append : (o : Option ℤ) (xs ys : List ℤ) → last_or o (xs ++ ys) ≡ last_or (last_or o xs) ys
last_or-append o [] ys = refl
last_or-append o (x ∷ xs) ys = last_or-append (Some x) xs ys

pub here : {A : Type 0} (xs : List A) (i : ℕ) (x : A) → i < length xs → x ≡ get_or xs i x → drop i xs ≡ x ∷ drop (i + 1) xs
here xs i x h e =
    let one : suc i ≡ i + 1 = omega arith in drop-cons xs i x h ∙ (λ j. sym e j ∷ drop (one j) xs)

pub drop-all : {A : Type 0} (xs : List A) (k : ℕ) → length xs ≤ k → drop k xs ≡ []
drop-all [] zero l = refl
drop-all [] (suc k) l = refl
drop-all (x ∷ xs) zero l = absurd (omega arith)
drop-all (x ∷ xs) (suc k) l = drop-all xs k (omega arith)

abbrev member_of : List Member → List Value → List ℤ
member_of ms vs = member_ids (parts_of (map member_part ms)) (vals_of (map val vs))

pub members_next : (o : Option ℤ) (ms : List Member) (vs : List Value) (i : ℕ) (m : Member) (v : Value) → i < length ms → i < length vs → m ≡ get_or ms i m → v ≡ get_or vs i v
    → last_or (last_or (last_or o (named_id m.name (form m.class) (val v))) (ids (form m.class) (val v))) (member_of (drop (i + 1) ms) (drop (i + 1) vs)) ≡ last_or o (member_of (drop i ms) (drop i vs))
members_next o ms vs i m v l k e f =
    let rest = member_of (drop (i + 1) ms) (drop (i + 1) vs) in
    let name = named_id m.name (form m.class) (val v) in
    let inner = ids (form m.class) (val v) in
    let opened : member_of (drop i ms) (drop i vs) ≡ member_of (m ∷ drop (i + 1) ms) (v ∷ drop (i + 1) vs) = λ j. member_of (here ms i m l e j) (here vs i v k f j) in
    let parts : member_of (m ∷ drop (i + 1) ms) (v ∷ drop (i + 1) vs) ≡ (name ++ inner) ++ rest = ap (λ p. (named_id p.0 p.1 (val v) ++ ids p.1 (val v)) ++ rest) (part-is m) in
    sym (ap (last_or o) (opened ∙ parts) ∙ last_or-append o (name ++ inner) rest ∙ ap (λ x. last_or x rest) (last_or-append o name inner))

pub members_end : (o : Option ℤ) (ms : List Member) (vs : List Value) (i : ℕ) → length vs ≤ i → o ≡ last_or o (member_of (drop i ms) (drop i vs))
members_end o ms vs i h = ap (last_or o) (no_more (drop i ms) (drop i vs) (drop-all vs i h))
  where
    no_more : (ns : List Member) (ws : List Value) → ws ≡ [] → [] ≡ member_of ns ws
    no_more [] ws e = refl
    no_more (n ∷ ns) ws e = sym (ap (λ xs. member_of (n ∷ ns) xs) e)

pub elements_next : (o : Option ℤ) (k : Form) (vs : List Value) (i : ℕ) (v : Value) → i < length vs → v ≡ get_or vs i v
    → last_or (last_or o (ids k (val v))) (of_each (ids k) (vals_of (map val (drop (i + 1) vs)))) ≡ last_or o (of_each (ids k) (vals_of (map val (drop i vs))))
elements_next o k vs i v l e =
    let rest = of_each (ids k) (vals_of (map val (drop (i + 1) vs))) in
    sym (ap (λ xs. last_or o (of_each (ids k) (vals_of (map val xs)))) (here vs i v l e) ∙ last_or-append o (ids k (val v)) rest)

pub option_here : (ms : List Member) (i : ℕ) (m : Member) (v : Val) → i < length ms → m ≡ get_or ms i m → ids (form m.class) v ≡ option_ids (parts_of (map member_part ms)) i v
option_here [] i m v h g = absurd (omega arith)
option_here (n ∷ ms) zero m v h g = ap (λ (x : Member). ids (form x.class) v) g ∙ sym (ap (λ x. ids x.1 v) (part-is n))
option_here (n ∷ ms) (suc i) m v h g = option_here ms i m v (omega arith) g

pub option_none : (ms : List Member) (i : ℕ) (v : Val) → length ms ≤ i → [] ≡ option_ids (parts_of (map member_part ms)) i v
option_none [] i v h = refl
option_none (n ∷ ms) zero v h = absurd (omega arith)
option_none (n ∷ ms) (suc i) v h = option_none ms i v (omega arith)
