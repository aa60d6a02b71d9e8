-- The integers of members that set the clock, one member more at a time.
use Rattle.std.proofs.Common.{◌≡◌, ℕ, zero, suc, ◌+◌, ◌<◌, ◌≤◌, List, [], ◌∷◌, ◌++◌, map, drop, length, get_or, refl, sym, ap, ◌∙◌, arith, append_assoc, append-nil}
use Rattle.ctf_class.specs.declared.class.Member.{Member}
use Rattle.ctf_decode.specs.Values.{Val, vals_of}
use Rattle.ctf_decode.specs.Forms.{Form, parts_of}
use Rattle.ctf_decode.specs.Views.{form, member_part, val}
use Rattle.ctf_decode.specs.Fields.{moved, member_moved, option_moved, of_each}
use Rattle.ctf_decode.specs.declared.value.Value.{Value}
use Rattle.ctf_decode.proofs.Views.{part-is}
use Rattle.ctf_decode.proofs.Numbered.{here, drop-all}

abbrev member_of : List Member → List Value → List (ℕ × ℕ)
member_of ms vs = member_moved (parts_of (map member_part ms)) (vals_of (map val vs))

pub members_next : (xs : List (ℕ × ℕ)) (ms : List Member) (vs : List Value) (i : ℕ) (m : Member) (v : Value) → i < length ms → i < length vs → m ≡ get_or ms i m → v ≡ get_or vs i v
    → (xs ++ moved (form m.class) (val v)) ++ member_of (drop (i + 1) ms) (drop (i + 1) vs) ≡ xs ++ member_of (drop i ms) (drop i vs)
members_next xs ms vs i m v l k e f =
    let rest = member_of (drop (i + 1) ms) (drop (i + 1) vs) in
    let opened : member_of (drop i ms) (drop i vs) ≡ member_of (m ∷ drop (i + 1) ms) (v ∷ drop (i + 1) vs) = λ j. member_of (here ms i m l e j) (here vs i v k f j) in
    let parts : member_of (m ∷ drop (i + 1) ms) (v ∷ drop (i + 1) vs) ≡ moved (form m.class) (val v) ++ rest = ap (λ p. moved p.1 (val v) ++ rest) (part-is m) in
    append_assoc xs (moved (form m.class) (val v)) rest ∙ ap (λ ys. xs ++ ys) (sym (opened ∙ parts))

pub members_end : (xs : List (ℕ × ℕ)) (ms : List Member) (vs : List Value) (i : ℕ) → length vs ≤ i → xs ≡ xs ++ member_of (drop i ms) (drop i vs)
members_end xs ms vs i h = sym (ap (λ ys. xs ++ ys) (no_more (drop i ms) (drop i vs) (drop-all vs i h)) ∙ append-nil xs)
  where
    no_more : (ns : List Member) (ws : List Value) → ws ≡ [] → member_of ns ws ≡ []
    no_more [] ws e = refl
    no_more (n ∷ ns) ws e = ap (λ ys. member_of (n ∷ ns) ys) e

pub elements_next : (xs : List (ℕ × ℕ)) (k : Form) (vs : List Value) (i : ℕ) (v : Value) → i < length vs → v ≡ get_or vs i v
    → (xs ++ moved k (val v)) ++ of_each (moved k) (vals_of (map val (drop (i + 1) vs))) ≡ xs ++ of_each (moved k) (vals_of (map val (drop i vs)))
elements_next xs k vs i v l e =
    let rest = of_each (moved k) (vals_of (map val (drop (i + 1) vs))) in
    append_assoc xs (moved k (val v)) rest ∙ ap (λ ys. xs ++ ys) (sym (ap (λ ws. of_each (moved k) (vals_of (map val ws))) (here vs i v l e)))

pub option_here : (ms : List Member) (i : ℕ) (m : Member) (v : Val) → i < length ms → m ≡ get_or ms i m → moved (form m.class) v ≡ option_moved (parts_of (map member_part ms)) i v
option_here [] i m v h g = absurd (omega arith)
option_here (n ∷ ms) zero m v h g = ap (λ (x : Member). moved (form x.class) v) g ∙ sym (ap (λ x. moved x.1 v) (part-is n))
option_here (n ∷ ms) (suc i) m v h g = option_here ms i m v (omega arith) g

pub option_none : (ms : List Member) (i : ℕ) (v : Val) → length ms ≤ i → option_moved (parts_of (map member_part ms)) i v ≡ []
option_none [] i v h = refl
option_none (n ∷ ms) zero v h = absurd (omega arith)
option_none (n ∷ ms) (suc i) v h = option_none ms i v (omega arith)
