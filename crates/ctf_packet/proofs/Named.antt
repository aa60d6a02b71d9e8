-- Members of a name, by their index.
use Rattle.std.proofs.Common.{◌≡◌, ℕ, zero, suc, ◌+◌, ◌<◌, ◌≤◌, Bool, true, false, cond, List, [], ◌∷◌, map, drop, length, get_or, slice_get, Option, Some, None, option_map, refl, sym, ap, ◌∙◌, arith}
use Rattle.std.proofs.Math.Seq.{drop-cons}
use Rattle.std.specs.List.{position_from}
use Rattle.std.specs.Str.{bytes_eq}
use Rattle.ctf_class.specs.declared.class.Member.{Member}
use Rattle.ctf_class.specs.Fronts.{place_named}
use Rattle.ctf_decode.specs.Values.{Val, vals_of}
use Rattle.ctf_decode.specs.Forms.{Form, parts_of}
use Rattle.ctf_decode.specs.Views.{form, member_part, val}
use Rattle.ctf_decode.specs.declared.value.Value.{Value}
use Rattle.ctf_decode.proofs.Views.{part-is}
use Rattle.ctf_packet.specs.Roles.{member_named}

pub here : {A : Type 0} (xs : List A) (i : ℕ) (x : A) → i < length xs → x ≡ get_or xs i x → drop i xs ≡ x ∷ drop (i + 1) xs
here xs i x h e =
    let one : suc i ≡ i + 1 = omega arith in drop-cons xs i x h ∙ (λ j. sym e j ∷ drop (one j) xs)

pub drop-all : {A : Type 0} (xs : List A) (k : ℕ) → length xs ≤ k → drop k xs ≡ []
drop-all [] zero l = refl
drop-all [] (suc k) l = refl
drop-all (x ∷ xs) zero l = absurd (omega arith)
drop-all (x ∷ xs) (suc k) l = drop-all xs k (omega arith)

abbrev pub named_in : List ℕ → List Member → List Value → Option (Form × Val)
named_in name ms vs = member_named name (parts_of (map member_part ms)) (vals_of (map val vs))

abbrev pub both : Option Member → Option Value → Option (Form × Val)
both (Some m) (Some v) = Some (form m.class, val v)
both (Some m) None = None
both None v = None

-- the member at an index, with its value
abbrev pub pair_at : List Member → List Value → Option ℕ → Option (Form × Val)
pair_at ms vs (Some i) = both (slice_get ms i) (slice_get vs i)
pair_at ms vs None = None

later_if : {X : Type 0} (t : X → Bool) (k : ℕ) (rest : Option ℕ) (b : Bool) → cond b (Some (k + 1)) (option_map (λ i. i + 1) rest) ≡ option_map (λ i. i + 1) (cond b (Some k) rest)
later_if t k rest true = refl
later_if t k rest false = refl

later : {X : Type 0} (t : X → Bool) (k : ℕ) (xs : List X) → position_from t (k + 1) xs ≡ option_map (λ i. i + 1) (position_from t k xs)
later t k [] = refl
later t k (x ∷ xs) = ap (cond (t x) (Some (k + 1))) (later t (k + 1) xs) ∙ later_if t k (position_from t (k + 1) xs) (t x)

pair_after : (m : Member) (ms : List Member) (v : Value) (vs : List Value) (place : Option ℕ) → pair_at (m ∷ ms) (v ∷ vs) (option_map (λ i. i + 1) place) ≡ pair_at ms vs place
pair_after m ms v vs None = refl
pair_after m ms v vs (Some i) =
    let one : i + 1 ≡ suc i = omega arith in λ j. both (slice_get (m ∷ ms) (one j)) (slice_get (v ∷ vs) (one j))

pub no_value : (m : Option Member) → both m None ≡ None
no_value None = refl
no_value (Some m) = refl

none_at : (ms : List Member) (place : Option ℕ) → pair_at ms [] place ≡ None
none_at ms None = refl
none_at ms (Some i) = no_value (slice_get ms i)

-- the first member of a name is at its place
pub named_at : (name : List ℕ) (ms : List Member) (vs : List Value) → pair_at ms vs (place_named name ms) ≡ named_in name ms vs
named_at name [] vs = refl
named_at name (m ∷ ms) [] = none_at (m ∷ ms) (place_named name (m ∷ ms))
named_at name (m ∷ ms) (v ∷ vs) = first (bytes_eq m.name name) (named_at name ms vs) ∙ sym opened
  where
    opened : named_in name (m ∷ ms) (v ∷ vs) ≡ cond (bytes_eq m.name name) (Some (form m.class, val v)) (named_in name ms vs)
    opened = ap (λ p. cond (bytes_eq p.0 name) (Some (p.1, val v)) (named_in name ms vs)) (part-is m)

    named : Member → Bool
    named member = bytes_eq member.name name

    first : (b : Bool) → pair_at ms vs (place_named name ms) ≡ named_in name ms vs → pair_at (m ∷ ms) (v ∷ vs) (cond b (Some 0) (position_from named 1 ms)) ≡ cond b (Some (form m.class, val v)) (named_in name ms vs)
    first true others = refl
    first false others = ap (pair_at (m ∷ ms) (v ∷ vs)) (later named 0 ms) ∙ pair_after m ms v vs (place_named name ms) ∙ others
