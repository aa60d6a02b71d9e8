-- What streams have given of their bytes, from what is said of each item that is passed.
use Rattle.std.proofs.Common.{◌≡◌, ℕ, zero, suc, ◌+◌, List, [], ◌∷◌, map, set, length, Some, refl, sym, ap, ◌∙◌, subst, arith}
use Rattle.std.specs.Prelude.{slice_get}
use Rattle.std.specs.List.{AllByRecursion}
use Rattle.ctf_merge.specs.Merged.{Placed, advance, without_first, run_at}
use Rattle.ctf_merge.specs.Merges.{EachFetched, EachOnLine, EachAllTaken, LeavesOne}
use Rattle.ctf_merge.proofs.Going.{each_set}
use Rattle.ctf_packet.specs.Classes.{Classes}
use Rattle.ctf_packet.specs.Items.{Run, Item}
use Rattle.ctf_stream.specs.Reader as reader
use Rattle.ctf_stream.specs.Reader.{Reader, coming, rest_of, with_ahead, after_ahead, IsFetched, OnLine, IsOnLine, IsAllTaken}
use Rattle.ctf_session.specs.Passing.{GivenBy, HasGiven, without, Pass}

-- ---- one reader

rest_by : (h : reader.Peeked) (cut : ℕ) (after : Run Classes) (x : Item Classes) → h ≡ reader.item x
    → after_ahead h cut after ≡ without_first (with_ahead h (after_ahead h cut after))
rest_by reader.start cut after x e = absurd cc
rest_by (reader.item y) cut after x e = refl
rest_by reader.ended cut after x e = absurd cc
rest_by (reader.fault f) cut after x e = absurd cc

abbrev given_run : Run Classes → ℕ → ℕ → ℕ → Type 0
given_run run all taken held = GivenBy run.items run.fault run.at all taken held

given_as : (h : reader.Peeked) (cut : ℕ) (after : Run Classes) (taken held : ℕ) (left : List ℕ) → IsFetched h → OnLine h taken cut held → IsAllTaken h left
    → given_run (with_ahead h (after_ahead h cut after)) (taken + length left) taken held
given_as reader.start cut after taken held left fetched line all = absurd fetched
given_as (reader.item x) cut after taken held left fetched line all = (line.0, line.1)
given_as reader.ended cut after taken held left fetched line all = (let none = ap length all in omega (arith, none), line.1)
given_as (reader.fault f) cut after taken held left fetched line all = line

-- ---- several readers

module _ (P : Reader → Type 0) where
  at_one : (rs : List Reader) (i : ℕ) (r : Reader) → slice_get rs i ≡ Some r → AllByRecursion P rs → P r
  at_one [] i r at each = absurd cc
  at_one (s ∷ rs) zero r at each = let is : s ≡ r = cc in subst P is each.0
  at_one (s ∷ rs) (suc i) r at each = at_one rs i r at each.1

comes_at : (rs : List Reader) (i : ℕ) (r : Reader) → slice_get rs i ≡ Some r → run_at i (map coming rs) ≡ coming r
comes_at [] i r at = absurd cc
comes_at (s ∷ rs) zero r at = let is : s ≡ r = cc in ap coming is
comes_at (s ∷ rs) (suc i) r at = comes_at rs i r at

set_one : (rs : List Reader) (n : ℕ) (before after : Reader) → slice_get rs n ≡ Some before → coming after ≡ without_first (coming before)
    → map coming (set rs n after) ≡ advance n (map coming rs)
set_one [] n before after at same = absurd cc
set_one (s ∷ rs) zero before after at same =
    let is : before ≡ s = cc in
    ap (λ (run : Run Classes). run ∷ map coming rs) (same ∙ ap (λ (r : Reader). without_first (coming r)) is)
set_one (s ∷ rs) (suc n) before after at same = ap (λ (runs : List (Run Classes)). coming s ∷ runs) (set_one rs n before after at same)

-- one item is passed
pass_one : (n : ℕ) (old new : List Reader) (it : LeavesOne n old new) → coming it.after ≡ rest_of it.before → map coming new ≡ advance n (map coming old)
pass_one n old new it goes =
    ap (λ (rs : List Reader). map coming rs) it.others
    ∙ set_one old n it.before it.after it.at (goes ∙ rest_by it.before.ahead it.before.cut it.before.after it.left it.ahead)

pass_coming : (items : List Placed) (old new : List Reader) → Pass items old new → map coming new ≡ without items (map coming old)
pass_coming [] old new pass = ap (λ (rs : List Reader). map coming rs) pass
pass_coming (x ∷ xs) old new pass =
    pass_coming xs pass.0 new pass.4 ∙ ap (λ (runs : List (Run Classes)). without xs runs) (pass_one x.number old pass.0 pass.1 pass.3)

pass_fetched : (items : List Placed) (old new : List Reader) → Pass items old new → EachFetched old → EachFetched new
pass_fetched [] old new pass each = subst EachFetched (sym pass) each
pass_fetched (x ∷ xs) old new pass each =
    let it : LeavesOne x.number old pass.0 = pass.1 in
    let next : EachFetched pass.0 = subst EachFetched (sym it.others) (each_set (λ r. IsFetched r.ahead) old x.number it.after each it.fetched) in
    pass_fetched xs pass.0 new pass.4 next

pub given : (items : List Placed) (first readers : List Reader) → EachFetched first → Pass items first readers → EachOnLine readers → EachAllTaken readers
    → (i : ℕ) (r : Reader) → slice_get readers i ≡ Some r → HasGiven (run_at i (without items (map coming first))) (r.taken + length r.left) r
given items first readers fetched pass line all i r at =
    let run_is : coming r ≡ run_at i (without items (map coming first)) =
    sym (comes_at readers i r at) ∙ ap (λ (runs : List (Run Classes)). run_at i runs) (pass_coming items first readers pass) in
    subst (λ (run : Run Classes). HasGiven run (r.taken + length r.left) r) run_is
    (given_as r.ahead r.cut r.after r.taken r.held r.left
    (at_one (λ s. IsFetched s.ahead) readers i r at (pass_fetched items first readers pass fetched))
    (at_one IsOnLine readers i r at line).0
    (at_one (λ s. IsAllTaken s.ahead s.left) readers i r at all))
