-- What values take at least.
use Rattle.std.proofs.Common.{◌≡◌, ℕ, zero, suc, ◌+◌, ◌*◌, ◌<◌, ◌≤◌, List, [], ◌∷◌, ◌++◌, length, drop, get_or, map, refl, sym, ap, subst, ◌∙◌, arith, drop_of_length-le}
use Rattle.std.specs.Prelude.{max, Option, Some, None, IfSome}
use Rattle.std.specs.Int.{next_multiple_of}
use Rattle.std.proofs.lemmas.List.{drop_more}
use Rattle.ctf_class.specs.declared.class.Class.{Class}
use Rattle.ctf_class.specs.declared.class.Kind as kind
use Rattle.ctf_class.specs.declared.class.Member.{Member}
use Rattle.ctf_class.specs.declared.integer.Integer.{Integer}
use Rattle.ctf_class.specs.declared.route.Length.{Length}
use Rattle.ctf_class.specs.declared.route.Length.TheVariants.{Fixed}
use Rattle.ctf_class.specs.declared.span.Label.{Label}
use Rattle.ctf_decode.specs.Values.{Val}
use Rattle.ctf_decode.specs.Forms.{parts_of, align_of}
use Rattle.ctf_decode.specs.Input.{Input, Env}
use Rattle.ctf_decode.specs.Routes.{length_of}
use Rattle.ctf_decode.specs.Stands.{Stands, StandsMembers, StandsRow}
use Rattle.ctf_decode.specs.Views.{form, shape, member_part, env, earlier}
use Rattle.ctf_decode.specs.Laws.{Is}
use Rattle.ctf_decode.proofs.Sound.{walk_is}
use Rattle.ctf_decode.proofs.Views.{form-is, part-is, shape-Integer, shape-Enumeration, shape-Structure, shape-Array, shape-Text}
use Rattle.ctf_fetch.specs.Demand.{input_at, TakesAtLeast, MembersTake, ElementsTake, TakesAt, EndsAtLeast}
use Rattle.ctf_fetch.specs.declared.demand.ValuePlace.{ValuePlace}

-- the members from one on take what it takes, and what those after it take
pub member_more : (ms : List Member) (i : ℕ) (m : Member) → i < length ms → get_or ms i m ≡ m → (k n : ℕ) → TakesAtLeast m.class k → MembersTake (drop (i + 1) ms) n → MembersTake (drop i ms) (k + n)
member_more ms i m within here k n one rest c e done p vs q stands =
    let all = subst (λ l. StandsMembers (parts_of (map member_part l)) c e done p vs q) (drop_more ms i m within) stands in
    let same = ap (λ x. x.1) (part-is (get_or ms i m)) ∙ ap (λ (x : Member). form x.class) here in
    let first = one c (done ∷ e) p all.0 all.1 (subst (λ f. Stands f c (done ∷ e) p all.0 all.1) same all.2) in
    let others = rest c e (done ++ all.0 ∷ []) all.1 vs q all.3 in
    omega (arith, first, others)

pub no_members : (ms : List Member) (i : ℕ) → length ms ≤ i → MembersTake (drop i ms) 0
no_members ms i above c e done p vs q stands =
    let all = subst (λ l. StandsMembers (parts_of (map member_part l)) c e done p vs q) (drop_of_length-le ms above) stands in
    let ends = all.1 in
    omega (arith, ends)

-- the sum so far, and what the members that are left take
abbrev pub SumsTo : List Member → ℕ → ℕ → Type 0
SumsTo ms i sum = (n : ℕ) → MembersTake (drop i ms) n → MembersTake ms (sum + n)

pub sums_first : (ms : List Member) → SumsTo ms 0 0
sums_first ms n rest = let same : n ≡ 0 + n = omega arith in subst (MembersTake ms) same rest

pub sums_more : (ms : List Member) (i : ℕ) (m : Member) → i < length ms → m ≡ get_or ms i m → (sum more next : ℕ) → next ≡ sum + more → TakesAtLeast m.class more → SumsTo ms i sum → SumsTo ms (i + 1) next
sums_more ms i m within here sum more next is takes before n rest =
    let same : sum + (more + n) ≡ next + n = omega (arith, is) in
    subst (MembersTake ms) same (before (more + n) (member_more ms i m within (sym here) more n takes rest))

pub sums_all : (ms : List Member) (i sum : ℕ) → length ms ≤ i → SumsTo ms i sum → MembersTake ms sum
sums_all ms i sum above before =
    let same : sum + 0 ≡ sum = omega arith in
    subst (MembersTake ms) same (before 0 (no_members ms i above))

-- so many elements take so many times what one takes
pub row_takes : (R : ℕ → Val → ℕ → Type 0) (b : ℕ) → ((p : ℕ) (v : Val) (q : ℕ) → R p v q → p + b ≤ q) → (n : ℕ) (done : List Val) (p : ℕ) (vs : List Val) (q : ℕ) → StandsRow R n done p vs q → p + b * n ≤ q
row_takes R b one zero done p vs q stands = let ends : q ≡ p = stands.1 in omega arith
row_takes R b one (suc n) done p vs q stands =
    let first = one p stands.0 stands.1 stands.2 in
    let others = row_takes R b one n (done ++ stands.0 ∷ []) stands.1 vs q stands.3 in
    omega (arith, first, others)

pub elements_take : (element : Class) (count b n : ℕ) → TakesAtLeast element b → n ≡ b * count → ElementsTake element count n
elements_take element count b n one is c e done p vs q stands =
    let all = row_takes (Stands (form element) c e) b (one c e) count done p vs q stands in
    omega (arith, all, is)

pub no_elements : (element : Class) (count : ℕ) → count ≡ 0 → ElementsTake element count 0
no_elements element count none c e done p vs q stands =
    let all = subst (λ n. StandsRow (Stands (form element) c e) n done p vs q) none stands in
    let ends = all.1 in
    omega (arith, ends)

module _ (class : Class) where
  pub integer_takes : (i : Integer) (n : ℕ) → class.kind ≡ kind.Integer i → n ≤ max 1 i.size → TakesAtLeast class n
  integer_takes i n is few c e p v q stands =
      let whole = form-is class ∙ ap (λ k. shape k class.align) is ∙ shape-Integer i class.align in
      let leaf = subst (λ f. Stands f c e p v q) whole stands in
      let ends = leaf.ends in
      omega (arith, ends, few)

  pub label_takes : (i : Integer) (labels : List Label) (n : ℕ) → class.kind ≡ kind.Enumeration i labels → n ≤ max 1 i.size → TakesAtLeast class n
  label_takes i labels n is few c e p v q stands =
      let whole = form-is class ∙ ap (λ k. shape k class.align) is ∙ shape-Enumeration i labels class.align in
      let leaf = subst (λ f. Stands f c e p v q) whole stands in
      let ends = leaf.ends in
      omega (arith, ends, few)

  pub structure_takes : (ms : List Member) (n : ℕ) → class.kind ≡ kind.Structure ms → MembersTake ms n → TakesAtLeast class n
  structure_takes ms n is each c e p v q stands =
      let whole = form-is class ∙ ap (λ k. shape k class.align) is ∙ shape-Structure ms class.align in
      let opened = subst (λ f. Stands f c e p v q) whole stands in
      let all = each c e [] (next_multiple_of p class.align) opened.1.0 q opened.1.2 in
      omega (arith, all)

  -- it ends so far after its begin
  pub structure_ends : (place : ValuePlace) (ms : List Member) (n end : ℕ) → class.kind ≡ kind.Structure ms → MembersTake ms n → end ≡ next_multiple_of place.end class.align + n → EndsAtLeast class place end
  structure_ends place ms n end is each at bytes x found =
      let c = input_at place bytes in
      let e = env place.frame.now in
      let stands = subst (Is (form class) c e place.end place.spent) found (walk_is (form class) c e place.end place.spent) in
      let whole = form-is class ∙ ap (λ k. shape k class.align) is ∙ shape-Structure ms class.align in
      let opened = subst (λ f. Stands f c e place.end x.0 x.1) whole stands.0 in
      let all = each c e [] (next_multiple_of place.end class.align) opened.1.0 x.1 opened.1.2 in
      omega (arith, all, at)

  row_of : (many : Length) (element : Class) (count n : ℕ) → class.kind ≡ kind.Array many element → ElementsTake element count n
      → (c : Input) (e : Env) (p : ℕ) (v : Val) (q : ℕ) → count ≡ length_of many c.earlier e → Stands (form class) c e p v q → p + n ≤ q
  row_of many element count n is each c e p v q counted stands =
      let whole = form-is class ∙ ap (λ k. shape k class.align) is ∙ shape-Array many element class.align in
      let opened = subst (λ f. Stands f c e p v q) whole stands in
      let b = next_multiple_of p (align_of (form element)) in
      let row = subst (λ k. StandsRow (Stands (form element) c e) k [] b opened.1.0 q) (sym counted) opened.1.2 in
      let all = each c e [] b opened.1.0 q row in
      omega (arith, all)

  pub array_takes : (element : Class) (count n : ℕ) → class.kind ≡ kind.Array (Fixed count) element → ElementsTake element count n → TakesAtLeast class n
  array_takes element count n is each c e p v q stands = row_of (Fixed count) element count n is each c e p v q refl stands

  pub array_takes_at : (place : ValuePlace) (many : Length) (element : Class) (count n : ℕ) → class.kind ≡ kind.Array many element → count ≡ length_of many (earlier place.scopes.now) (env place.frame.now)
      → ElementsTake element count n → TakesAt class place n
  array_takes_at place many element count n is counted each bytes v q stands =
      row_of many element count n is each (input_at place bytes) (env place.frame.now) place.end v q counted stands

  pub text_takes : (count n : ℕ) → class.kind ≡ kind.Text (Fixed count) → n ≡ 8 * count → TakesAtLeast class n
  text_takes count n is few c e p v q stands =
      let whole = form-is class ∙ ap (λ k. shape k class.align) is ∙ shape-Text (Fixed count) class.align in
      let leaf = subst (λ f. Stands f c e p v q) whole stands in
      let ends = leaf.ends in
      omega (arith, ends, few)

  pub takes_at : (place : ValuePlace) (n : ℕ) → TakesAtLeast class n → TakesAt class place n
  takes_at place n takes bytes v q stands = takes (input_at place bytes) (env place.frame.now) place.end v q stands

  -- a value that is found ends so
  pub ends_at_least : (place : ValuePlace) (n end : ℕ) → TakesAt class place n → end ≡ place.end + n → EndsAtLeast class place end
  ends_at_least place n end takes is bytes x found =
      let c = input_at place bytes in
      let e = env place.frame.now in
      let stands = subst (Is (form class) c e place.end place.spent) found (walk_is (form class) c e place.end place.spent) in
      let all = takes bytes x.0 x.1 stands.0 in
      omega (arith, all, is)

-- what follows of a number that may be there
pub on_some : (o : Option ℕ) (P Q : ℕ → Type 0) → ((n : ℕ) → P n → Q n) → IfSome o P → IfSome o Q
on_some None P Q then h = tt
on_some (Some n) P Q then h = then n h
