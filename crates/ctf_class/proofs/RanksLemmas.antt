-- Names of which no two are the same, in the order of their bytes.
use Rattle.std.proofs.Common.{◌≡◌, ℕ, zero, suc, ◌+◌, ◌-◌, ◌<◌, ◌≤◌, Bool, true, false, cond, ◌||◌, List, [], ◌∷◌, length, get_or, Some, None, Less, Equal, Greater, is_eq, nat_cmp, refl, sym, ap, subst, ◌∙◌, ⊎_elim, bytes_eq, arith}
use Rattle.std.specs.Ordering.{ordering_reverse}
use Rattle.std.specs.Cmp.Lexicographic.{slice_cmp}
use Rattle.std.specs.List.{position_from, list_any}
use Rattle.std.proofs.lemmas.Bool.{cases_lt, cases_order}
use Rattle.std.proofs.lemmas.Cmp.{nat_list_cmp_total, nat_list_eq_equiv}
use Rattle.std.proofs.lemmas.Map.Text.{is_eq-slice_cmp}
use Rattle.std.proofs.lemmas.Slice.Eq.{bytes_eq-Decides}
use Rattle.ctf_class.specs.SameNames.{has_twins}
use Rattle.ctf_class.specs.NameRanks.{name_in, IsNext, AreAscending}
use Rattle.ctf_class.specs.Ranks.{place_in, HasRanks}

-- a name that comes before another is not the same, nor is that one
before-other : (a b : List ℕ) → slice_cmp nat_cmp a b ≡ Less → bytes_eq a b ≡ false
before-other a b less = sym (is_eq-slice_cmp a b) ∙ ap is_eq less

after-other : (a b : List ℕ) → slice_cmp nat_cmp a b ≡ Less → bytes_eq b a ≡ false
after-other a b less = nat_list_eq_equiv.symm b a ∙ before-other a b less

-- where a name comes after another, that one comes before it
turned : (a b : List ℕ) → slice_cmp nat_cmp a b ≡ Greater → slice_cmp nat_cmp b a ≡ Less
turned a b more = nat_list_cmp_total.antisymm b a ∙ ap ordering_reverse more

-- names one after the other are in order
module _ (names : List (List ℕ)) (order : List ℕ) where
  ascends : ((rank : ℕ) → rank < length names → IsNext names order rank) → (rank later : ℕ) → rank < later → later < length names → slice_cmp nat_cmp (name_in names order rank) (name_in names order later) ≡ Less
  ascends each rank zero less within = absurd (omega arith)
  ascends each rank (suc later) less within =
      let before : suc later - 1 ≡ later = omega arith in
      let step : slice_cmp nat_cmp (name_in names order later) (name_in names order (suc later)) ≡ Less =
      subst (λ k. slice_cmp nat_cmp (name_in names order k) (name_in names order (suc later)) ≡ Less) before ((each (suc later) within).after (omega arith)) in
      ⊎_elim
      (λ early. nat_list_cmp_total.trans (name_in names order rank) (name_in names order later) (name_in names order (suc later)) (ascends each rank later early (omega arith)) step)
      (λ late.
      let same : later ≡ rank = omega arith in
      subst (λ k. slice_cmp nat_cmp (name_in names order k) (name_in names order (suc later)) ≡ Less) same step)
      (cases_lt rank later)

  pub ascending-all : (count : ℕ) → length names ≤ count → ((rank : ℕ) → rank < count → IsNext names order rank) → AreAscending names order
  ascending-all count all each =
      record {
        within = λ rank inside. (each rank (omega arith)).within;
        ascending = ascends (λ rank inside. each rank (omega arith));
      }

-- names of two ranks are not the same
apart : (names : List (List ℕ)) (order : List ℕ) (rank other : ℕ) → AreAscending names order → rank < length names → other < length names → (rank ≡ other → ⊥) → bytes_eq (name_in names order rank) (name_in names order other) ≡ false
apart names order rank other up within inside differs =
    ⊎_elim
    (λ same. absurd (differs same))
    (⊎_elim
    (λ less. before-other (name_in names order rank) (name_in names order other) (up.ascending rank other less inside))
    (λ more. after-other (name_in names order other) (name_in names order rank) (up.ascending other rank more within)))
    (cases_order rank other)

-- halving: a name that comes before the middle one is none of those after it; one that comes after it, none of those
-- before
pub none-after : (names : List (List ℕ)) (order : List ℕ) (name : List ℕ) (middle rank : ℕ) → AreAscending names order → slice_cmp nat_cmp name (name_in names order middle) ≡ Less → middle ≤ rank → rank < length names → bytes_eq (name_in names order rank) name ≡ false
none-after names order name middle rank up less from within =
    after-other name (name_in names order rank) (⊎_elim
    (λ later. nat_list_cmp_total.trans name (name_in names order middle) (name_in names order rank) less (up.ascending middle rank later within))
    (λ here. let same : middle ≡ rank = omega arith in subst (λ k. slice_cmp nat_cmp name (name_in names order k) ≡ Less) same less)
    (cases_lt middle rank))

pub none-before : (names : List (List ℕ)) (order : List ℕ) (name : List ℕ) (middle rank : ℕ) → AreAscending names order → slice_cmp nat_cmp name (name_in names order middle) ≡ Greater → rank ≤ middle → middle < length names → bytes_eq (name_in names order rank) name ≡ false
none-before names order name middle rank up more from within =
    let over = turned name (name_in names order middle) more in
    before-other (name_in names order rank) name (⊎_elim
    (λ earlier. nat_list_cmp_total.trans (name_in names order rank) (name_in names order middle) name (up.ascending rank middle earlier within) over)
    (λ here. let same : middle ≡ rank = omega arith in subst (λ k. slice_cmp nat_cmp (name_in names order k) name ≡ Less) same over)
    (cases_lt rank middle))

-- where an element is found that passes, and where none is
position-none : {X : Type 0} (test : X → Bool) (xs : List X) (first : ℕ) (d : X) → ((k : ℕ) → k < length xs → test (get_or xs k d) ≡ false) → position_from test first xs ≡ None
position-none test [] first d none = refl
position-none test (x ∷ xs) first d none =
    ap (λ b. cond b (Some first) (position_from test (first + 1) xs)) (none 0 (omega arith)) ∙ position-none test xs (first + 1) d (λ k less. none (suc k) (omega arith))

position-first : {X : Type 0} (test : X → Bool) (xs : List X) (first place : ℕ) (d : X) → place < length xs → test (get_or xs place d) ≡ true → ((k : ℕ) → k < place → test (get_or xs k d) ≡ false) → position_from test first xs ≡ Some (first + place)
position-first test [] first place d within here none = absurd (omega arith)
position-first test (x ∷ xs) first zero d within here none =
    ap (λ b. cond b (Some first) (position_from test (first + 1) xs)) here ∙ ap Some (let same : first ≡ first + 0 = omega arith in same)
position-first test (x ∷ xs) first (suc place) d within here none =
    let more : first + 1 + place ≡ first + suc place = omega arith in
    ap (λ b. cond b (Some first) (position_from test (first + 1) xs)) (none 0 (omega arith))
    ∙ (position-first test xs (first + 1) place d (omega arith) here (λ k less. none (suc k) (omega arith)) ∙ ap Some more)

-- no name is the one that none of a rank is
pub none-ranked : (names : List (List ℕ)) (order : List ℕ) (name : List ℕ) → HasRanks names order → ((rank : ℕ) → rank < length names → bytes_eq (name_in names order rank) name ≡ false) → position_from (λ word. bytes_eq word name) 0 names ≡ None
none-ranked names order name ranks none =
    position-none (λ word. bytes_eq word name) names 0 [] (λ place within.
    let r = ranks.rank place within in
    ap (λ k. bytes_eq (get_or names k []) name) (sym r.2) ∙ none r.0 r.1)

-- the name of a rank is found at its place
pub found-ranked : (names : List (List ℕ)) (order : List ℕ) (name : List ℕ) (rank : ℕ) → AreAscending names order → HasRanks names order → rank < length names → slice_cmp nat_cmp name (name_in names order rank) ≡ Equal → position_from (λ word. bytes_eq word name) 0 names ≡ Some (place_in order rank)
found-ranked names order name rank up ranks within same =
    let here : bytes_eq name (name_in names order rank) ≡ true = sym (is_eq-slice_cmp name (name_in names order rank)) ∙ ap is_eq same in
    let is : name ≡ name_in names order rank = (bytes_eq-Decides name (name_in names order rank)).0 here in
    let place = place_in order rank in
    let others = λ (k : ℕ) (less : k < place).
    let inside = up.within rank within in
    let r = ranks.rank k (omega (arith, inside, less)) in
    let differs : r.0 ≡ rank → ⊥ = λ e. let at : place_in order rank ≡ k = sym (ap (place_in order) e) ∙ r.2 in absurd (omega (arith, at, less)) in
    ap (λ i. bytes_eq (get_or names i []) name) (sym r.2) ∙ (ap (bytes_eq (name_in names order r.0)) is ∙ apart names order r.0 rank up r.1 within differs) in
    position-first (λ word. bytes_eq word name) names 0 place [] (up.within rank within) (nat_list_eq_equiv.symm (name_in names order rank) name ∙ here) others
    ∙ ap Some (let same : 0 + place ≡ place = omega arith in same)

-- no two are the same
none-any : {X : Type 0} (test : X → Bool) (xs : List X) (d : X) → ((k : ℕ) → k < length xs → test (get_or xs k d) ≡ false) → list_any test xs ≡ false
none-any test [] d none = refl
none-any test (x ∷ xs) d none =
    ap (λ b. b || list_any test xs) (none 0 (omega arith)) ∙ none-any test xs d (λ k less. none (suc k) (omega arith))

all-differ : {X : Type 0} (same : X → X → Bool) (xs : List X) (d : X) → ((j k : ℕ) → j < k → k < length xs → same (get_or xs j d) (get_or xs k d) ≡ false) → has_twins same xs ≡ false
all-differ same [] d differ = refl
all-differ same (x ∷ xs) d differ =
    ap (λ b. b || has_twins same xs) (none-any (same x) xs d (λ k less. differ 0 (suc k) (omega arith) (omega arith)))
    ∙ all-differ same xs d (λ j k less within. differ (suc j) (suc k) (omega arith) (omega arith))

pub no-twins : (names : List (List ℕ)) (order : List ℕ) → AreAscending names order → HasRanks names order → has_twins bytes_eq names ≡ false
no-twins names order up ranks =
    all-differ bytes_eq names [] (λ j k less within.
    let p = ranks.rank j (omega arith) in
    let q = ranks.rank k within in
    let differs : p.0 ≡ q.0 → ⊥ = λ e. let at : j ≡ k = sym p.2 ∙ (ap (place_in order) e ∙ q.2) in absurd (omega (arith, at, less)) in
    ap (λ i. bytes_eq (get_or names i []) (get_or names k [])) (sym p.2)
    ∙ (ap (λ i. bytes_eq (name_in names order p.0) (get_or names i [])) (sym q.2) ∙ apart names order p.0 q.0 up p.1 q.1 differs))
