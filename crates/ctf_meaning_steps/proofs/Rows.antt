-- What is kept of the declarations that have ended: the scopes of each, and how many classes they have.
use Rattle.std.proofs.Common.{◌≡◌, ℕ, zero, suc, ◌+◌, nat_lt, false, ◌&&◌, not, List, [], ◌∷◌, ◌++◌, map, length, Some, refl, ap, sym, ◌∙◌, subst, append-nil, filter_map, flat_map, option_and_then, slice_get, sum, arith}
use Rattle.std.specs.List.{range_with_len}
use Rattle.std.proofs.lemmas.Grind.{flat_map-append}
use Rattle.std.proofs.lemmas.List.Sums.{sum_by-append}
use Rattle.ctf_class.specs.declared.route.Scope.{Scope}
use Rattle.ctf_meaning.specs.declared.fault.ResolveFault.TheVariants.{TooDeep}
use Rattle.ctf_meaning.specs.Written.{Declaration}
use Rattle.ctf_meaning.specs.Settings.{when}
use Rattle.ctf_meaning.specs.Shapes.{Shape, nodes_of}
use Rattle.ctf_meaning.specs.Paths.{scopes}
use Rattle.ctf_meaning.specs.Scopes.{scope_by, scope_at, nodes_before, node_faults}
use Rattle.ctf_meaning_steps.specs.Blocks.{Placed}
use Rattle.ctf_meaning_steps.specs.Laws.{class_among}
use Rattle.ctf_meaning.proofs.Members.{map-append}

module _ (text : List Declaration) where
  -- Each row has the classes of the scopes of a declaration; the first declaration has this number.
  abbrev pub Rows : ℕ → List (List Placed) → List Declaration → Type 0
  Rows number [] [] = Unit {0}
  Rows number [] (d ∷ ds) = ⊥
  Rows number (row ∷ rows) [] = ⊥
  Rows number (row ∷ rows) (d ∷ ds) = ((scope : Scope) → class_among scope row ≡ scope_by text number scope d) × Rows (number + 1) rows ds

  pub rows_more : (number k : ℕ) (rows : List (List Placed)) (ds : List Declaration) (row : List Placed) (d : Declaration) → number + length ds ≡ k → Rows number rows ds →
      ((scope : Scope) → class_among scope row ≡ scope_by text k scope d) → Rows number (rows ++ row ∷ []) (ds ++ d ∷ [])
  rows_more number k [] [] row d e h r = (subst (λ n. (scope : Scope) → class_among scope row ≡ scope_by text n scope d) (let same : k ≡ number = grind (arith, e) in same) r, tt)
  rows_more number k [] (x ∷ ds) row d e h r = absurd h
  rows_more number k (x ∷ rows) [] row d e h r = absurd h
  rows_more number k (y ∷ rows) (x ∷ ds) row d e h r = (h.0, rows_more (number + 1) k rows ds row d (grind (arith, e)) h.1 r)

  pub rows_get : (number : ℕ) (rows : List (List Placed)) (ds : List Declaration) → Rows number rows ds → (i k : ℕ) → number + i ≡ k → (scope : Scope) →
      option_and_then (class_among scope) (slice_get rows i) ≡ option_and_then (scope_by text k scope) (slice_get ds i)
  rows_get number [] [] h i k e scope = refl
  rows_get number [] (d ∷ ds) h i k e scope = absurd h
  rows_get number (row ∷ rows) [] h i k e scope = absurd h
  rows_get number (row ∷ rows) (d ∷ ds) h zero k e scope = h.0 scope ∙ ap (λ n. scope_by text n scope d) (let same : number ≡ k = grind (arith, e) in same)
  rows_get number (row ∷ rows) (d ∷ ds) h (suc i) k e scope = rows_get (number + 1) rows ds h.1 i k (grind (arith, e)) scope

range_more : (a n : ℕ) → range_with_len a (suc n) ≡ range_with_len a n ++ (a + n) ∷ []
range_more a zero = ap (λ x. x ∷ []) (omega arith)
range_more a (suc n) = ap (λ xs. a ∷ xs) (range_more (a + 1) n ∙ ap (λ x. range_with_len (a + 1) n ++ x ∷ []) (let moved : a + 1 + n ≡ a + suc n = omega arith in moved))

sums : (xs ys : List ℕ) → sum (xs ++ ys) ≡ sum xs + sum ys
sums xs ys = sum_by-append (λ x. x) xs ys

module _ (text : List Declaration) (k : ℕ) where
  abbrev at : ℕ → List Shape
  at j = filter_map (scope_at text j) scopes

  pub nodes_next : nodes_before text (suc k) ≡ nodes_before text k + sum (map nodes_of (filter_map (scope_at text k) scopes))
  nodes_next =
      ap (λ js. sum (map nodes_of (flat_map at js))) (range_more 0 k ∙ ap (λ x. range_with_len 0 k ++ x ∷ []) (let same : 0 + k ≡ k = omega arith in same))
      ∙ ap (λ ss. sum (map nodes_of ss)) (flat_map-append at (range_with_len 0 k) (k ∷ []) ∙ ap (λ ss. flat_map at (range_with_len 0 k) ++ ss) (append-nil (at k)))
      ∙ ap sum (map-append nodes_of (flat_map at (range_with_len 0 k)) (at k))
      ∙ sums (map nodes_of (flat_map at (range_with_len 0 k))) (map nodes_of (at k))

  -- The limit is passed here where it was not before.
  pub nodes_told : (limit n : ℕ) → nat_lt limit (nodes_before text k) ≡ false → n ≡ nodes_before text (suc k) → when (nat_lt limit n) TooDeep ≡ node_faults text limit k
  nodes_told limit n few e = ap (λ m. when (nat_lt limit m) TooDeep) e ∙ ap (λ b. when (not b && nat_lt limit (nodes_before text (suc k))) TooDeep) (sym few)

pub number_here : (before : List Declaration) (d : Declaration) (ds : List Declaration) → slice_get (before ++ d ∷ ds) (length before) ≡ Some d
number_here [] d ds = refl
number_here (x ∷ before) d ds = number_here before d ds
