-- The whole text: what is reported is an own fault of the first declaration that has one, or the classes of the scopes.
use Rattle.std.proofs.Common.{◌≡◌, ℕ, ◌+◌, List, [], ◌∷◌, ◌++◌, map, length, take, length-append, Some, Ok, Err, refl, ap, sym, ◌∙◌, subst, append-nil, append_assoc, flat_map, slice_get, Contains, arith}
use Rattle.std.specs.List.{enumerate_from}
use Rattle.std.proofs.Math.Seq.{take-append_seam}
use Rattle.ctf_class.specs.declared.route.Scope.{Scope}
use Rattle.ctf_meaning.specs.declared.fault.ResolveFault.{ResolveFault}
use Rattle.ctf_meaning.specs.Written.{Declaration}
use Rattle.ctf_meaning.specs.Parts.{located, located_from}
use Rattle.ctf_meaning.specs.Names.{Entry, entries_after, entries_in}
use Rattle.ctf_meaning.specs.Scopes.{scope_at}
use Rattle.ctf_meaning.specs.Streams.{numbered}
use Rattle.ctf_meaning.specs.Faults.{own_faults, first_faults}
use Rattle.ctf_meaning_steps.specs.Told.{Told, ◌>>=◌}
use Rattle.ctf_meaning_steps.specs.Blocks.{Walked, start, declaration_told, declarations_told, text_told}
use Rattle.ctf_meaning_steps.specs.Laws.{class_in_row}
use Rattle.ctf_meaning.proofs.Lists.{Each, each_unmapped}
use Rattle.ctf_meaning.proofs.Clean.{IsNone, first_none}
use Rattle.ctf_meaning.proofs.Seen.{entries_after-append}
use Rattle.ctf_meaning_steps.proofs.Telling.{Tells, append_none}
use Rattle.ctf_meaning_steps.proofs.Entries.{Reads, reads_text}
use Rattle.ctf_meaning_steps.proofs.Rows.{Rows, rows_get, number_here}
use Rattle.ctf_meaning_steps.proofs.Declarations.{Good, Stands, declaration_tells}

-- a group of faults before others, which count where it is empty
module _ (F : List ResolveFault) (Gs : List (List ResolveFault)) where
  after_none : {A : Type 0} (t : Told A) (Q : A → Type 0) → F ≡ [] → Tells (Unit {0}) t (first_faults Gs) Q → Tells (Unit {0}) t (first_faults (F ∷ Gs)) Q
  after_none t Q e h = subst (λ fs. Tells (Unit {0}) t (first_faults (fs ∷ Gs)) Q) (sym e) h

  contains_group : (f : ResolveFault) → Contains F f → Contains (first_faults (F ∷ Gs)) f
  contains_group f h = by_case F h
    where
      by_case : (fs : List ResolveFault) → Contains fs f → Contains (first_faults (fs ∷ Gs)) f
      by_case [] k = let less = k.1 in absurd (grind (arith, less))
      by_case (x ∷ fs) k = k

  tells_group : {A B : Type 0} (t : Told A) (next : A → Told B) (Q : A → Type 0) (R : B → Type 0) → Tells (Unit {0}) t F Q →
      ((a : A) → Q a → Tells (Unit {0}) (next a) (first_faults Gs) R) → Tells (Unit {0}) (t >>= next) (first_faults (F ∷ Gs)) R
  tells_group (Ok a) next Q R h k = after_none (next a) R h.0 (k a h.1)
  tells_group (Err fault) next Q R h k = λ u. contains_group fault (h u)

located_from-append : (n : ℕ) (xs ys : List Declaration) → located_from n (xs ++ ys) ≡ located_from n xs ++ located_from (n + length xs) ys
located_from-append n [] ys = ap (λ m. located_from m ys) (omega arith)
located_from-append n (x ∷ xs) ys =
    ap (λ ps. located (n ∷ []) x ++ ps) (located_from-append (n + 1) xs ys)
    ∙ sym (append_assoc (located (n ∷ []) x) (located_from (n + 1) xs) (located_from (n + 1 + length xs) ys))
    ∙ ap (λ m. located (n ∷ []) x ++ located_from (n + 1) xs ++ located_from m ys) (let moved : n + 1 + length xs ≡ n + length (x ∷ xs) = omega arith in moved)

-- the entries of some declarations
abbrev entries_before : List Declaration → List Entry
entries_before before = entries_after [] (located_from 0 before)

module _ (text : List Declaration) where
  -- where a declaration is among the others
  stands_here : (before : List Declaration) (d : Declaration) (ds : List Declaration) (k : ℕ) → text ≡ before ++ d ∷ ds → length before ≡ k → Stands text before k d
  stands_here before d ds k e long = record {
    taken = subst (λ n. take n text ≡ before) long (ap (take (length before)) e ∙ take-append_seam before (d ∷ ds));
    number = subst (λ n. slice_get text n ≡ Some d) long (ap (λ ts. slice_get ts (length before)) e ∙ number_here before d ds);
    long = long;
  }

  reads_here : (before : List Declaration) (d : Declaration) (ds : List Declaration) (k : ℕ) → text ≡ before ++ d ∷ ds → length before ≡ k →
      Reads (entries_in text) (entries_before before) (located (k ∷ []) d)
  reads_here before d ds k e long =
      reads_text text (located_from 0 before) (located (k ∷ []) d) (located_from (k + 1) ds)
      (ap (located_from 0) e ∙ located_from-append 0 before (d ∷ ds)
      ∙ ap (λ m. located_from 0 before ++ located_from m (d ∷ ds)) (let same : 0 + length before ≡ k = grind (arith, long) in same)
      ∙ sym (append_assoc (located_from 0 before) (located (k ∷ []) d) (located_from (k + 1) ds)))

  entries_more : (before : List Declaration) (d : Declaration) (k : ℕ) → length before ≡ k → entries_after (entries_before before) (located (k ∷ []) d) ≡ entries_before (before ++ d ∷ [])
  entries_more before d k long =
      sym (ap (entries_after []) (located_from-append 0 before (d ∷ [])
      ∙ ap (λ m. located_from 0 before ++ located_from m (d ∷ [])) (let same : 0 + length before ≡ k = grind (arith, long) in same)
      ∙ ap (λ ps. located_from 0 before ++ ps) (append-nil (located (k ∷ []) d)))
      ∙ entries_after-append [] (located_from 0 before) (located (k ∷ []) d))

  declarations_tells : (before ds : List Declaration) (k : ℕ) (walked : Walked) → text ≡ before ++ ds → length before ≡ k → Good text (entries_before before) k before walked →
      Tells (Unit {0}) (declarations_told before walked ds) (first_faults (map (own_faults text) (enumerate_from k ds))) (λ last. Rows text 0 last.rows text)
  declarations_tells before [] k walked e long good = (refl, subst (Rows text 0 walked.rows) (sym (e ∙ append-nil before)) good.rows)
  declarations_tells before (d ∷ ds) k walked e long good =
      tells_group (own_faults text (k, d)) (map (own_faults text) (enumerate_from (k + 1) ds)) (declaration_told before walked d) (λ next. declarations_told (before ++ d ∷ []) next ds)
      (Good text (entries_after (entries_before before) (located (k ∷ []) d)) (k + 1) (before ++ d ∷ [])) (λ last. Rows text 0 last.rows text)
      (declaration_tells text before k (entries_before before) walked good d (stands_here before d ds k e long) (reads_here before d ds k e long))
      (λ next by. declarations_tells (before ++ d ∷ []) ds (k + 1) next (e ∙ sym (append_assoc before (d ∷ []) ds))
      (let more : length (before ++ d ∷ []) ≡ length before + 1 = length-append before (d ∷ []) in grind (arith, more, long))
      (subst (λ es. Good text es (k + 1) (before ++ d ∷ []) next) (entries_more before d k long) by))

  text_tells : Tells (Unit {0}) (text_told text) (first_faults (map (own_faults text) (numbered text))) (λ last. Rows text 0 last.rows text)
  text_tells = declarations_tells [] text 0 start refl refl (record { holds = λ name. refl; clear = tt; nodes = refl; few = refl; rows = tt })

  none_flat : {X : Type 0} (f : X → List ResolveFault) (xs : List X) → Each (λ x. f x ≡ []) xs → flat_map f xs ≡ []
  none_flat f [] h = refl
  none_flat f (x ∷ xs) h = append_none (f x) (flat_map f xs) h.0 (none_flat f xs h.1)

  pub walk_finds_scopes : (walked : Walked) → text_told text ≡ Ok walked →
      (flat_map (own_faults text) (numbered text) ≡ []) × ((k : ℕ) (scope : Scope) → scope_at text k scope ≡ class_in_row walked.rows k scope)
  walk_finds_scopes walked e =
      let told : Tells (Unit {0}) (Ok walked) (first_faults (map (own_faults text) (numbered text))) (λ last. Rows text 0 last.rows text) =
      subst (λ t. Tells (Unit {0}) t (first_faults (map (own_faults text) (numbered text))) (λ last. Rows text 0 last.rows text)) e text_tells in (
        none_flat (own_faults text) (numbered text) (each_unmapped IsNone (own_faults text) (numbered text) (first_none (map (own_faults text) (numbered text)) told.0)),
        λ k scope. sym (rows_get text 0 walked.rows text told.1 k k (omega arith) scope),
      )

  pub walk_tells_own : (fault : ResolveFault) → text_told text ≡ Err fault → Contains (first_faults (map (own_faults text) (numbered text))) fault
  walk_tells_own fault e =
      (subst (λ t. Tells (Unit {0}) t (first_faults (map (own_faults text) (numbered text))) (λ last. Rows text 0 last.rows text)) e text_tells) tt
