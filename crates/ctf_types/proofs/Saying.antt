-- The stream of an event among those of the code.
use Rattle.std.proofs.Common.{◌≡◌, ℕ, suc, Bor, arith, Bool, true, false, cond, nat_eq, List, [], ◌∷◌, map, Option, Some, None, refl}
use Rattle.std.specs.Prelude.{find, option_map, slice_get, option_copied, IfSome}
use Rattle.ctf_class.specs.Items.{first_of_id, only_item}
use Rattle.ctf_meaning.specs.There.{only}
use Rattle.ctf_types.specs.declared.streams.StreamAt.{StreamAt}
use Rattle.ctf_types.specs.Whole.{stream_at}

pub of_id : (ss : List StreamAt) (id : ℕ) → option_map stream_at (first_of_id (λ s. s.id) id ss) ≡ find (λ s. nat_eq s.id id) (map stream_at ss)
of_id [] id = refl
of_id (s ∷ ss) id = by_test (nat_eq s.id id) (of_id ss id)
  where
    by_test : (b : Bool) → option_map stream_at (first_of_id (λ s. s.id) id ss) ≡ find (λ s. nat_eq s.id id) (map stream_at ss) →
        option_map stream_at (cond b (Some s) (first_of_id (λ s. s.id) id ss)) ≡ cond b (Some (stream_at s)) (find (λ s. nat_eq s.id id) (map stream_at ss))
    by_test true h = refl
    by_test false h = h

pub the_only : (ss : List StreamAt) → option_map stream_at (only_item ss) ≡ only (map stream_at ss)
the_only [] = refl
the_only (s ∷ []) = refl
the_only (s ∷ t ∷ ss) = refl

pub id_stands : (ss : List StreamAt) (id : ℕ) (s : StreamAt) → first_of_id (λ s. s.id) id ss ≡ Some s → (j : ℕ) × (slice_get ss j ≡ Some s)
id_stands [] id s e = absurd (grind (arith, e))
id_stands (t ∷ ss) id s e = by_test (nat_eq t.id id) e (id_stands ss id s)
  where
    by_test : (b : Bool) → cond b (Some t) (first_of_id (λ s. s.id) id ss) ≡ Some s → (first_of_id (λ s. s.id) id ss ≡ Some s → (j : ℕ) × (slice_get ss j ≡ Some s)) →
        (j : ℕ) × (slice_get (t ∷ ss) j ≡ Some s)
    by_test true h later = (0, h)
    by_test false h later = let p = later h in (suc p.0, p.1)

pub only_stands : (ss : List StreamAt) (s : StreamAt) → only_item ss ≡ Some s → (j : ℕ) × (slice_get ss j ≡ Some s)
only_stands [] s e = absurd (grind (arith, e))
only_stands (t ∷ []) s e = (0, e)
only_stands (t ∷ u ∷ ss) s e = absurd (grind (arith, e))

pub if_stands : (ss : List StreamAt) (o : Option (Bor StreamAt)) → ((s : StreamAt) → option_copied o ≡ Some s → (j : ℕ) × (slice_get ss j ≡ Some s)) → IfSome o (λ s. (j : ℕ) × (slice_get ss j ≡ Some s.now))
if_stands ss None h = tt
if_stands ss (Some s) h = h s.now refl
