-- Names declared one after another.
use Rattle.std.proofs.Common.{◌≡◌, ℕ, ◌+◌, ◌<◌, List, [], ◌∷◌, ◌++◌, map, drop, length, get_or, Result, Ok, refl, ap, sym, ◌∙◌}
use Rattle.std.specs.Prelude.{is_some}
use Rattle.tsdl_tree.specs.declared.tree.Declarator.{Declarator}
use Rattle.ctf_meaning.specs.declared.fault.ResolveFault.{ResolveFault}
use Rattle.ctf_meaning.specs.declared.fault.ResolveFault.TheVariants.{DeclaredTwice}
use Rattle.ctf_meaning.specs.Parts.{Given}
use Rattle.ctf_meaning.specs.Settings.{when}
use Rattle.ctf_meaning.specs.Shapes.{Shape, arrays}
use Rattle.ctf_meaning_steps.specs.Told.{◌>>=◌, unless, Follows}
use Rattle.ctf_meaning_steps.specs.Seen.{Seen, depth_fault, with_name, declare, declare_each}
use Rattle.ctf_declarations.specs.Given.{by_declarator}
use Rattle.ctf_declarations.proofs.Steps.{Tell, tell_same, bind_fault, unless_bind, follows_same, follows_bind, drop_next}

pub each_more : (own : Seen) (shape : Shape) (xs ys : List Given) → declare_each own shape (xs ++ ys) ≡ (declare_each own shape xs >>= λ after. declare_each after shape ys)
each_more own shape [] ys = refl
each_more own shape (x ∷ xs) ys =
    let twice = when (is_some (own x.name)) DeclaredTwice in
    let deep = depth_fault (arrays x.lengths shape) in
    let later = declare_each (with_name own x.name (arrays x.lengths shape)) shape xs in
    ap (λ t. unless twice (unless deep t)) (each_more (with_name own x.name (arrays x.lengths shape)) shape xs ys)
    ∙ ap (unless twice) (unless_bind deep later (λ after. declare_each after shape ys))
    ∙ unless_bind twice (unless deep later) (λ after. declare_each after shape ys)

pub declare_more : (own : Seen) (shape : Shape) (xs ys : List Given) → declare own shape (xs ++ ys) ≡ (declare own shape xs >>= λ after. declare_each after shape ys)
declare_more own shape xs ys =
    ap (unless (depth_fault shape)) (each_more own shape xs ys)
    ∙ unless_bind (depth_fault shape) (declare_each own shape xs) (λ after. declare_each after shape ys)

pub declare_then : {V : Type 0} (own after : Seen) (shape : Shape) (xs ys : List Given) (view : V → Seen) (r : Result V ResolveFault) →
    declare own shape xs ≡ Ok after → Follows (declare_each after shape ys) view r → Follows (declare own shape (xs ++ ys)) view r
declare_then own after shape xs ys view r e h =
    follows_same view r (declare own shape xs >>= λ o. declare_each o shape ys) (declare own shape (xs ++ ys)) (sym (declare_more own shape xs ys))
    (follows_bind view r (declare own shape xs) (λ o. declare_each o shape ys) after e h)

module _ (own : Seen) (shape : Shape) (ds : List Declarator) (i : ℕ) (d : Declarator) (is : d ≡ get_or ds i d) (h : i < length ds) where
  split : declare_each own shape (map by_declarator (drop i ds)) ≡ (declare_each own shape (by_declarator d ∷ []) >>= λ after. declare_each after shape (map by_declarator (drop (i + 1) ds)))
  split =
      ap (λ l. declare_each own shape (map by_declarator l)) (drop_next ds i d is h)
      ∙ each_more own shape (by_declarator d ∷ []) (map by_declarator (drop (i + 1) ds))

  pub each_next : (after : Seen) → declare_each own shape (by_declarator d ∷ []) ≡ Ok after →
      declare_each after shape (map by_declarator (drop (i + 1) ds)) ≡ declare_each own shape (map by_declarator (drop i ds))
  each_next after e = sym (split ∙ ap (λ t. t >>= λ o. declare_each o shape (map by_declarator (drop (i + 1) ds))) e)

  pub each_fault : (f : ResolveFault) → Tell (declare_each own shape (by_declarator d ∷ [])) f → Tell (declare_each own shape (map by_declarator (drop i ds))) f
  each_fault f e =
      tell_same (declare_each own shape (by_declarator d ∷ []) >>= λ o. declare_each o shape (map by_declarator (drop (i + 1) ds))) (declare_each own shape (map by_declarator (drop i ds))) f (sym split)
      (bind_fault (declare_each own shape (by_declarator d ∷ [])) (λ o. declare_each o shape (map by_declarator (drop (i + 1) ds))) f e)
