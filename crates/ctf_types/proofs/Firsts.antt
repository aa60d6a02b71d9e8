-- Of which faults one is reported.
use Rattle.std.proofs.Common.{◌≡◌, List, [], ◌∷◌, ◌++◌, map, refl, sym, ap, ◌∙◌, subst, arith, append_assoc}
use Rattle.std.specs.Prelude.{flat_map, Contains}
use Rattle.ctf_meaning.specs.declared.fault.ResolveFault.{ResolveFault}
use Rattle.ctf_meaning.specs.Written.{Declaration}
use Rattle.ctf_meaning.specs.Streams.{numbered}
use Rattle.ctf_meaning.specs.Faults.{own_faults, link_faults, whole_faults, faults, first_faults}
use Rattle.ctf_meaning.specs.Laws.{HasNoOwnFault}

-- no declaration has a link fault
abbrev pub HasNoLinkFault : List Declaration → Type 0
HasNoLinkFault text = flat_map (link_faults text) (numbered text) ≡ []

append_left : {X : Type 0} (xs ys : List X) → xs ++ ys ≡ [] → xs ≡ []
append_left [] ys h = refl
append_left (x ∷ xs) ys h = absurd (grind (arith, h))

append_right : {X : Type 0} (xs ys : List X) → xs ++ ys ≡ [] → ys ≡ []
append_right [] ys h = h
append_right (x ∷ xs) ys h = absurd (grind (arith, h))

-- groups without faults are passed over
pub passed : {X : Type 0} (f : X → List ResolveFault) (xs : List X) (more : List (List ResolveFault)) → flat_map f xs ≡ [] → first_faults (map f xs ++ more) ≡ first_faults more
passed f [] more h = refl
passed {X} f (x ∷ xs) more h = by_group (f x) (append_left (f x) (flat_map f xs) h) (passed f xs more (append_right (f x) (flat_map f xs) h))
  where
    by_group : (fs : List ResolveFault) → fs ≡ [] → first_faults (map f xs ++ more) ≡ first_faults more → first_faults (fs ∷ (map f xs ++ more)) ≡ first_faults more
    by_group [] e rest = rest
    by_group (g ∷ gs) e rest = absurd (grind (arith, e))

-- a fault of the first group
pub of_first : (fs : List ResolveFault) (more : List (List ResolveFault)) (fault : ResolveFault) → Contains fs fault → Contains (first_faults (fs ∷ more)) fault
of_first [] more fault h = absurd (omega (arith, h.1))
of_first (g ∷ gs) more fault h = h

-- what the first groups report is reported
pub of_front : (xs more : List (List ResolveFault)) (fault : ResolveFault) → Contains (first_faults xs) fault → Contains (first_faults (xs ++ more)) fault
of_front [] more fault h = absurd (omega (arith, h.1))
of_front ([] ∷ xs) more fault h = of_front xs more fault h
of_front ((g ∷ gs) ∷ xs) more fault h = h

-- a fault of a declaration after others that have none
pub of_later : {X : Type 0} (f : X → List ResolveFault) (before : List X) (x : X) (after : List X) (fault : ResolveFault) → flat_map f before ≡ [] → Contains (f x) fault →
    Contains (first_faults (map f (before ++ x ∷ after))) fault
of_later f [] x after fault h k = of_first (f x) (map f after) fault k
of_later {X} f (y ∷ before) x after fault h k = by_group (f y) (append_left (f y) (flat_map f before) h) (of_later f before x after fault (append_right (f y) (flat_map f before) h) k)
  where
    by_group : (fs : List ResolveFault) → fs ≡ [] → Contains (first_faults (map f (before ++ x ∷ after))) fault → Contains (first_faults (fs ∷ map f (before ++ x ∷ after))) fault
    by_group [] e rest = rest
    by_group (g ∷ gs) e rest = absurd (grind (arith, e))

module _ (text : List Declaration) where
  pub own_told : (fault : ResolveFault) → Contains (first_faults (map (own_faults text) (numbered text))) fault → Contains (faults text) fault
  own_told fault h =
      of_front (map (own_faults text) (numbered text) ++ map (link_faults text) (numbered text)) (whole_faults text ∷ []) fault
      (of_front (map (own_faults text) (numbered text)) (map (link_faults text) (numbered text)) fault h)

  after_own : HasNoOwnFault text → first_faults (map (link_faults text) (numbered text) ++ whole_faults text ∷ []) ≡ faults text
  after_own own =
      sym (passed (own_faults text) (numbered text) (map (link_faults text) (numbered text) ++ whole_faults text ∷ []) own)
      ∙ ap first_faults (sym (append_assoc (map (own_faults text) (numbered text)) (map (link_faults text) (numbered text)) (whole_faults text ∷ [])))

  pub link_told : HasNoOwnFault text → (fault : ResolveFault) → Contains (first_faults (map (link_faults text) (numbered text))) fault → Contains (faults text) fault
  link_told own fault h =
      subst (λ fs. Contains fs fault) (after_own own) (of_front (map (link_faults text) (numbered text)) (whole_faults text ∷ []) fault h)

  after_links : HasNoOwnFault text → HasNoLinkFault text → first_faults (whole_faults text ∷ []) ≡ faults text
  after_links own links = sym (passed (link_faults text) (numbered text) (whole_faults text ∷ []) links) ∙ after_own own

  pub whole_told : HasNoOwnFault text → HasNoLinkFault text → (fault : ResolveFault) → Contains (whole_faults text) fault → Contains (faults text) fault
  whole_told own links fault h = subst (λ fs. Contains fs fault) (after_links own links) (of_first (whole_faults text) [] fault h)

  pub none_told : HasNoOwnFault text → HasNoLinkFault text → whole_faults text ≡ [] → faults text ≡ []
  none_told own links whole = sym (after_links own links) ∙ ap (λ fs. first_faults (fs ∷ [])) whole
