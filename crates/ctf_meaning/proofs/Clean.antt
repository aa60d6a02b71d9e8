-- What holds of each declaration of a text without faults.
use Rattle.std.proofs.Common.{◌≡◌, ℕ, suc, ◌+◌, List, [], ◌∷◌, ◌++◌, map, take, Option, Some, refl, ap, ◌∙◌, arith}
use Rattle.std.specs.Prelude.{slice_get, flat_map}
use Rattle.std.specs.List.{enumerate_from}
use Rattle.ctf_meaning.specs.declared.fault.ResolveFault.{ResolveFault}
use Rattle.ctf_meaning.specs.Written.{Declaration}
use Rattle.ctf_meaning.specs.Parts.{Located, located, located_from}
use Rattle.ctf_meaning.specs.Names.{entries_in}
use Rattle.ctf_meaning.specs.Own.{part_faults, faults_within}
use Rattle.ctf_meaning.specs.Blocks.{block_faults, twice_faults}
use Rattle.ctf_meaning.specs.Scopes.{scope_faults, classes_at, node_faults}
use Rattle.ctf_meaning.specs.Streams.{numbered}
use Rattle.ctf_meaning.specs.Faults.{most_nodes, first_faults, own_faults, link_faults, whole_faults, faults}
use Rattle.ctf_meaning.proofs.Lists.{Each, each_append, each_front, each_back, each_map, each_both, each_unmapped, each_none, append_left, append_right}
use Rattle.ctf_meaning.proofs.Shaped.{Shaped, text_shaped}

abbrev pub IsNone : List ResolveFault → Type 0
IsNone fs = fs ≡ []

pub first_none : (xs : List (List ResolveFault)) → first_faults xs ≡ [] → Each IsNone xs
first_none [] h = tt
first_none ([] ∷ more) h = (refl, first_none more h)
first_none ((f ∷ fs) ∷ more) h = absurd (grind (arith, h))

-- a declaration without faults, by its number
pub record Clean (text : List Declaration) (p : ℕ × Declaration) : Type 0 where
  pub number : slice_get text p.0 ≡ Some p.1
  pub parts : Each (λ q. part_faults (entries_in text) q ≡ []) (located (p.0 ∷ []) p.1)
  pub block : block_faults p.1 ≡ []
  pub scopes : Each (λ s. scope_faults s ≡ []) (classes_at text p.0 p.1)
  pub links : link_faults text p ≡ []

pub numbers : (n : ℕ) (ds : List Declaration) (get : ℕ → Option Declaration) → ((i : ℕ) → get (n + i) ≡ slice_get ds i) → Each (λ p. get p.0 ≡ Some p.1) (enumerate_from n ds)
numbers n [] get h = tt
numbers n (d ∷ ds) get h =
    (ap get (omega arith) ∙ h 0, numbers (n + 1) ds get (λ i. ap get (let moved : n + 1 + i ≡ n + suc i = omega arith in moved) ∙ h (suc i)))

-- the own faults of a declaration one by one
module _ (text : List Declaration) (k : ℕ) (d : Declaration) (own : own_faults text (k, d) ≡ []) where
  abbrev within : List ResolveFault
  within = faults_within (entries_in text) k d

  abbrev to_block : List ResolveFault
  to_block = within ++ block_faults d

  abbrev to_twice : List ResolveFault
  to_twice = to_block ++ twice_faults (take k text) d

  abbrev floats : List ResolveFault
  floats = flat_map scope_faults (classes_at text k d)

  four_none : to_twice ++ floats ≡ []
  four_none = append_left (to_twice ++ floats) (node_faults text most_nodes k) own

  two_none : to_block ≡ []
  two_none = append_left to_block (twice_faults (take k text) d) (append_left to_twice floats four_none)

  pub parts_none : Each (λ q. part_faults (entries_in text) q ≡ []) (located (k ∷ []) d)
  parts_none = each_none (part_faults (entries_in text)) (located (k ∷ []) d) (append_left within (block_faults d) two_none)

  pub block_none : block_faults d ≡ []
  block_none = append_right within (block_faults d) two_none

  pub scopes_none : Each (λ s. scope_faults s ≡ []) (classes_at text k d)
  scopes_none = each_none scope_faults (classes_at text k d) (append_right to_twice floats four_none)

pub own_sound : (text : List Declaration) (p : ℕ × Declaration) → own_faults text p ≡ [] → Each (λ q. part_faults (entries_in text) q ≡ []) (located (p.0 ∷ []) p.1)
own_sound text (k, d) own = parts_none text k d own

pub clean_by : (text : List Declaration) (p : ℕ × Declaration) → (slice_get text p.0 ≡ Some p.1) → own_faults text p ≡ [] → link_faults text p ≡ [] → Clean text p
clean_by text (k, d) number own links = record {
  number = number;
  parts = parts_none text k d own;
  block = block_none text k d own;
  scopes = scopes_none text k d own;
  links = links;
}

-- each declaration of a text without faults is clean, and nothing is wrong with the whole
pub all_clean : (text : List Declaration) → faults text ≡ [] → Each (Clean text) (numbered text)
all_clean text h =
    let groups : Each IsNone (map (own_faults text) (numbered text) ++ map (link_faults text) (numbered text) ++ whole_faults text ∷ []) = first_none _ h in
    let declarations : Each IsNone (map (own_faults text) (numbered text) ++ map (link_faults text) (numbered text)) = each_front IsNone _ (whole_faults text ∷ []) groups in
    let own : Each (λ p. own_faults text p ≡ []) (numbered text) =
    each_unmapped IsNone (own_faults text) (numbered text) (each_front IsNone (map (own_faults text) (numbered text)) (map (link_faults text) (numbered text)) declarations) in
    let links : Each (λ p. link_faults text p ≡ []) (numbered text) =
    each_unmapped IsNone (link_faults text) (numbered text) (each_back IsNone (map (own_faults text) (numbered text)) (map (link_faults text) (numbered text)) declarations) in
    let places : Each (λ p. slice_get text p.0 ≡ Some p.1) (numbered text) = numbers 0 text (slice_get text) (λ i. ap (slice_get text) (omega arith)) in
    each_map (λ p. ((slice_get text p.0 ≡ Some p.1) × (own_faults text p ≡ [])) × (link_faults text p ≡ [])) (Clean text)
    (λ p c. clean_by text p c.0.0 c.0.1 c.1) (numbered text)
    (each_both (λ p. (slice_get text p.0 ≡ Some p.1) × (own_faults text p ≡ [])) (λ p. link_faults text p ≡ []) (numbered text)
    (each_both (λ p. slice_get text p.0 ≡ Some p.1) (λ p. own_faults text p ≡ []) (numbered text) places own) links)

pub whole_none : (text : List Declaration) → faults text ≡ [] → whole_faults text ≡ []
whole_none text h =
    (each_back IsNone (map (own_faults text) (numbered text) ++ map (link_faults text) (numbered text)) (whole_faults text ∷ []) (first_none _ h)).0

pub parts_each : (F : Located → Type 0) (n : ℕ) (ds : List Declaration) → Each (λ p. Each F (located (p.0 ∷ []) p.1)) (enumerate_from n ds) → Each F (located_from n ds)
parts_each F n [] h = tt
parts_each F n (d ∷ ds) h = each_append F (located (n ∷ []) d) (located_from (n + 1) ds) h.0 (parts_each F (n + 1) ds h.1)

pub clean_shaped : (text : List Declaration) → Each (Clean text) (numbered text) → Each Shaped (entries_in text)
clean_shaped text h =
    text_shaped text (parts_each (λ q. part_faults (entries_in text) q ≡ []) 0 text
    (each_map (Clean text) (λ p. Each (λ q. part_faults (entries_in text) q ≡ []) (located (p.0 ∷ []) p.1)) (λ p c. c.parts) (numbered text) h))
