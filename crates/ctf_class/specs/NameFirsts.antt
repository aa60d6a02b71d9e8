-- Where names of a list are kept.
use Rattle.std.specs.Prelude.{◌≡◌, ℕ, List, Option}
use Rattle.std.specs.List.{position_from}
use Rattle.std.specs.Ordering.{nat_cmp}
use Rattle.std.specs.Cmp.Lexicographic.{slice_cmp}
use Rattle.std.specs.BTreeMap.{get_by}
use Rattle.std.specs.Str.{bytes_eq}
use Rattle.ctf_class.specs.SameNames.{has_twins}
use Rattle.ctf_class.specs.declared.firsts.Firsts.{Firsts}

-- the place that is kept for a name
abbrev pub place_in : Firsts → List ℕ → Option ℕ
place_in firsts name = get_by (λ key. slice_cmp nat_cmp name key.items) firsts.places

-- for each name its first place is kept, and whether two names are the same
pub record IsIndex (names : List (List ℕ)) (firsts : Firsts) : Type 0 where
  pub places : (name : List ℕ)
      → place_in firsts name ≡ position_from (λ other. bytes_eq other name) 0 names
  pub twins : firsts.has_twins ≡ has_twins bytes_eq names
