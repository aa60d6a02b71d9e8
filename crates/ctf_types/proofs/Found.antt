-- The streams that are in the declarations so far.
use Rattle.std.proofs.Common.{◌≡◌, ℕ, zero, suc, subst, ◌+◌, ◌<◌, ◌≤◌, List, [], ◌∷◌, ◌++◌, map, length, get_or, Some, None, sym, ap, ◌∙◌, arith, append-nil}
use Rattle.std.specs.Prelude.{filter_map, option_map, slice_get}
use Rattle.std.proofs.lemmas.List.{map-append}
use Rattle.tsdl_tree.specs.declared.tree.Declaration.{Declaration as TreeDeclaration}
use Rattle.ctf_meaning.specs.Blocks.{stream_id_of}
use Rattle.ctf_meaning.specs.Reading.{declaration_of}
use Rattle.ctf_meaning.specs.Streams.{Stream, stream_by}
use Rattle.ctf_types.specs.declared.streams.StreamAt.{StreamAt}
use Rattle.ctf_meaning.proofs.Lists.{some_same}
use Rattle.ctf_types.specs.Whole.{PlacedFrom, ArePlaced, stream_at}
use Rattle.ctf_types.proofs.Numbers.{from, from_next, from_end, given_one, given_none}

placed_one : (n : ℕ) (found : List StreamAt) (s : StreamAt) → s.place ≡ n + length found → PlacedFrom n found → PlacedFrom n (found ++ s ∷ [])
placed_one n [] s e h = (e ∙ (let z : n + 0 ≡ n = omega arith in z), tt)
placed_one n (x ∷ xs) s e h = (h.0, placed_one (n + 1) xs s (e ∙ (let z : n + suc (length xs) ≡ n + 1 + length xs = omega arith in z)) h.1)

pub place_is : (n : ℕ) (found : List StreamAt) (j : ℕ) (s : StreamAt) → PlacedFrom n found → slice_get found j ≡ Some s → s.place ≡ n + j
place_is n [] j s h e = absurd (grind (arith, e))
place_is n (x ∷ xs) zero s h e = subst (λ (y : StreamAt). y.place ≡ n + 0) (some_same x s e) (h.0 ∙ (let z : n ≡ n + 0 = omega arith in z))
place_is n (x ∷ xs) (suc j) s h e = place_is (n + 1) xs j s h.1 e ∙ (let z : n + 1 + j ≡ n + suc j = omega arith in z)

module _ (ds : List TreeDeclaration) (all : List Stream) where
  abbrev IsPart : List StreamAt → ℕ → Type 0
  IsPart found i = map stream_at found ++ filter_map stream_by (from ds i) ≡ all

  -- those found and those to come are all
  pub record IsFound (found : List StreamAt) (i : ℕ) : Type 0 where
    pub part : IsPart found i
    pub placed : ArePlaced found

  pub found_one : (found : List StreamAt) (i : ℕ) (d : TreeDeclaration) (id place : ℕ) → place ≡ length found → i < length ds → d ≡ get_or ds i d → stream_id_of (declaration_of d) ≡ Some id →
      IsFound found i → IsFound (found ++ record { place = place; block = Some i; id = id } ∷ []) (i + 1)
  found_one found i d id place p l e is h = record {
    part = ap (λ xs. xs ++ filter_map stream_by (from ds (i + 1))) (map-append stream_at found (record { place = place; block = Some i; id = id } ∷ []))
        ∙ given_one stream_by (map stream_at found) (i, declaration_of d) (record { block = Some i; id = id }) (from ds (i + 1)) (ap (option_map (λ n. record { block = Some i; id = n })) is)
        ∙ ap (λ ps. map stream_at found ++ filter_map stream_by ps) (sym (from_next ds i d l e))
        ∙ h.part;
    placed = placed_one 0 found (record { place = place; block = Some i; id = id }) (p ∙ (let z : length found ≡ 0 + length found = omega arith in z)) h.placed;
  }

  pub found_none : (found : List StreamAt) (i : ℕ) (d : TreeDeclaration) → i < length ds → d ≡ get_or ds i d → stream_id_of (declaration_of d) ≡ None →
      IsFound found i → IsFound found (i + 1)
  found_none found i d l e is h = record {
    part = given_none stream_by (map stream_at found) (i, declaration_of d) (from ds (i + 1)) (ap (option_map (λ n. record { block = Some i; id = n })) is)
        ∙ ap (λ ps. map stream_at found ++ filter_map stream_by ps) (sym (from_next ds i d l e))
        ∙ h.part;
    placed = h.placed;
  }

  pub found_all : (found : List StreamAt) (i : ℕ) → length ds ≤ i → IsFound found i → map stream_at found ≡ all
  found_all found i h is = sym (append-nil (map stream_at found)) ∙ ap (λ ps. map stream_at found ++ filter_map stream_by ps) (sym (from_end ds i h)) ∙ is.part
