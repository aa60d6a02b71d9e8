-- Names as texts, and their bytes.
use Rattle.std.proofs.Common.{◌≡◌, ◌+◌, ℕ, Bool, true, false, cond, List, [], ◌∷◌, map, length, String, string_bytes, refl, ap, subst, arith}
use Rattle.std.proofs.lemmas.List.{get_or-map, length-map}
use Rattle.std.proofs.lemmas.List.Sorted.{IsPermutation-map}
use Rattle.std.specs.Cmp.Lexicographic.{slice_cmp}
use Rattle.std.specs.List.{filter}
use Rattle.std.specs.List.Sorted.{IsPermutation, IsSorted}
use Rattle.std.specs.Ordering.{nat_cmp}
use Rattle.std.specs.String.{string_cmp}
use Rattle.std.specs.declared.alloc.Global.{Global}
use Rattle.ctf_options.specs.Names.{is_stream}
use Rattle.ctf_cli.specs.Traces.{AreStreamNames}

abbrev bytes : List (String Global) → List (List ℕ)
bytes names = map (string_bytes {Z = Global}) names

abbrev is_kept : String Global → Bool
is_kept name = is_stream (string_bytes name)

kept_more : (b : Bool) (name : String Global) (names : List (String Global)) (kept : List (List ℕ)) → bytes names ≡ kept → bytes (cond b (name ∷ names) names) ≡ cond b (string_bytes name ∷ kept) kept
kept_more true name names kept same = ap (λ rest. string_bytes name ∷ rest) same
kept_more false name names kept same = same

kept_bytes : (names : List (String Global)) → bytes (filter is_kept names) ≡ filter is_stream (bytes names)
kept_bytes [] = refl
kept_bytes (name ∷ names) = kept_more (is_kept name) name (filter is_kept names) (filter is_stream (bytes names)) (kept_bytes names)

sorted_bytes : (names : List (String Global)) → IsSorted string_cmp names → IsSorted (slice_cmp nat_cmp) (bytes names)
sorted_bytes [] sorted = λ k d low high. absurd (omega (arith, high))
sorted_bytes (name ∷ names) sorted = λ k d low high.
    let long : length (bytes (name ∷ names)) ≡ length (name ∷ names) = length-map (name ∷ names) (string_bytes {Z = Global}) in
    let next = get_or-map (string_bytes {Z = Global}) (name ∷ names) (k + 1) name d (omega (arith, high, long)) in
    let here = get_or-map (string_bytes {Z = Global}) (name ∷ names) k name d (omega (arith, high, long)) in
    rw (next, here) (sorted k name low (omega (arith, high, long)))

-- the names that a call gives are those of streams
pub are_stream_names : (listed names : List (String Global)) → IsPermutation (filter is_kept listed) names → IsSorted string_cmp names
    → AreStreamNames (map string_bytes listed) (map string_bytes names)
are_stream_names listed names kept order = record {
  kept = subst (λ (xs : List (List ℕ)). IsPermutation xs (bytes names)) (kept_bytes listed) (IsPermutation-map string_bytes (filter is_kept listed) names kept);
  order = sorted_bytes names order;
}
