-- Entries of a block by their names.
use Rattle.std.proofs.Common.{◌≡◌, ℕ, ◌+◌, ◌<◌, Bool, true, false, List, [], ◌∷◌, ◌++◌, map, filter, drop, length, get_or, flat_map, Some, suc, if◌then◌else◌, refl, ap, ◌∙◌}
use Rattle.std.proofs.lemmas.List.{drop_more}
use Rattle.ctf_meaning.specs.declared.fault.ResolveFault.{ResolveFault}
use Rattle.ctf_meaning.specs.Name.{Words}
use Rattle.ctf_meaning.specs.There.{first}
use Rattle.ctf_attributes.specs.declared.entry_name.EntryName.{EntryName}
use Rattle.ctf_attributes.specs.EntryNames.{words_of}
use Rattle.ctf_attributes.proofs.FirstLemmas.{still}

counted : {X Y : Type 0} (s : Bool) (y : Y) (x : X) (xs : List X) (ys : List Y) → length xs ≡ length ys → length (if s then x ∷ xs else xs) ≡ length (if s then y ∷ ys else ys)
counted true y x xs ys h = ap suc h
counted false y x xs ys h = h

next-name : (F : Words → List ResolveFault) (names : List EntryName) (i : ℕ) (d : EntryName) → i < length names → flat_map F (map words_of (drop i names)) ≡ F (words_of (get_or names i d)) ++ flat_map F (map words_of (drop (i + 1) names))
next-name F names i d within = ap (λ ns. flat_map F (map words_of ns)) (drop_more names i d within)

-- the first fault is that of the next name, or of a later one
pub name-first : (F : Words → List ResolveFault) (names : List EntryName) (i : ℕ) (d : EntryName) (f : ResolveFault) → i < length names → flat_map F (map words_of names) ≡ flat_map F (map words_of (drop i names)) → first (F (words_of (get_or names i d))) ≡ Some f → first (flat_map F (map words_of names)) ≡ Some f
name-first F names i d f within same h =
    ap first (same ∙ next-name F names i d within) ∙ still (F (words_of (get_or names i d))) (flat_map F (map words_of (drop (i + 1) names))) f h

pub name-clean : (F : Words → List ResolveFault) (names : List EntryName) (i : ℕ) (d : EntryName) → i < length names → flat_map F (map words_of names) ≡ flat_map F (map words_of (drop i names)) → F (words_of (get_or names i d)) ≡ [] → flat_map F (map words_of names) ≡ flat_map F (map words_of (drop (i + 1) names))
name-clean F names i d within same clean =
    same ∙ (next-name F names i d within ∙ ap (λ z. z ++ flat_map F (map words_of (drop (i + 1) names))) clean)

-- how many entries have a name
pub length-filter-map : {X Y : Type 0} (p : Y → Bool) (f : X → Y) (xs : List X) → length (filter (λ x. p (f x)) xs) ≡ length (filter p (map f xs))
length-filter-map p f [] = refl
length-filter-map p f (x ∷ xs) = counted (p (f x)) (f x) x _ _ (length-filter-map p f xs)
