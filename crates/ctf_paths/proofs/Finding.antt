-- Members that are found, and the ways to them.
use Rattle.std.proofs.Common.{◌≡◌, ℕ, ◌+◌, ◌<◌, ◌≤◌, true, false, List, [], ◌∷◌, ◌++◌, length, take, drop, get_or, Option, Some, None, option_map, refl, ap, sym, ◌∙◌, append_assoc, arith}
use Rattle.std.specs.Prelude.{if◌then◌else◌, nat_lt, option_and_then, find}
use Rattle.std.specs.List.{enumerate_from}
use Rattle.std.proofs.lemmas.Bool.{lt-ltb, le-ltb}
use Rattle.ctf_meaning.specs.Name.{Word, Words, same_word}
use Rattle.ctf_meaning.specs.Shapes as plain
use Rattle.ctf_class.specs.declared.route.Origin.{Origin}
use Rattle.ctf_meaning.specs.Paths.{Found, members_of, member_named, field_at, route_from}
use Rattle.ctf_declared_class.specs.Views.{place_and_class}
use Rattle.ctf_paths.specs.Finding.{class_named, further, down}
use Rattle.ctf_paths.proofs.Lists.{find_taken, at_place}

-- a place among the first
abbrev below : ℕ → ℕ × plain.Shape → Option (ℕ × plain.Shape)
below n q = if nat_lt q.0 n then Some q else None

moved_in : (n : ℕ) (o : Option (ℕ × plain.Field)) → option_map place_and_class (option_and_then (λ q. if nat_lt q.0 n then Some q else None) o) ≡ option_and_then (below n) (option_map place_and_class o)
moved_in n None = refl
moved_in n (Some (k, f)) =
    elim (nat_lt k n) as (λ b. option_map place_and_class (if b then Some (k, f) else None) ≡ (if b then Some (place_and_class (k, f)) else None)) [ true ↦ refl | false ↦ refl ]

named_taken : (word : Word) (n : ℕ) (fields : List plain.Field) → class_named word (take n fields) ≡ option_and_then (below n) (class_named word fields)
named_taken word n fields =
    let zero_more : 0 + n ≡ n = omega arith in
    let is_named = λ (p : ℕ × plain.Field). same_word p.1.name word in
    ap (option_map place_and_class) (find_taken is_named 0 n fields ∙ ap (λ m. option_and_then (λ q. if nat_lt q.0 m then Some q else None) (find is_named (enumerate_from 0 fields))) zero_more)
    ∙ moved_in n (member_named word fields)

pub named_nowhere : (word : Word) (n : ℕ) (fields : List plain.Field) → None ≡ class_named word fields → None ≡ class_named word (take n fields)
named_nowhere word n fields e = ap (option_and_then (below n)) e ∙ sym (named_taken word n fields)

pub named_before : (word : Word) (n k : ℕ) (s : plain.Shape) (fields : List plain.Field) → k < n → Some (k, s) ≡ class_named word fields → Some (k, s) ≡ class_named word (take n fields)
named_before word n k s fields h e =
    ap (λ b. if b then Some (k, s) else None) (sym (lt-ltb k n h)) ∙ ap (option_and_then (below n)) e ∙ sym (named_taken word n fields)

pub named_after : (word : Word) (n k : ℕ) (s : plain.Shape) (fields : List plain.Field) → n ≤ k → Some (k, s) ≡ class_named word fields → None ≡ class_named word (take n fields)
named_after word n k s fields h e =
    ap (λ b. if b then Some (k, s) else None) (sym (le-ltb k n h)) ∙ ap (option_and_then (below n)) e ∙ sym (named_taken word n fields)

-- a way that begins with a step
step_first : (k : ℕ) (o : Option Found) → option_map (further (k ∷ [])) o ≡ option_and_then (λ found. Some (k ∷ found.0, found.1)) o
step_first k None = refl
step_first k (Some found) = refl

steps_further : (steps : List ℕ) (k : ℕ) (o : Option Found) → option_map (further (steps ++ k ∷ [])) o ≡ option_map (further steps) (option_and_then (λ found. Some (k ∷ found.0, found.1)) o)
steps_further steps k None = refl
steps_further steps k (Some found) = ap (λ way. Some (way, found.1)) (append_assoc steps (k ∷ []) found.0)

-- what words lead to from members
abbrev in_members : List plain.Field → Word → Words → Option Found
in_members fields word words = option_and_then (λ p. option_and_then (λ found. Some (p.0 ∷ found.0, found.1)) (down p.1 words)) (class_named word fields)

abbrev last : ℕ × plain.Field → Option Found
last p = Some (p.0 ∷ [], p.1.shape)

abbrev on : ℕ → Found → Option Found
on k found = Some (k ∷ found.0, found.1)

abbrev first_of : (plain.Shape → Option Found) → ℕ × plain.Shape → Option Found
first_of rest p = option_and_then (on p.0) (rest p.1)

field_last : (o : Option (ℕ × plain.Field)) → option_and_then last o ≡ option_and_then (first_of (λ s. down s [])) (option_map place_and_class o)
field_last None = refl
field_last (Some p) = refl

field_more : (next : Word) (words : Words) (o : Option (ℕ × plain.Field)) → option_and_then (λ p. option_and_then (on p.0) (field_at (members_of p.1.shape) (next ∷ words))) o ≡ option_and_then (first_of (λ s. field_at (members_of s) (next ∷ words))) (option_map place_and_class o)
field_more next words None = refl
field_more next words (Some p) = refl

first_same : (f g : plain.Shape → Option Found) → ((s : plain.Shape) → f s ≡ g s) → (o : Option (ℕ × plain.Shape)) → option_and_then (first_of f) o ≡ option_and_then (first_of g) o
first_same f g e None = refl
first_same f g e (Some p) = ap (option_and_then (on p.0)) (e p.1)

field_is : (fields : List plain.Field) (word : Word) (words : Words) → field_at fields (word ∷ words) ≡ in_members fields word words
field_is fields word [] = field_last (member_named word fields)
field_is fields word (next ∷ words) =
    field_more next words (member_named word fields)
    ∙ first_same (λ s. field_at (members_of s) (next ∷ words)) (λ s. down s (next ∷ words)) (λ s. field_is (members_of s) next words) (class_named word fields)

map_both : (origin : Origin) (k : ℕ) (o : Option Found) → option_map (λ found. route_from origin (further (k ∷ []) found)) o ≡ option_map (route_from origin) (option_map (further (k ∷ [])) o)
map_both origin k None = refl
map_both origin k (Some found) = refl

pub field_nowhere : (fields : List plain.Field) (word : Word) (words : Words) → None ≡ class_named word fields → None ≡ field_at fields (word ∷ words)
field_nowhere fields word words e =
    ap (option_and_then (λ p. option_and_then (λ found. Some (p.0 ∷ found.0, found.1)) (down p.1 words))) e ∙ sym (field_is fields word words)

pub field_there : (fields : List plain.Field) (word : Word) (words : Words) (k : ℕ) (s : plain.Shape) → Some (k, s) ≡ class_named word fields → option_map (further (k ∷ [])) (down s words) ≡ field_at fields (word ∷ words)
field_there fields word words k s e =
    step_first k (down s words)
    ∙ ap (option_and_then (λ p. option_and_then (λ found. Some (p.0 ∷ found.0, found.1)) (down p.1 words))) e ∙ sym (field_is fields word words)

pub down_nowhere : (steps : List ℕ) (s : plain.Shape) (words : Words) (i : ℕ) (word : Word) → i < length words → word ≡ get_or words i word → None ≡ class_named word (members_of s)
    → None ≡ option_map (further steps) (down s (drop i words))
down_nowhere steps s words i word h at e =
    ap (λ o. option_map (further steps) (option_and_then (λ p. option_and_then (λ found. Some (p.0 ∷ found.0, found.1)) (down p.1 (drop (i + 1) words))) o)) e
    ∙ ap (λ ws. option_map (further steps) (down s ws)) (sym (at_place words i word h at))

pub down_there : (steps : List ℕ) (s : plain.Shape) (words : Words) (i : ℕ) (word : Word) (k : ℕ) (inner : plain.Shape) → i < length words → word ≡ get_or words i word → Some (k, inner) ≡ class_named word (members_of s)
    → option_map (further (steps ++ k ∷ [])) (down inner (drop (i + 1) words)) ≡ option_map (further steps) (down s (drop i words))
down_there steps s words i word k inner h at e =
    steps_further steps k (down inner (drop (i + 1) words))
    ∙ ap (λ o. option_map (further steps) (option_and_then (λ p. option_and_then (λ found. Some (p.0 ∷ found.0, found.1)) (down p.1 (drop (i + 1) words))) o)) e
    ∙ ap (λ ws. option_map (further steps) (down s ws)) (sym (at_place words i word h at))

-- the field after a first step
pub routed_there : (origin : Origin) (fields : List plain.Field) (words : Words) (word : Word) (k : ℕ) (s : plain.Shape) → 1 ≤ length words → word ≡ get_or words 0 word → Some (k, s) ≡ class_named word fields
    → option_map (λ found. route_from origin (further (k ∷ []) found)) (down s (drop 1 words)) ≡ option_map (route_from origin) (field_at fields words)
routed_there origin fields words word k s long at e =
    let here : 0 < length words = omega arith in
    let split = at_place words 0 word here at in
    let both = field_there fields word (drop 1 words) k s e in
    map_both origin k (down s (drop 1 words)) ∙ ap (option_map (route_from origin)) (both ∙ ap (field_at fields) (sym split))
