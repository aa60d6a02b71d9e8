-- Clocks by their names.
use Rattle.std.proofs.Common.{◌≡◌, ℕ, ◌+◌, ◌≤◌, Bool, true, false, cond, List, [], ◌∷◌, length, map, Some, None, refl, ap, sym, ◌∙◌, arith}
use Rattle.std.specs.Prelude.{position, slice_get, not, nat_lt}
use Rattle.std.specs.List.{prefix_len, position_or_len}
use Rattle.std.proofs.lemmas.Bool.{ltb-false}
use Rattle.std.proofs.lemmas.List.Folds.{find_at}
use Rattle.std.proofs.lemmas.Option.{slice_get_past}
use Rattle.ctf_class.specs.declared.trace.Clock.{Clock}
use Rattle.ctf_meaning.specs.Name.{Word, same_word}
use Rattle.ctf_meaning.specs.Clocks.{clock_named}

prefix-map : {A B : Type 0} (q : B → Bool) (f : A → B) (xs : List A) → prefix_len q (map f xs) ≡ prefix_len (λ x. q (f x)) xs
prefix-map q f [] = refl
prefix-map q f (x ∷ xs) = ap (λ n. cond (q (f x)) (1 + n) 0) (prefix-map q f xs)

length-names : {A B : Type 0} (f : A → B) (xs : List A) → length (map f xs) ≡ length xs
length-names f [] = refl
length-names f (x ∷ xs) = let e = length-names f xs in omega (arith, e)

is_some : (b : Bool) (m k : ℕ) → Some k ≡ cond b (Some m) None → m ≡ k
is_some true m k e = cc
is_some false m k e = absurd (cc)

is_none : (b : Bool) (m : ℕ) → None ≡ cond b (Some m) None → b ≡ false
is_none true m e = absurd (cc)
is_none false m e = refl

-- the clock at the place of its name
pub named_at : (clocks : List Clock) (name : Word) (k : ℕ) → Some k ≡ position (λ word. same_word word name) (map (λ c. c.name) clocks) → slice_get clocks k ≡ clock_named clocks name
named_at clocks name k e =
    let is_name = λ (word : Word). same_word word name in
    let names = map (λ (c : Clock). c.name) clocks in
    let m = is_some (nat_lt (position_or_len is_name names) (length names)) (position_or_len is_name names) k e in
    let same = prefix-map (λ (word : Word). not (is_name word)) (λ (c : Clock). c.name) clocks in
    ap (slice_get clocks) (sym m ∙ same) ∙ sym (find_at (λ c. same_word c.name name) clocks)

pub named_nowhere : (clocks : List Clock) (name : Word) → None ≡ position (λ word. same_word word name) (map (λ c. c.name) clocks) → None ≡ clock_named clocks name
named_nowhere clocks name e =
    let is_name = λ (word : Word). same_word word name in
    let names = map (λ (c : Clock). c.name) clocks in
    let past = ltb-false (position_or_len is_name names) (length names) (is_none (nat_lt (position_or_len is_name names) (length names)) (position_or_len is_name names) e) in
    let same = prefix-map (λ (word : Word). not (is_name word)) (λ (c : Clock). c.name) clocks in
    let long = length-names (λ (c : Clock). c.name) clocks in
    let after : length clocks ≤ position_or_len (λ c. same_word c.name name) clocks = omega (arith, past, same, long) in
    sym (slice_get_past clocks (position_or_len (λ c. same_word c.name name) clocks) after) ∙ sym (find_at (λ c. same_word c.name name) clocks)
