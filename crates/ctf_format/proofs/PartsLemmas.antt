-- The texts of a value's parts, one more at a time.
use Rattle.std.proofs.Common.{◌≡◌, ℕ, zero, suc, ◌+◌, ◌<◌, ◌≤◌, List, [], ◌∷◌, ◌++◌, map, length, get_or, refl, sym, ap, ◌∙◌, arith, append_assoc, append-nil, Some}
use Rattle.std.specs.Prelude.{slice_get}
use Rattle.ctf_class.specs.declared.class.Member.{Member}
use Rattle.ctf_decode.specs.declared.value.Value.{Value}
use Rattle.ctf_decode.specs.Values.{Val, vals_of, no_vals}
use Rattle.ctf_decode.specs.Views.{val}
use Rattle.ctf_format.specs.Rows.{row, enclosed}
use Rattle.ctf_format.specs.Texts.{Shown, Part, part_text, member_part, member_texts, element_texts, option_text}

abbrev members_of : List Member → List Value → List (List ℕ)
members_of ms vs = member_texts (map member_part ms) (vals_of (map val vs))

abbrev elements_of : Shown → ℕ → List Value → List (List ℕ)
elements_of shown i vs = element_texts shown i (vals_of (map val vs))

-- without values no member has a text
pub no_values : (parts : List Part) → member_texts parts no_vals ≡ []
no_values [] = refl
no_values (part ∷ parts) = refl

pub no_value : (ms : List Member) (vs : List Value) → length vs ≤ 0 → members_of ms vs ≡ []
no_value ms [] none = no_values (map member_part ms)
no_value ms (v ∷ vs) none = absurd (omega arith)

-- texts are written, and then the mark after them
pub closed_members : (ms : List Member) (vs : List Value) (line before : List ℕ) → 0 < length ms → 0 < length vs → line ≡ before ++ row 123 (members_of ms vs) → line ++ (32 ∷ 125 ∷ []) ≡ before ++ enclosed 123 125 (members_of ms vs)
closed_members [] vs line before some_ms some_vs wrote = absurd (omega arith)
closed_members (m ∷ ms) [] line before some_ms some_vs wrote = absurd (omega arith)
closed_members (m ∷ ms) (v ∷ vs) line before some_ms some_vs wrote =
    ap (λ xs. xs ++ (32 ∷ 125 ∷ [])) wrote ∙ append_assoc before (row 123 (members_of (m ∷ ms) (v ∷ vs))) (32 ∷ 125 ∷ [])

pub closed_elements : (shown : Shown) (vs : List Value) (line before : List ℕ) → 0 < length vs → line ≡ before ++ row 91 (elements_of shown 0 vs) → line ++ (32 ∷ 93 ∷ []) ≡ before ++ enclosed 91 93 (elements_of shown 0 vs)
closed_elements shown [] line before some_vs wrote = absurd (omega arith)
closed_elements shown (v ∷ vs) line before some_vs wrote =
    ap (λ xs. xs ++ (32 ∷ 93 ∷ [])) wrote ∙ append_assoc before (row 91 (elements_of shown 0 (v ∷ vs))) (32 ∷ 93 ∷ [])

option_at : (ms : List Member) (i : ℕ) (m : Member) → i < length ms → m ≡ get_or ms i m → slice_get (map member_part ms) i ≡ Some (member_part m)
option_at [] i m within is = absurd (omega arith)
option_at (n ∷ ms) zero m within is = ap (λ (k : Member). Some (member_part k)) (sym is)
option_at (n ∷ ms) (suc i) m within is = option_at ms i m (omega arith) is

pub option_shown : (ms : List Member) (i : ℕ) (m : Member) (v : Val) → i < length ms → m ≡ get_or ms i m → option_text (slice_get (map member_part ms) i) v ≡ enclosed 123 125 (part_text (member_part m) v ∷ [])
option_shown ms i m v within is = ap (λ o. option_text o v) (option_at ms i m within is)

pub closed_option : (ms : List Member) (i : ℕ) (m : Member) (v : Val) (line before : List ℕ) → i < length ms → m ≡ get_or ms i m → line ≡ before ++ (123 ∷ 32 ∷ part_text (member_part m) v) → line ++ (32 ∷ 125 ∷ []) ≡ before ++ option_text (slice_get (map member_part ms) i) v
closed_option ms i m v line before within is wrote =
    let text = part_text (member_part m) v in
    ap (λ xs. xs ++ (32 ∷ 125 ∷ [])) wrote ∙ append_assoc before (123 ∷ 32 ∷ text) (32 ∷ 125 ∷ [])
    ∙ ap (λ xs. before ++ ((123 ∷ 32 ∷ xs) ++ (32 ∷ 125 ∷ []))) (sym (append-nil text)) ∙ ap (λ o. before ++ option_text o v) (sym (option_at ms i m within is))
