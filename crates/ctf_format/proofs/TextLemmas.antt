-- Texts by many bytes at once.
use Rattle.std.proofs.Common.{◌≡◌, ℕ, ◌+◌, ◌-◌, ◌*◌, ◌<◌, ◌≤◌, Bool, true, false, true≢false, ◌&&◌, IsTrue, List, [], ◌∷◌, ◌++◌, length, take, drop, get_or, refl, sym, ap, ◌∙◌, subst, arith, append_assoc}
use Rattle.std.proofs.Math.Seq.{take-add, take-append-add}
use Rattle.std.proofs.lemmas.List.{take-append-drop, take_all, take-take, length-drop, length-take-le}
use Rattle.std.proofs.lemmas.List.Elements.{All-head, All-tail, All-take, All-more, All-append}
use Rattle.std.proofs.lemmas.Grind.{flat_map-append}
use Rattle.std.specs.List.{All, slice_range}
use Rattle.ctf_class.specs.Escapes.{escaped, shown_byte}

-- a byte that is shown as it is
abbrev pub IsPlain : ℕ → Type 0
IsPlain byte = shown_byte byte ≡ byte ∷ []

-- one byte more is looked at
pub plain_more : (plain this : Bool) (bytes : List ℕ) (i : ℕ) → i < length bytes → (IsTrue plain → All IsPlain (take i bytes)) → (IsTrue this → IsPlain (get_or bytes i 0)) → IsTrue (plain && this) → All IsPlain (take (i + 1) bytes)
plain_more true this bytes i within before here both = All-more IsPlain bytes i 0 within (before refl) (here both)
plain_more false this bytes i within before here both = absurd (true≢false (sym both))

-- bytes that are shown as they are
pub plain_escaped : (bytes : List ℕ) → All IsPlain bytes → escaped bytes ≡ bytes
plain_escaped [] plain = refl
plain_escaped (byte ∷ bytes) plain =
    ap (λ xs. xs ++ escaped bytes) (All-head IsPlain byte bytes plain) ∙ ap (λ xs. byte ∷ xs) (plain_escaped bytes (All-tail IsPlain byte bytes plain))

-- a text that its first and its last bytes cover
pub plain_ends : (bytes : List ℕ) (begin count : ℕ) → begin ≤ count → All IsPlain (take count bytes) → All IsPlain (drop begin bytes) → escaped bytes ≡ bytes
plain_ends bytes begin count covered first last =
    let front = subst (All IsPlain) (take-take begin count bytes covered) (All-take IsPlain begin (take count bytes) first) in
    let all = subst (All IsPlain) (take-append-drop begin bytes) (All-append IsPlain (take begin bytes) (drop begin bytes) front last) in
    plain_escaped bytes all

-- its first bytes are written, and then its last ones
pub ends_written : (bytes before mid line : List ℕ) (at begin count end : ℕ) → begin ≤ count → count ≤ length bytes → at ≤ length before → take (at + count) mid ≡ take at before ++ take count bytes → take end line ≡ take (at + begin) mid ++ drop begin bytes → take end line ≡ take at before ++ bytes
ends_written bytes before mid line at begin count end covered enough within first last =
    let short : take (at + begin) (take (at + count) mid) ≡ take (at + begin) mid = take-take (at + begin) (at + count) mid (omega arith) in
    let size : length (take at before) ≡ at = length-take-le at before within in
    let seam : take (length (take at before) + begin) (take at before ++ take count bytes) ≡ take at before ++ take begin (take count bytes) = take-append-add (take at before) (take count bytes) begin in
    let front : take begin (take count bytes) ≡ take begin bytes = take-take begin count bytes covered in
    let grouped = append_assoc (take at before) (take begin bytes) (drop begin bytes) in
    let whole : take begin bytes ++ drop begin bytes ≡ bytes = take-append-drop begin bytes in
    cc

-- one step more
pub step_more : (bytes before line more : List ℕ) (i : ℕ) → line ≡ before ++ escaped (take (16 * i) bytes) → more ≡ line ++ escaped (slice_range bytes (16 * i) (16 * i + 16)) → more ≡ before ++ escaped (take (16 * (i + 1)) bytes)
step_more bytes before line more i already wrote =
    let count : 16 * i + 16 - 16 * i ≡ 16 = omega arith in
    let end : 16 * i + 16 ≡ 16 * (i + 1) = omega arith in
    let piece : slice_range bytes (16 * i) (16 * i + 16) ≡ take 16 (drop (16 * i) bytes) = ap (λ n. take n (drop (16 * i) bytes)) count in
    let split : take (16 * (i + 1)) bytes ≡ take (16 * i) bytes ++ take 16 (drop (16 * i) bytes) = ap (λ n. take n bytes) (sym end) ∙ take-add (16 * i) 16 bytes in
    let both = flat_map-append shown_byte (take (16 * i) bytes) (take 16 (drop (16 * i) bytes)) in
    wrote ∙ (λ j. already j ++ escaped (piece j)) ∙ append_assoc before (escaped (take (16 * i) bytes)) (escaped (take 16 (drop (16 * i) bytes)))
    ∙ ap (λ xs. before ++ xs) (sym (ap escaped split ∙ both))

-- the bytes that are left
pub rest_more : (bytes before line more : List ℕ) (n : ℕ) → line ≡ before ++ escaped (take n bytes) → more ≡ line ++ escaped (take (length bytes - n) (drop n bytes)) → more ≡ before ++ escaped bytes
rest_more bytes before line more n already wrote =
    let both = flat_map-append shown_byte (take n bytes) (drop n bytes) in
    let left = take_all (length bytes - n) (drop n bytes) (omega (arith, length-drop n bytes)) in
    wrote ∙ (λ j. already j ++ escaped (left j)) ∙ append_assoc before (escaped (take n bytes)) (escaped (drop n bytes))
    ∙ ap (λ xs. before ++ xs) (sym (ap escaped (sym (take-append-drop n bytes)) ∙ both))

-- a list of eight
pub eight_items : (xs : List ℕ) → length xs ≡ 8 → get_or xs 0 0 ∷ get_or xs 1 0 ∷ get_or xs 2 0 ∷ get_or xs 3 0 ∷ get_or xs 4 0 ∷ get_or xs 5 0 ∷ get_or xs 6 0 ∷ get_or xs 7 0 ∷ [] ≡ xs
eight_items (a ∷ b ∷ c ∷ d ∷ e ∷ f ∷ g ∷ h ∷ []) eight = refl
eight_items [] eight = absurd (omega (arith, eight))
eight_items (a ∷ []) eight = absurd (omega (arith, eight))
eight_items (a ∷ b ∷ []) eight = absurd (omega (arith, eight))
eight_items (a ∷ b ∷ c ∷ []) eight = absurd (omega (arith, eight))
eight_items (a ∷ b ∷ c ∷ d ∷ []) eight = absurd (omega (arith, eight))
eight_items (a ∷ b ∷ c ∷ d ∷ e ∷ []) eight = absurd (omega (arith, eight))
eight_items (a ∷ b ∷ c ∷ d ∷ e ∷ f ∷ []) eight = absurd (omega (arith, eight))
eight_items (a ∷ b ∷ c ∷ d ∷ e ∷ f ∷ g ∷ []) eight = absurd (omega (arith, eight))
eight_items (a ∷ b ∷ c ∷ d ∷ e ∷ f ∷ g ∷ h ∷ i ∷ xs) eight = absurd (omega (arith, eight))
