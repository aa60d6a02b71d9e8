-- Texts by sixteen bytes at once.
use Rattle.std.proofs.Common.{⊎_elim, ◌≡◌, ℕ, zero, suc, ◌+◌, ◌-◌, ◌<◌, ◌≤◌, Bool, true, false, cond, List, [], ◌∷◌, ◌++◌, Option, Some, None, map, length, take, drop, set, get_or, nat_eq, nat_lt, not, bit_or, refl, sym, ap, subst, ◌∙◌, arith, append_assoc}
use Rattle.std.proofs.lemmas.Bool.{eqb-true, ltb-false, cases_lt}
use Rattle.std.proofs.lemmas.Bool.Decides.{nat_tests}
use Rattle.std.proofs.lemmas.Iterator.Adapters.{position_from-zero}
use Rattle.std.proofs.lemmas.List.{get_or-map, get_or-take, get_or-drop, take-take, take_all, take-append-le, length-drop, length-take-le, take_more_set}
use Rattle.std.proofs.Math.Seq.{take-add, take-append-add}
use Rattle.std.proofs.lemmas.List.Elements.{All-head, All-tail, All-append, All-take, All-get_or, All-from_get_or}
use Rattle.std.proofs.lemmas.List.Sums.{prefix_len_is}
use Rattle.std.proofs.lemmas.List.Quantifiers.{position-Some}
use Rattle.std.proofs.lemmas.Nat.Bits.{bit_at_or, bit_at-zero}
use Rattle.std.proofs.lemmas.Simd.{bit_mask_l, length-put_chunk, take_more_put_chunk}
use Rattle.std.specs.Int.{bit_at}
use Rattle.std.specs.List.{All, position, position_from, prefix_len, take_while}
use Rattle.std.specs.Simd.Lanes.{mask_l, put_chunk}
use Rattle.ctf_class.specs.Escapes.{shown_byte}
use Rattle.ctf_class.specs.Names.{label_text}
use Rattle.ctf_format.proofs.StandingLemmas.{same_front}
use Rattle.ctf_format.proofs.TextLemmas.{IsPlain, plain_escaped}

pub cond_zero : (b : Bool) → cond {A = ℕ} b 1 0 ≡ 0 → b ≡ false
cond_zero true none = absurd (omega (arith, none))
cond_zero false none = refl

-- a byte whose bit is not set
pub not_marked : (test : ℕ → Bool) (bytes : List ℕ) (k : ℕ) → k < length bytes → bit_at (mask_l (map test bytes)) k ≡ 0 → test (get_or bytes k 0) ≡ false
not_marked test bytes k within clear =
    sym (get_or-map test bytes k 0 false within) ∙ cond_zero (get_or (map test bytes) k false) (sym (bit_mask_l (map test bytes) k) ∙ clear)

-- a byte that no test finds
pub plain_byte : (byte : ℕ) → nat_lt byte 32 ≡ false → nat_eq byte 127 ≡ false → nat_eq byte 34 ≡ false → nat_eq byte 92 ≡ false → IsPlain byte
unfolding shown_byte
plain_byte byte low delete quote slash = grind (arith, ltb-false)

-- a zero byte may be escaped
pub zero_escaped : IsPlain 0 → ⊥
unfolding shown_byte
zero_escaped plain = absurd (cc)

pub not_zero : (byte : ℕ) → IsPlain byte → nat_eq byte 0 ≡ false
not_zero zero plain = absurd (zero_escaped plain)
not_zero (suc byte) plain = grind (arith, nat_tests)

-- none of the bits of four masks is set where none is in all of them
pub no_mark : (a b c d end k : ℕ) → bit_at (bit_or (bit_or (bit_or (bit_or a b) c) d) end) k ≡ 0 → ((bit_at a k ≡ 0) × (bit_at b k ≡ 0)) × ((bit_at c k ≡ 0) × (bit_at d k ≡ 0))
no_mark a b c d end k none =
    let all = bit_at_or (bit_or (bit_or (bit_or a b) c) d) end k in
    let four = bit_at_or (bit_or (bit_or a b) c) d k in
    let three = bit_at_or (bit_or a b) c k in
    let two = bit_at_or a b k in
    ((omega arith, omega arith), (omega arith, omega arith))

-- a mask with a bit
pub marked_some : (m k : ℕ) → bit_at m k ≡ 1 → 0 < m
marked_some zero k set = absurd (omega (arith, bit_at-zero k))
marked_some (suc m) k set = omega arith

-- the lowest bit that is set is not above one that is set
pub not_after : (m n k : ℕ) → bit_at m k ≡ 1 → ((j : ℕ) → j < n → bit_at m j ≡ 0) → n ≤ k
not_after m n k set below = ⊎_elim (λ before. absurd (omega (arith, below k before))) (λ after. after) (cases_lt k n)

-- the bytes before the first mark of four tests
pub unmarked_plain : (bytes window : List ℕ) (low delete quote slash end n : ℕ) → window ≡ take 16 bytes → length window ≡ 16 → n ≤ 16
    → low ≡ mask_l (map (λ byte. nat_lt byte 32) window) → delete ≡ mask_l (map (λ x. nat_eq x 127) window) → quote ≡ mask_l (map (λ x. nat_eq x 34) window) → slash ≡ mask_l (map (λ x. nat_eq x 92) window)
    → ((k : ℕ) → k < n → bit_at (bit_or (bit_or (bit_or (bit_or low delete) quote) slash) end) k ≡ 0)
    → All IsPlain (take n bytes)
unmarked_plain bytes window low delete quote slash end n front size few lows deletes quotes slashes none =
    let each : (k : ℕ) → k < length (take n window) → IsPlain (get_or (take n window) k 0) = λ k within.
    let inside : k < n = omega (arith, length-take-le n window (omega arith)) in
    let marks = no_mark low delete quote slash end k (none k inside) in
    let there : k < length window = omega arith in
    let clear = λ (m : ℕ) (mask : ℕ) (same : m ≡ mask) (unset : bit_at m k ≡ 0). sym (ap (λ x. bit_at x k) same) ∙ unset in
    let plain = plain_byte (get_or window k 0)
    (not_marked (λ byte. nat_lt byte 32) window k there (clear low _ lows marks.0.0))
    (not_marked (λ x. nat_eq x 127) window k there (clear delete _ deletes marks.0.1))
    (not_marked (λ x. nat_eq x 34) window k there (clear quote _ quotes marks.1.0))
    (not_marked (λ x. nat_eq x 92) window k there (clear slash _ slashes marks.1.1)) in
    subst IsPlain (sym (get_or-take n window k 0 inside)) plain
    in
    subst (All IsPlain) (ap (take n) front ∙ take-take n 16 bytes few) (All-from_get_or IsPlain (take n window) 0 each)

-- a zero byte after bytes that are shown as they are is the first one
pub first_zero_from : (bytes : List ℕ) (n from : ℕ) → All IsPlain (take n bytes) → n < length bytes → get_or bytes n 0 ≡ 0 → position_from (λ x. nat_eq x 0) from bytes ≡ Some (from + n)
first_zero_from [] n from plain within there = absurd (omega arith)
first_zero_from (byte ∷ bytes) zero from plain within there =
    let here : nat_eq byte 0 ≡ true = ap (λ x. nat_eq x 0) there in
    let same : from ≡ from + 0 = omega arith in
    ap (λ b. cond b (Some from) (position_from (λ x. nat_eq x 0) (from + 1) bytes)) here ∙ ap Some same
first_zero_from (byte ∷ bytes) (suc n) from plain within there =
    let here : nat_eq byte 0 ≡ false = not_zero byte (All-head IsPlain byte (take n bytes) plain) in
    let rest = first_zero_from bytes n (from + 1) (All-tail IsPlain byte (take n bytes) plain) (omega arith) there in
    let same : from + 1 + n ≡ from + suc n = omega arith in
    ap (λ b. cond b (Some from) (position_from (λ x. nat_eq x 0) (from + 1) bytes)) here ∙ (rest ∙ ap Some same)

pub first_zero : (bytes : List ℕ) (n : ℕ) → All IsPlain (take n bytes) → n < length bytes → get_or bytes n 0 ≡ 0 → position (λ x. nat_eq x 0) bytes ≡ Some n
first_zero bytes n plain within there = position_from-zero (λ x. nat_eq x 0) bytes ∙ (first_zero_from bytes n 0 plain within there ∙ ap Some {x = 0 + n} (omega arith))

-- the bytes after some
abbrev pub bytes_after : ℕ → List ℕ → List ℕ
bytes_after k bytes = take (length bytes - k) (drop k bytes)

after_is : (k : ℕ) (bytes : List ℕ) → bytes_after k bytes ≡ drop k bytes
after_is k bytes = take_all (length bytes - k) (drop k bytes) (omega (arith, length-drop k bytes))

take_after : (bytes : List ℕ) (k n : ℕ) → take k bytes ++ take n (bytes_after k bytes) ≡ take (k + n) bytes
take_after bytes k n = ap (λ xs. take k bytes ++ take n xs) (after_is k bytes) ∙ sym (take-add k n bytes)

-- bytes that are shown as they are, after others that are
pub plain_after : (bytes : List ℕ) (k n : ℕ) → All IsPlain (take k bytes) → All IsPlain (take n (bytes_after k bytes)) → All IsPlain (take (k + n) bytes)
plain_after bytes k n front rest = subst (All IsPlain) (take_after bytes k n) (All-append IsPlain (take k bytes) (take n (bytes_after k bytes)) front rest)

-- the first zero byte after bytes that are shown as they are
pub first_zero_after : (bytes : List ℕ) (k n : ℕ) → All IsPlain (take k bytes) → All IsPlain (take n (bytes_after k bytes)) → position (λ x. nat_eq x 0) (bytes_after k bytes) ≡ Some n → position (λ x. nat_eq x 0) bytes ≡ Some (k + n)
first_zero_after bytes k n front rest first =
    let found = position-Some (λ x. nat_eq x 0) (drop k bytes) n 0 (ap (position (λ x. nat_eq x 0)) (sym (after_is k bytes)) ∙ first) in
    let there : get_or bytes (k + n) 0 ≡ 0 = sym (get_or-drop k bytes n 0) ∙ eqb-true (get_or (drop k bytes) n 0) 0 found.1 in
    first_zero bytes (k + n) (plain_after bytes k n front rest) (omega (arith, found.0, length-drop k bytes)) there

-- sixteen bytes are written, and a quote over the first one that is not wanted
pub window_written : (bytes line : List ℕ) (at count : ℕ) → 16 ≤ length bytes → count ≤ 16 → at + 17 ≤ length line
    → take (at + count + 1) (set (put_chunk at line (take 16 (take 16 bytes))) (at + count) 34) ≡ take at line ++ (take count bytes ++ (34 ∷ []))
window_written bytes line at count enough few room =
    let piece = take 16 (take 16 bytes) in
    let front : piece ≡ take 16 bytes = take-take 16 16 bytes (omega arith) in
    let size : length piece ≡ 16 = ap length front ∙ length-take-le 16 bytes enough in
    let whole = put_chunk at line piece in
    let stays : length whole ≡ length line = length-put_chunk at line piece in
    let stored : take (at + 16) whole ≡ take at line ++ piece = take_more_put_chunk at line piece (at + 16) (omega arith) (omega arith) in
    let cut : take (at + count) (take (at + 16) whole) ≡ take (at + count) whole = take-take (at + count) (at + 16) whole (omega arith) in
    let head : length (take at line) ≡ at = length-take-le at line (omega arith) in
    let seam : take (length (take at line) + count) (take at line ++ piece) ≡ take at line ++ take count piece = take-append-add (take at line) piece count in
    let wanted : take count piece ≡ take count bytes = ap (take count) front ∙ take-take count 16 bytes few in
    let upto : take (at + count) whole ≡ take at line ++ take count bytes =
    sym cut ∙ ap (take (at + count)) stored ∙ ap (λ n. take (n + count) (take at line ++ piece)) (sym head) ∙ seam ∙ ap (λ xs. take at line ++ xs) wanted in
    take_more_set whole (at + count) 34 (omega arith) ∙ ap (λ xs. xs ++ (34 ∷ [])) upto ∙ append_assoc (take at line) (take count bytes) (34 ∷ [])

-- a window is written over the quote that ends another one
pub windows_written : (bytes line mid after : List ℕ) (at k count : ℕ) → k ≤ length bytes → k ≤ count → at ≤ length line → take (at + k + 1) mid ≡ take at line ++ (take k bytes ++ (34 ∷ []))
    → after ≡ take (at + k) mid ++ (take (count - k) (bytes_after k bytes) ++ (34 ∷ [])) → after ≡ take at line ++ (take count bytes ++ (34 ∷ []))
windows_written bytes line mid after at k count enough many room first last =
    let cut : take (at + k) (take (at + k + 1) mid) ≡ take (at + k) mid = take-take (at + k) (at + k + 1) mid (omega arith) in
    let head : length (take at line) ≡ at = length-take-le at line room in
    let seam : take (length (take at line) + k) (take at line ++ (take k bytes ++ (34 ∷ []))) ≡ take at line ++ take k (take k bytes ++ (34 ∷ [])) = take-append-add (take at line) (take k bytes ++ (34 ∷ [])) k in
    let size : length (take k bytes) ≡ k = length-take-le k bytes enough in
    let front : take k (take k bytes ++ (34 ∷ [])) ≡ take k bytes = take-append-le k (take k bytes) (34 ∷ []) (omega arith) ∙ take-take k k bytes (omega arith) in
    let upto : take (at + k) mid ≡ take at line ++ take k bytes =
    sym cut ∙ ap (take (at + k)) first ∙ ap (λ n. take (n + k) (take at line ++ (take k bytes ++ (34 ∷ [])))) (sym head) ∙ seam ∙ ap (λ xs. take at line ++ xs) front in
    let rest = take (count - k) (bytes_after k bytes) in
    let all : k + (count - k) ≡ count = omega arith in
    let whole : take k bytes ++ rest ≡ take count bytes = take_after bytes k (count - k) ∙ ap (λ n. take n bytes) all in
    last ∙ ap (λ xs. xs ++ (rest ++ (34 ∷ []))) upto ∙ append_assoc (take at line) (take k bytes) (rest ++ (34 ∷ []))
    ∙ ap (λ xs. take at line ++ xs) (sym (append_assoc (take k bytes) rest (34 ∷ [])) ∙ ap (λ xs. xs ++ (34 ∷ [])) whole)

-- bytes that are shown as they are, after a quote, in a buffer whose line was written
pub quoted : (bytes items line written : List ℕ) (at end count : ℕ) → line ≡ items → length written ≡ count → end ≤ count → at < length line → All IsPlain bytes
    → take end written ≡ take (at + 1) (set line at 34) ++ (bytes ++ (34 ∷ [])) → take end (take count (written ++ drop (length written) items)) ≡ take at items ++ label_text bytes
quoted bytes items line written at end count same long near within plain wrote =
    sym (same_front end count count written items long (omega arith) near) ∙ wrote
    ∙ ap (λ xs. xs ++ (bytes ++ (34 ∷ []))) (take_more_set line at 34 within) ∙ append_assoc (take at line) (34 ∷ []) (bytes ++ (34 ∷ []))
    ∙ (λ j. take at (same j) ++ (34 ∷ (sym (plain_escaped bytes plain) j ++ (34 ∷ []))))

-- a number that was found is the one that was given
found : (is : Bool) (k n : ℕ) → cond {A = Option ℕ} is (Some k) None ≡ Some n → k ≡ n
found true k n same = cc
found false k n same = cc

-- the bytes before the first zero byte
pub before_first_zero : (bytes : List ℕ) (n : ℕ) → position (λ x. nat_eq x 0) bytes ≡ Some n → take_while (λ x. not (nat_eq x 0)) bytes ≡ take n bytes
before_first_zero bytes n first = ap (λ k. take k bytes) (found _ (prefix_len (λ x. not (nat_eq x 0)) bytes) n first)

-- ---- many windows

-- one window more holds no zero byte
abbrev pub NotZero : ℕ → Type 0
NotZero byte = nat_eq byte 0 ≡ false

pub window_more : (bytes window : List ℕ) (begin mask : ℕ) → begin + 16 ≤ length bytes → window ≡ take 16 (drop begin bytes) → mask ≡ mask_l (map (λ x. nat_eq x 0) window) → mask ≡ 0 → All NotZero (take begin bytes) → All NotZero (take (begin + 16) bytes)
window_more bytes window begin mask within is marks none before =
    let there : length window ≡ 16 = ap length is ∙ length-take-le 16 (drop begin bytes) (omega (arith, length-drop begin bytes)) in
    let each : (k : ℕ) → k < length window → NotZero (get_or window k 0) = λ k inside.
    not_marked (λ x. nat_eq x 0) window k inside (ap (λ m. bit_at m k) (sym marks ∙ none) ∙ bit_at-zero k) in
    let here = subst (All NotZero) is (All-from_get_or NotZero window 0 each) in
    subst (All NotZero) (sym (take-add begin 16 bytes)) (All-append NotZero (take begin bytes) (take 16 (drop begin bytes)) before here)

-- a place, so many further
abbrev pub further : ℕ → Option ℕ → Option ℕ
further k None = None
further k (Some n) = Some (k + n)

cond_further : (b : Bool) (k n : ℕ) (r : Option ℕ) → cond b (Some (k + n)) (further k r) ≡ further k (cond b (Some n) r)
cond_further true k n r = refl
cond_further false k n r = refl

place_further : (test : ℕ → Bool) (k from : ℕ) (bytes : List ℕ) → position_from test (k + from) bytes ≡ further k (position_from test from bytes)
place_further test k from [] = refl
place_further test k from (byte ∷ bytes) =
    let next : k + from + 1 ≡ k + (from + 1) = omega arith in
    let rest = ap (λ n. position_from test n bytes) next ∙ place_further test k (from + 1) bytes in
    ap (λ r. cond (test byte) (Some (k + from)) r) rest ∙ cond_further (test byte) k from (position_from test (from + 1) bytes)

none_before : (bytes : List ℕ) (k from : ℕ) → k ≤ length bytes → All NotZero (take k bytes) → position_from (λ x. nat_eq x 0) from bytes ≡ position_from (λ x. nat_eq x 0) (k + from) (drop k bytes)
none_before bytes zero from within none =
    let same : from ≡ 0 + from = omega arith in
    ap (λ n. position_from (λ x. nat_eq x 0) n bytes) same
none_before [] (suc k) from within none = absurd (omega arith)
none_before (byte ∷ bytes) (suc k) from within none =
    let here : nat_eq byte 0 ≡ false = All-head NotZero byte (take k bytes) none in
    let next : k + (from + 1) ≡ suc k + from = omega arith in
    ap (λ b. cond b (Some from) (position_from (λ x. nat_eq x 0) (from + 1) bytes)) here
    ∙ (none_before bytes k (from + 1) (omega arith) (All-tail NotZero byte (take k bytes) none) ∙ ap (λ n. position_from (λ x. nat_eq x 0) n (drop k bytes)) next)

-- the first zero byte is no earlier than the end of bytes that are not zero
pub zero_after : (bytes : List ℕ) (k : ℕ) (r : Option ℕ) → k ≤ length bytes → All NotZero (take k bytes) → r ≡ position (λ x. nat_eq x 0) (bytes_after k bytes) → further k r ≡ position (λ x. nat_eq x 0) bytes
zero_after bytes k r within none found =
    let test : ℕ → Bool = λ x. nat_eq x 0 in
    let rest : r ≡ position_from test 0 (drop k bytes) = found ∙ ap (position test) (after_is k bytes) ∙ position_from-zero test (drop k bytes) in
    let begin : k + 0 ≡ k = omega arith in
    ap (further k) rest ∙ sym (place_further test k 0 (drop k bytes)) ∙ sym (none_before bytes k 0 within none) ∙ sym (position_from-zero test bytes)

-- some bytes are written after a quote, and one after them
pub long_written : (bytes line mid : List ℕ) (at end : ℕ) → end ≡ at + length bytes → end < length mid → take end mid ≡ take at line ++ bytes → take (end + 1) (set mid end 34) ≡ take at line ++ (bytes ++ (34 ∷ []))
long_written bytes line mid at end is within wrote =
    take_more_set mid end 34 within ∙ ap (λ xs. xs ++ (34 ∷ [])) wrote ∙ append_assoc (take at line) bytes (34 ∷ [])

-- fewer bytes that are shown as they are
pub plain_fewer : (bytes : List ℕ) (k n : ℕ) → k ≤ n → All IsPlain (take n bytes) → All IsPlain (take k bytes)
plain_fewer bytes k n fewer plain = subst (All IsPlain) (take-take k n bytes fewer) (All-take IsPlain k (take n bytes) plain)

-- bytes that are shown as they are, up to the first zero byte or the end
pub text_shown : (bytes : List ℕ) (n : ℕ) → n ≤ length bytes → All IsPlain (take n bytes) → (n < length bytes → get_or bytes n 0 ≡ 0) → take n bytes ≡ take_while (λ x. not (nat_eq x 0)) bytes
text_shown bytes n within plain there =
    let each : (k : ℕ) → k < n → not (nat_eq (get_or bytes k 0) 0) ≡ true = λ k below.
    let here = All-get_or IsPlain (take n bytes) k 0 (omega (arith, length-take-le n bytes within)) plain in
    ap not (not_zero (get_or bytes k 0) (subst IsPlain (get_or-take n bytes k 0 below) here)) in
    ap (λ k. take k bytes) (sym (prefix_len_is (λ x. not (nat_eq x 0)) bytes n 0 within each (λ inside. ap (λ x. not (nat_eq x 0)) (there inside))))
