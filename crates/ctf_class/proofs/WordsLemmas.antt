-- Lemmas on texts in words of eight bytes.
use Rattle.std.proofs.Common.{◌≡◌, ℕ, zero, suc, ◌+◌, ◌-◌, ◌*◌, ◌<◌, ◌≤◌, List, [], ◌∷◌, ◌++◌, length, take, drop, get_or, set, replicate, refl, sym, ap, ◌∙◌, ⊎_elim, append_assoc, length-append, length-drop, arith}
use Rattle.std.proofs.Math.ListN.{get_or-append}
use Rattle.std.proofs.Math.Seq.{take-length, take-add, take-append-add, get_or-append_right}
use Rattle.std.proofs.lemmas.Grind.{flat_map-append, take-set_at}
use Rattle.std.proofs.lemmas.List.{length-take-le, length-set, append-nil, get_or-drop, take_more, take-append-le, take-take}
use Rattle.std.proofs.lemmas.Bool.{cases_lt}
use Rattle.std.specs.Int.{w64, to_le_bytes}
use Rattle.std.specs.List.{flat_map, slice_range}
use Rattle.ctf_class.specs.Words.{first_bytes}

-- each word is eight bytes
pub length-word_bytes : (words : List ℕ) → length (flat_map (to_le_bytes w64) words) ≡ 8 * length words
length-word_bytes [] = refl
length-word_bytes (word ∷ words) = omega (arith, length-word_bytes words)

-- a text has as many bytes as are taken
pub length-first_bytes : (words : List ℕ) (count : ℕ) → count ≤ 8 * length words → length (first_bytes words count) ≡ count
length-first_bytes words count within =
    length-take-le count (flat_map (to_le_bytes w64) words) (omega (arith, length-word_bytes words))

-- the words before one more hold a text as far as it, and the word goes on
pub first_bytes-more : (text words : List ℕ) (word at end : ℕ) → length (flat_map (to_le_bytes w64) words) ≡ at → at ≤ end → end ≤ length text → first_bytes words at ≡ take at text → take (length (slice_range text at end)) (to_le_bytes w64 word) ≡ slice_range text at end → first_bytes (words ++ word ∷ []) end ≡ take end text
first_bytes-more text words word at end counted after within before here =
    let bytes = flat_map (to_le_bytes w64) words in
    let whole : take (length bytes) bytes ≡ bytes = take-length bytes in
    let known : bytes ≡ take at text = sym whole ∙ (ap (λ n. take n bytes) counted ∙ before) in
    let joined : flat_map (to_le_bytes w64) (words ++ word ∷ []) ≡ bytes ++ (to_le_bytes w64 word ++ []) = flat_map-append (to_le_bytes w64) words (word ∷ []) in
    let tail : to_le_bytes w64 word ++ [] ≡ to_le_bytes w64 word = append-nil (to_le_bytes w64 word) in
    let run : length (slice_range text at end) ≡ end - at = length-take-le (end - at) (drop at text) (omega (arith, length-drop at text)) in
    let seam : take (length bytes + (end - at)) (bytes ++ to_le_bytes w64 word) ≡ bytes ++ take (end - at) (to_le_bytes w64 word) = take-append-add bytes (to_le_bytes w64 word) (end - at) in
    let place : length bytes + (end - at) ≡ end = omega arith in
    let split : take (at + (end - at)) text ≡ take at text ++ take (end - at) (drop at text) = take-add at (end - at) text in
    let sum : at + (end - at) ≡ end = omega arith in
    cc

-- eight bytes written one after the other
put-byte : (line front : List ℕ) (at next byte : ℕ) → next ≡ at + 1 → at < length line → take at line ≡ front → take next (set line at byte) ≡ front ++ byte ∷ []
put-byte line front at next byte more within before = take-set_at line at next byte more within ∙ ap (λ xs. xs ++ byte ∷ []) before

pub put-bytes : (line : List ℕ) (at a b c d e f g h : ℕ) → at + 8 ≤ length line → take (at + 8) (set (set (set (set (set (set (set (set line at a) (at + 1) b) (at + 2) c) (at + 3) d) (at + 4) e) (at + 5) f) (at + 6) g) (at + 7) h) ≡ take at line ++ (a ∷ b ∷ c ∷ d ∷ e ∷ f ∷ g ∷ h ∷ [])
put-bytes line at a b c d e f g h within =
    let l1 = set line at a in
    let l2 = set l1 (at + 1) b in
    let l3 = set l2 (at + 2) c in
    let l4 = set l3 (at + 3) d in
    let l5 = set l4 (at + 4) e in
    let l6 = set l5 (at + 5) f in
    let l7 = set l6 (at + 6) g in
    let n1 = length-set line at a in
    let n2 = length-set l1 (at + 1) b in
    let n3 = length-set l2 (at + 2) c in
    let n4 = length-set l3 (at + 3) d in
    let n5 = length-set l4 (at + 4) e in
    let n6 = length-set l5 (at + 5) f in
    let n7 = length-set l6 (at + 6) g in
    let e1 = put-byte line (take at line) at (at + 1) a (omega arith) (omega arith) refl in
    let e2 = put-byte l1 _ (at + 1) (at + 2) b (omega arith) (omega arith) e1 in
    let e3 = put-byte l2 _ (at + 2) (at + 3) c (omega arith) (omega arith) e2 in
    let e4 = put-byte l3 _ (at + 3) (at + 4) d (omega arith) (omega arith) e3 in
    let e5 = put-byte l4 _ (at + 4) (at + 5) e (omega arith) (omega arith) e4 in
    let e6 = put-byte l5 _ (at + 5) (at + 6) f (omega arith) (omega arith) e5 in
    let e7 = put-byte l6 _ (at + 6) (at + 7) g (omega arith) (omega arith) e6 in
    put-byte l7 _ (at + 7) (at + 8) h (omega arith) (omega arith) e7 ∙ simp append_assoc

-- some bytes, filled up to eight
abbrev pub filled : List ℕ → List ℕ
filled bytes = bytes ++ drop (length bytes) (replicate 8 0)

get_or-zeros : (count i : ℕ) → let none : ℕ = 0 in get_or (replicate count none) i none ≡ none
get_or-zeros zero i = refl
get_or-zeros (suc count) zero = refl
get_or-zeros (suc count) (suc i) = get_or-zeros count i

pub length-filled : (bytes : List ℕ) → length bytes ≤ 8 → length (filled bytes) ≡ 8
length-filled bytes few =
    let zeros : List ℕ = replicate 8 0 in
    omega (arith, length-append bytes (drop (length bytes) zeros), length-drop (length bytes) zeros)

pub filled-bytes : (bytes : List ℕ) → ((i : ℕ) → get_or bytes i 0 < 256) → (i : ℕ) → get_or (filled bytes) i 0 < 256
filled-bytes bytes each i =
    let zeros : List ℕ = replicate 8 0 in
    let filling = drop (length bytes) zeros in
    ⊎_elim
    (λ inside. omega (arith, each i, get_or-append bytes filling 0 i inside))
    (λ after.
    let moved = get_or-append_right bytes filling i 0 after in
    let dropped = get_or-drop (length bytes) zeros (i - length bytes) 0 in
    let none = get_or-zeros 8 (length bytes + (i - length bytes)) in
    omega arith)
    (cases_lt i (length bytes))

-- the bytes of one word more
pub word_bytes-more : (words : List ℕ) (i : ℕ) → i < length words → flat_map (to_le_bytes w64) (take (i + 1) words) ≡ flat_map (to_le_bytes w64) (take i words) ++ to_le_bytes w64 (get_or words i 0)
word_bytes-more words i within =
    let taken = take_more words i 0 within in
    let both = flat_map-append (to_le_bytes w64) (take i words) (get_or words i 0 ∷ []) in
    ap (flat_map (to_le_bytes w64)) taken ∙ both

-- how long a text in words is
pub length-text : (words text : List ℕ) (count : ℕ) → count ≤ 8 * length words → first_bytes words count ≡ text → length text ≡ count
length-text words text count within is = sym (ap length is) ∙ length-first_bytes words count within

-- one word more is written
pub written-more : (line front before words : List ℕ) (at to i : ℕ) → i < length words → take to before ≡ take at front ++ flat_map (to_le_bytes w64) (take i words) → take (to + 8) line ≡ take to before ++ to_le_bytes w64 (get_or words i 0) → take (to + 8) line ≡ take at front ++ flat_map (to_le_bytes w64) (take (i + 1) words)
written-more line front before words at to i within already wrote =
    let more = word_bytes-more words i within in
    let grouped = append_assoc (take at front) (flat_map (to_le_bytes w64) (take i words)) (to_le_bytes w64 (get_or words i 0)) in
    wrote ∙ (ap (λ xs. xs ++ to_le_bytes w64 (get_or words i 0)) already ∙ (grouped ∙ ap (λ xs. take at front ++ xs) (sym more)))

-- more words after those that hold a text
pub more-words : (words others : List ℕ) (count : ℕ) → count ≤ 8 * length words → first_bytes (words ++ others) count ≡ first_bytes words count
more-words words others count within =
    ap (take count) (flat_map-append (to_le_bytes w64) words others)
    ∙ take-append-le count (flat_map (to_le_bytes w64) words) (flat_map (to_le_bytes w64) others) (omega (arith, length-word_bytes words))

-- the first three words, filled up with zeros, and those after them
pub in-front : (words : List ℕ) (count : ℕ) → count ≤ 8 * length words → first_bytes (get_or words 0 0 ∷ get_or words 1 0 ∷ get_or words 2 0 ∷ drop 3 words) count ≡ first_bytes words count
in-front [] count within = more-words [] (0 ∷ 0 ∷ 0 ∷ []) count within
in-front (a ∷ []) count within = more-words (a ∷ []) (0 ∷ 0 ∷ []) count within
in-front (a ∷ b ∷ []) count within = more-words (a ∷ b ∷ []) (0 ∷ []) count within
in-front (a ∷ b ∷ c ∷ words) count within = refl

-- a beginning of what was written
pub line-part : (line front bytes : List ℕ) (at n m : ℕ) → n ≤ m → length front ≡ at → take (at + m) line ≡ front ++ bytes → take (at + n) line ≡ front ++ take n bytes
line-part line front bytes at n m within long wrote =
    sym (take-take (at + n) (at + m) line (omega arith)) ∙ ap (take (at + n)) wrote ∙ ap (λ k. take (k + n) (front ++ bytes)) (sym long)
    ∙ take-append-add front bytes n

-- three words, one after the other
pub three-words : (l1 l2 l3 front : List ℕ) (f s t at : ℕ) → take (at + 8) l1 ≡ front ++ to_le_bytes w64 f → take (at + 8 + 8) l2 ≡ take (at + 8) l1 ++ to_le_bytes w64 s → take (at + 16 + 8) l3 ≡ take (at + 16) l2 ++ to_le_bytes w64 t
    → take (at + 24) l3 ≡ front ++ flat_map (to_le_bytes w64) (f ∷ s ∷ t ∷ [])
three-words l1 l2 l3 front f s t at e1 e2 e3 =
    let second : at + 16 ≡ at + 8 + 8 = omega arith in
    let third : at + 24 ≡ at + 16 + 8 = omega arith in
    ap (λ k. take k l3) third ∙ e3 ∙ ap (λ k. take k l2 ++ to_le_bytes w64 t) second ∙ ap (λ l. l ++ to_le_bytes w64 t) (e2 ∙ ap (λ l. l ++ to_le_bytes w64 s) e1)
    ∙ append_assoc (front ++ to_le_bytes w64 f) (to_le_bytes w64 s) (to_le_bytes w64 t) ∙ append_assoc front (to_le_bytes w64 f) (to_le_bytes w64 s ++ to_le_bytes w64 t)

-- a beginning of a text that lies in its first three words
pub head-part : (f s t : ℕ) (rest : List ℕ) (count n : ℕ) → n ≤ 24 → n ≤ count → take n (flat_map (to_le_bytes w64) (f ∷ s ∷ t ∷ [])) ≡ take n (first_bytes (f ∷ s ∷ t ∷ rest) count)
head-part f s t rest count n short within =
    let words = f ∷ s ∷ t ∷ [] in
    let bytes = flat_map (to_le_bytes w64) words in
    let after = flat_map (to_le_bytes w64) rest in
    let whole : flat_map (to_le_bytes w64) (words ++ rest) ≡ bytes ++ after = flat_map-append (to_le_bytes w64) words rest in
    sym (take-take n count (flat_map (to_le_bytes w64) (words ++ rest)) within ∙ ap (take n) whole
    ∙ take-append-le n bytes after (omega (arith, length-word_bytes words)))

-- a text that is longer: its first three words, and those after them
pub long-text : (f s t : ℕ) (rest text : List ℕ) (count : ℕ) → 24 ≤ count → first_bytes (f ∷ s ∷ t ∷ rest) count ≡ text → take count (take 24 text ++ flat_map (to_le_bytes w64) rest) ≡ text
long-text f s t rest text count long is =
    let words = f ∷ s ∷ t ∷ [] in
    let bytes = flat_map (to_le_bytes w64) words in
    let after = flat_map (to_le_bytes w64) rest in
    let front : bytes ≡ take 24 text = sym (take-length bytes) ∙ ap (λ k. take k bytes) (length-word_bytes words) ∙ head-part f s t rest count 24 (omega arith) long ∙ ap (take 24) is in
    ap (λ l. take count (l ++ after)) (sym front) ∙ ap (take count) (sym (flat_map-append (to_le_bytes w64) words rest)) ∙ is
