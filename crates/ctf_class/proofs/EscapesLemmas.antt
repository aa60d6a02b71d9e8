-- Lemmas on escaped texts.
use Rattle.std.proofs.Common.{◌≡◌, ℕ, ◌+◌, ◌-◌, ◌<◌, ◌≤◌, List, [], ◌∷◌, ◌++◌, length, take, drop, get_or, ap, append_assoc, length-drop, arith}
use Rattle.std.proofs.lemmas.Grind.{common_steps}
use Rattle.std.proofs.lemmas.List.{take_more, get_or-drop, append-nil}
use Rattle.std.specs.List.{slice_range}
use Rattle.ctf_class.specs.Escapes.{escaped, shown_byte}

-- one byte more
pub escaped-more : (bytes : List ℕ) (i : ℕ) → i < length bytes → escaped (take (i + 1) bytes) ≡ escaped (take i bytes) ++ shown_byte (get_or bytes i 0)
escaped-more bytes i within = grind (arith, common_steps)

-- a run that goes one byte further
pub slice_range-more : (bytes : List ℕ) (start i : ℕ) → start ≤ i → i < length bytes → slice_range bytes start (i + 1) ≡ slice_range bytes start i ++ get_or bytes i 0 ∷ []
slice_range-more bytes start i after within =
    let run = drop start bytes in
    let taken = take_more run (i - start) 0 (omega (arith, length-drop start bytes)) in
    let one : i + 1 - start ≡ i - start + 1 = omega arith in
    let place : start + (i - start) ≡ i = omega arith in
    let read = get_or-drop start bytes (i - start) 0 in
    cc

-- a byte that is shown as it is joins the run
pub shown-plain : (text front bytes : List ℕ) (start i : ℕ) → start ≤ i → i < length bytes → shown_byte (get_or bytes i 0) ≡ get_or bytes i 0 ∷ [] → text ++ slice_range bytes start i ≡ front ++ escaped (take i bytes) → text ++ slice_range bytes start (i + 1) ≡ front ++ escaped (take (i + 1) bytes)
shown-plain text front bytes start i after within plain before =
    let byte = get_or bytes i 0 in
    let run = slice_range-more bytes start i after within in
    let all = escaped-more bytes i within in
    let left = append_assoc text (slice_range bytes start i) (byte ∷ []) in
    let right = append_assoc front (escaped (take i bytes)) (byte ∷ []) in
    cc

-- after another byte a new run begins
pub shown-escape : (text front bytes : List ℕ) (start i : ℕ) → i < length bytes → text ++ slice_range bytes start i ≡ front ++ escaped (take i bytes) → ((text ++ slice_range bytes start i) ++ shown_byte (get_or bytes i 0)) ++ slice_range bytes (i + 1) (i + 1) ≡ front ++ escaped (take (i + 1) bytes)
shown-escape text front bytes start i within before =
    let shown = shown_byte (get_or bytes i 0) in
    let none : i + 1 - (i + 1) ≡ 0 = omega arith in
    let empty : slice_range bytes (i + 1) (i + 1) ≡ [] = ap (λ n. take n (drop (i + 1) bytes)) none in
    let nothing = append-nil ((text ++ slice_range bytes start i) ++ shown) in
    let all = escaped-more bytes i within in
    let right = append_assoc front (escaped (take i bytes)) shown in
    cc
