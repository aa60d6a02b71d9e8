-- Bytes that come after others.
use Rattle.std.proofs.Common.{◌≡◌, ℕ, ◌+◌, ◌≤◌, List, ◌++◌, length, take, Result, Ok, Err, IfOk, sym, ap, ◌∙◌}
use Rattle.std.proofs.Math.Seq.{take-append-add}
use Rattle.std.proofs.lemmas.List.{take-append-le, append_assoc, length-take-le}
use Rattle.ctf_bits.specs.declared.source.Ending.{Ending}
use Rattle.ctf_bits.specs.declared.source.SourceFault.{SourceFault}
use Rattle.ctf_bits.specs.Taking.{Takes}

-- the first bytes, where so many of those after the first n came
pub take_after : (n k : ℕ) (xs ys zs : List ℕ) → length xs ≡ n → k ≤ length ys → take (n + k) (xs ++ (ys ++ zs)) ≡ xs ++ take k ys
take_after n k xs ys zs is within =
    ap (λ m. take (m + k) (xs ++ (ys ++ zs))) (sym is) ∙ take-append-add xs (ys ++ zs) k ∙ ap (λ l. xs ++ l) (take-append-le k ys zs within)

-- what a call gave is after the first n bytes
pub kept_after : (ending : Ending) (n : ℕ) (xs buffer post left rest : List ℕ) (result : Result ℕ SourceFault) → n ≤ length xs → IfOk result (λ count. count ≤ length buffer)
    → Takes ending left rest result buffer → IfOk result (λ count. take (n + count) (take n xs ++ (buffer ++ post)) ++ rest ≡ take n xs ++ left)
kept_after ending n xs buffer post left rest (Ok count) there within given =
    ap (λ l. l ++ rest) (take_after n count (take n xs) buffer post (length-take-le n xs there) within) ∙ append_assoc (take n xs) (take count buffer) rest
    ∙ ap (λ l. take n xs ++ l) (sym given.0)
kept_after ending n xs buffer post left rest (Err fault) there within given = tt
