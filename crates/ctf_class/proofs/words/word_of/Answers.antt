use Rattle.std.proofs.Common.{◌++◌, ap, ◌∙◌, List, ℕ, take, drop, length, replicate, arith}
use Rattle.std.specs.Int.{w64, from_le_bytes}
use Rattle.std.proofs.Math.Seq.{take-append_seam}
use Rattle.std.proofs.lemmas.Nat.{le_bytes_8}
use Rattle.ctf_class.proofs.WordsLemmas.{filled, length-filled, filled-bytes}
use Rattle.ctf_class.proofs.words.word_of.Goals as goal

pub returns : goal.returns
returns c =
    let bytes = c.args.bytes.now in
    let zeros : List ℕ = replicate 8 0 in
    let copied = ap (λ xs. from_le_bytes w64 (xs ++ drop (length bytes) zeros)) c.copy_from_slice.ensures.after in
    let back = le_bytes_8 (filled bytes) c.from_le_bytes.result (length-filled bytes c.requires) (filled-bytes bytes (λ i. omega (arith, c.type_inv.bytes i))) (c.from_le_bytes.ensures ∙ copied) in
    ap (take (length bytes)) back ∙ take-append_seam bytes _
