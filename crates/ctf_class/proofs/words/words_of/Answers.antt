use Rattle.std.proofs.Common.{◌≡◌, ℕ, ◌*◌, ◌+◌, ◌<◌, length, take, min, ap, ◌∙◌, subst, arith}
use Rattle.std.proofs.lemmas.List.{take_all}
use Rattle.ctf_class.specs.Words.{first_bytes}
use Rattle.ctf_class.proofs.WordsLemmas.{first_bytes-more, length-word_bytes}
use Rattle.ctf_class.proofs.words.words_of.Goals as goal

pub loop-i-preserved : goal.loop-i-preserved
loop-i-preserved c =
    let text = c.args.text.now in
    let words = c.loop-i.words.items in
    let at = 8 * c.loop-i.i in
    let stop = c.min-end.result in
    let begun : at < length text = omega (arith, c.div_ceil-i-end.ensures) in
    let counted = length-word_bytes words in
    let low : min at (length text) ≡ at = omega arith in
    let high : stop ≡ min (8 * (c.loop-i.i + 1)) (length text) = omega (arith, c.min-end.ensures) in
    let P : ℕ → Type 0 = λ n. first_bytes words n ≡ take n text in
    let Q : ℕ → Type 0 = λ n. first_bytes c.push.new.self.items n ≡ take n text in
    let before = subst P low c.loop-i.invariant.bytes in
    let more = first_bytes-more text words c.word_of.result at stop (omega arith) (omega arith) (omega arith) before c.word_of.ensures in
    record {
      counted = omega (arith, c.in_ok-push.ensures.len);
      bytes = subst Q high (ap (λ ws. first_bytes ws stop) c.in_ok-push.ensures.items ∙ more);
    }

pub returns-clause-bytes : goal.returns-clause-bytes
returns-clause-bytes c =
    let text = c.args.text.now in
    let high : min (8 * c.loop-i.i) (length text) ≡ length text = omega (arith, c.div_ceil-i-end.ensures) in
    let P : ℕ → Type 0 = λ n. first_bytes c.loop-i.words.items n ≡ take n text in
    subst P high c.loop-i.invariant.bytes ∙ take_all (length text) text (omega arith)
