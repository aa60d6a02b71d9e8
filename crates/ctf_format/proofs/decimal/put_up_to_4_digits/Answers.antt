use Rattle.std.proofs.Common.{◌≡◌, ◌-◌, ◌+◌, ◌/◌, ◌++◌, ◌∙◌, take, arith, sym, subst}
use Rattle.std.specs.Fmt.{decimal}
use Rattle.std.specs.Int.{leading_zeros, w32}
use Rattle.ctf_digits.specs.Fours.{missing}
use Rattle.ctf_format.proofs.DecimalLemmas.{few_shown, few_written}
use Rattle.ctf_format.proofs.decimal.put_up_to_4_digits.Goals as goal

pub returns-clause-text : goal.returns-clause-text
returns-clause-text c =
    let n = c.args.number in
    let at = c.args.at in
    let line = c.put_word.new.line in
    let gone : missing n ≡ c.missing_in.result = sym (c.missing_in.ensures ∙ (λ i. leading_zeros w32 (c.few_digits-word.ensures i) / 8) ∙ (few_shown n c.requires.few).2) in
    subst (λ m. take (at + 4 - m) line ≡ take at c.args.line.now ++ decimal n) gone (few_written c.args.line.now line at n c.requires.few c.requires.room (rw c.few_digits-word.ensures at c.put_word.ensures))

pub returns-clause-end : goal.returns-clause-end
returns-clause-end c =
    let n = c.args.number in
    let gone : missing n ≡ c.missing_in.result = sym (c.missing_in.ensures ∙ (λ i. leading_zeros w32 (c.few_digits-word.ensures i) / 8) ∙ (few_shown n c.requires.few).2) in
    let shown = (few_shown n c.requires.few).1 in
    omega (arith, gone, shown)
