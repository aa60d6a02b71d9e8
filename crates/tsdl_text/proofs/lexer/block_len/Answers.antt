use Rattle.std.proofs.Common.{◌≡◌, ◌∙◌, false, true, ap, sym, take, drop}
use Rattle.std.specs.Prelude.{codes}
use Rattle.std.specs.Str.{bytes_eq}
use Rattle.std.proofs.lemmas.List.{take_rest}
use Rattle.tsdl_text.proofs.ScanLemmas.{block_found, block_more, block_end}
use Rattle.tsdl_text.proofs.lexer.block_len.Goals as goal

pub returns-then-starts_with-clause-len : goal.returns-then-starts_with-clause-len
returns-then-starts_with-clause-len c =
    let s = c.args.text.now in
    let i = c.loop-start.start in
    let e : bytes_eq (codes "*/") (take 2 (drop i s)) ≡ true = ap (λ t. bytes_eq (codes "*/") (take 2 t)) (sym (take_rest s i)) ∙ sym c.starts_with.ensures.value ∙ c.if-starts_with.true in
    block_found s i e c.loop-start.invariant

pub loop-start-preserved : goal.loop-start-preserved
loop-start-preserved c =
    let s = c.args.text.now in
    let i = c.loop-start.start in
    let e : bytes_eq (codes "*/") (take 2 (drop i s)) ≡ false = ap (λ t. bytes_eq (codes "*/") (take 2 t)) (sym (take_rest s i)) ∙ sym c.starts_with.ensures.value ∙ c.if-starts_with.false in
    block_more s i c.loop-start-test.true e c.loop-start.invariant

pub returns-clause-len : goal.returns-clause-len
returns-clause-len c = block_end c.args.text.now c.loop-start.start c.loop-start-test.false c.loop-start.invariant
