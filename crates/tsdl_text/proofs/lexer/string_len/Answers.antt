use Rattle.std.proofs.Common.{ℕ, ◌≡◌, ◌∙◌, Some, None, ap, sym, drop}
use Rattle.std.proofs.lemmas.Bool.{eq-eqb, ne_eqb}
use Rattle.std.proofs.lemmas.List.{take_rest}
use Rattle.tsdl_text.specs.Strings.{character_at}
use Rattle.tsdl_text.proofs.ScanLemmas.{string_found, string_more, string_bad, string_end}
use Rattle.tsdl_text.proofs.lexer.string_len.Goals as goal

pub returns-then-text-start-eq34-clause-len : goal.returns-then-text-start-eq34-clause-len
returns-then-text-start-eq34-clause-len c =
    string_found c.args.text.now c.loop-start.start c.loop-start-test.true (eq-eqb _ _ c.if-text-start-eq34.true) c.loop-start.invariant

pub returns-in_err-len-clause-len : goal.returns-in_err-len-clause-len
returns-in_err-len-clause-len c =
    let s = c.args.text.now in
    let i = c.loop-start.start in
    let none : character_at (drop i s) ≡ None = ap character_at (sym (take_rest s i)) ∙ sym c.in_err-len.ensures.value in
    rw c.from_residual.ensures (string_bad s i c.loop-start-test.true (ne_eqb _ _ c.if-text-start-eq34.false) none c.loop-start.invariant)

pub loop-start-preserved : goal.loop-start-preserved
loop-start-preserved c =
    let s = c.args.text.now in
    let i = c.loop-start.start in
    let x : ℕ × ℕ = (c.in_ok-len.field-0-0, c.in_ok-len.len) in
    let some : character_at (drop i s) ≡ Some x = ap character_at (sym (take_rest s i)) ∙ sym c.in_ok-len.ensures.value in
    string_more s i x c.loop-start-test.true (ne_eqb _ _ c.if-text-start-eq34.false) some c.loop-start.invariant

pub returns-clause-len : goal.returns-clause-len
returns-clause-len c = string_end c.args.text.now c.loop-start.start c.loop-start-test.false c.loop-start.invariant
