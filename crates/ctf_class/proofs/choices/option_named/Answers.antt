use Rattle.std.proofs.Common.{ℕ, List, ap, sym, ◌∙◌, arith}
use Rattle.std.specs.Str.{bytes_eq}
use Rattle.std.proofs.lemmas.Bool.Decides.{nat_tests}
use Rattle.ctf_class.proofs.ChoicesLemmas.{before_end, position-take}
use Rattle.ctf_class.proofs.choices.option_named.Goals as goal

pub returns-in_err-option : goal.returns-in_err-option
returns-in_err-option c =
    let test = λ (other : List ℕ). bytes_eq other c.args.name.now in
    let at = position-take test c.args.count c.args.names.now in
    let none = ap (before_end c.args.count) c.in_err-option.ensures in
    c.from_residual.ensures ∙ (none ∙ sym at)

pub returns-then-option-count : goal.returns-then-option-count
returns-then-option-count c =
    let test = λ (other : List ℕ). bytes_eq other c.args.name.now in
    let at = position-take test c.args.count c.args.names.now in
    let found = ap (before_end c.args.count) c.in_ok-option.ensures in
    let within = c.if-option-count.true in
    grind (arith, nat_tests)

pub returns-else-option-count : goal.returns-else-option-count
returns-else-option-count c =
    let test = λ (other : List ℕ). bytes_eq other c.args.name.now in
    let at = position-take test c.args.count c.args.names.now in
    let found = ap (before_end c.args.count) c.in_ok-option.ensures in
    let beyond = c.if-option-count.false in
    grind (arith, nat_tests)
