use Rattle.std.proofs.Common.{◌+◌, ◌++◌, take, sym, ap, ◌∙◌, arith}
use Rattle.std.proofs.lemmas.Fmt.{decimal_digit}
use Rattle.std.proofs.lemmas.List.{take_more_set}
use Rattle.ctf_format.proofs.element.put_index_digits.Goals as goal

pub returns-then-index-lt10-clause-text : goal.returns-then-index-lt10-clause-text
returns-then-index-lt10-clause-text c =
    let line = c.args.line.now in
    take_more_set line c.args.at (48 + c.args.index) (omega (arith, c.requires)) ∙ ap (λ digits. take c.args.at line ++ digits) (sym (decimal_digit c.args.index c.if-index-lt10.true))
