use Rattle.std.proofs.Common.{◌++◌, take, sym, ap, subst, ◌∙◌, arith}
use Rattle.std.proofs.lemmas.List.{take_all}
use Rattle.std.specs.List.{All}
use Rattle.ctf_format.proofs.TextLemmas.{IsPlain, plain_escaped}
use Rattle.ctf_format.proofs.text.put_step.Goals as goal

pub returns-clause-text : goal.returns-clause-text
returns-clause-text c =
    let bytes = c.args.bytes.now in
    let whole = take_all c.count_plain.result bytes (omega arith) in
    let plain = plain_escaped bytes (subst (All IsPlain) whole c.count_plain.ensures.plain) in
    c.put_bytes.ensures.text ∙ ap (λ xs. take c.args.at c.args.line.now ++ xs) (sym plain)
