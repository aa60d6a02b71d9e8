use Rattle.std.proofs.Common.{All, ◌++◌, ◌-◌, take, drop, length, subst, sym, ap, ◌∙◌, rules, arith}
use Rattle.std.proofs.lemmas.List.{take_all, length-drop}
use Rattle.ctf_format.proofs.TextLemmas.{IsPlain, plain_ends}
use Rattle.ctf_format.proofs.text.put_ends.Goals as goal

pub returns-clause-text : goal.returns-clause-text
returns-clause-text g c =
    let bytes = c.args.bytes.now in
    let count = g.row.COUNT in
    let at = c.args.at in
    let before = c.args.line.now in
    let begin = length bytes - count in
    let last = take_all (length bytes - begin) (drop begin bytes) (omega (arith, length-drop begin bytes)) in
    let first_plain = c.are_plain.ensures (search rules) in
    let last_plain = subst (All IsPlain) last (c.are_plain-2.ensures (search rules)) in
    let plain = plain_ends bytes begin count (omega arith) first_plain last_plain in
    c.put_both_ends.ensures.text ∙ ap (λ xs. take at before ++ xs) (sym plain)
