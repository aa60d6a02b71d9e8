use Rattle.std.proofs.Common.{◌≡◌, ◌+◌, ◌++◌, ◌-◌, take, drop, length, ap, ◌∙◌, arith}
use Rattle.std.proofs.lemmas.List.{take_all, length-drop, length-take-le}
use Rattle.ctf_format.proofs.TextLemmas.{ends_written}
use Rattle.ctf_format.proofs.mark.put_both_ends.Goals as goal

pub returns-clause-text : goal.returns-clause-text
returns-clause-text g c =
    let bytes = c.args.bytes.now in
    let count = g.row.COUNT in
    let at = c.args.at in
    let before = c.args.line.now in
    let mid = c.put_bytes.new.line in
    let begin = length bytes - count in
    let last = take_all (length bytes - begin) (drop begin bytes) (omega (arith, length-drop begin bytes)) in
    let middle : at + count ≡ c.put_bytes.result = omega (arith, length-take-le count bytes (omega arith)) in
    let first_written = ap (λ n. take n mid) middle ∙ c.put_bytes.ensures.text in
    let last_written = c.put_bytes-2.ensures.text ∙ ap (λ xs. take (at + begin) mid ++ xs) last in
    ends_written bytes before mid c.put_bytes-2.new.line at begin count c.put_bytes-2.result (omega arith) (omega arith) (omega arith) first_written last_written
