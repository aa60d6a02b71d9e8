use Rattle.std.proofs.Common.{rules, Fits, w8, ℕ, ◌+◌, ◌*◌, ◌<◌, map, Ok, ap, sym, subst, ◌∙◌, arith}
use Rattle.std.specs.Prelude.{slice_index}
use Rattle.ctf_decode.specs.Values.{unsigned, list, vals_of}
use Rattle.ctf_decode.specs.Views.{input}
use Rattle.ctf_decode.proofs.ByteRows.{octets_are}
use Rattle.ctf_decode.proofs.octets.octets_into.Goals as goal

pub returns-clause-gives : goal.returns-clause-gives
returns-clause-gives c = λ k around are.
    let end = c.args.at.now.end + 8 * c.args.count in
    let spent = c.args.at.now.spent + c.args.count in
    let fit : (j : ℕ) → Fits w8 (slice_index c.bytes_at-bytes.result.now j) = search rules in
    let fits : (j : ℕ) → slice_index c.bytes_at-bytes.result.now j < 256 = λ j. (fit j).fits in
    let below = subst (λ bs. (j : ℕ) → slice_index bs j < 256) c.bytes_at-bytes.ensures fits in
    let found = octets_are (input c.args.packet.now) around (omega arith) k c.args.count c.args.at.now.end c.args.at.now.spent below are in
    let taken = ap (λ bs. Ok (list (vals_of (map unsigned bs)), end, spent)) (sym c.bytes_at-bytes.ensures) in
    let made = ap (λ v. Ok (v, end, spent)) (sym c.in-Ok.ensures) in
    sym found ∙ taken ∙ made
