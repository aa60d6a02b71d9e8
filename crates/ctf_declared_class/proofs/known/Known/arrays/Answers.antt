use Rattle.std.proofs.Common.{◌≡◌, ◌+◌, ◌-◌, ◌<◌, [], ◌∷◌, ◌++◌, length, take, sym, ap, ◌∙◌, arith}
use Rattle.std.proofs.lemmas.List.{take_more}
use Rattle.ctf_meaning.specs.Shapes as plain
use Rattle.ctf_declared_class.specs.Knowns.{known}
use Rattle.ctf_declared_class.proofs.KeptLemmas.{arrays-append}
use Rattle.ctf_declared_class.proofs.known.Known.arrays.Goals as goal

pub loop-left-preserved : goal.loop-left-preserved
loop-left-preserved c =
    let lengths = c.args.lengths.now in
    let next = c.loop-left.left - 1 in
    let item = c.index-lengths-left.result in
    let old = known c.loop-left.known in
    let one : next + 1 ≡ c.loop-left.left = omega arith in
    let within : next < length lengths = omega arith in
    let taken = take_more lengths next item within ∙ ap (λ x. take next lengths ++ x ∷ []) (sym c.index-lengths-left.is) in
    let made = ap (plain.arrays (take next lengths)) c.in_ok-known-2.ensures in
    let joined = ap (λ xs. plain.arrays xs old) taken ∙ arrays-append (take next lengths) (item ∷ []) old in
    record {
      within = omega arith;
      made = made ∙ (sym joined ∙ (ap (λ n. plain.arrays (take n lengths) old) one ∙ c.loop-left.invariant.made));
    }
