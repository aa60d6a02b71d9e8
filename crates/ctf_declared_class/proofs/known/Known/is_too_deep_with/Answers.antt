use Rattle.std.proofs.Common.{length, nat_lt, ap, sym, ◌∙◌, arith}
use Rattle.ctf_meaning.specs.Shapes.{depth_of}
use Rattle.ctf_meaning.specs.Own.{most_deep}
use Rattle.ctf_declared_class.specs.Views.{shape}
use Rattle.ctf_declared_class.proofs.KeptLemmas.{depth-arrays, above-stopped}
use Rattle.ctf_declared_class.proofs.known.Known.is_too_deep_with.Goals as goal

pub returns : goal.returns
returns c =
    let k = c.args.self.now in
    let n = length c.args.lengths.now in
    above-stopped 64 n (depth_of (shape k.shape)) k.facts.depth c.saturating_add.result (omega arith) k.kept.deep c.saturating_add.ensures
    ∙ ap (nat_lt most_deep) (sym (depth-arrays c.args.lengths.now (shape k.shape)))
