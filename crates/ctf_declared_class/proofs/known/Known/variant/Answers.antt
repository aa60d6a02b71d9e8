use Rattle.std.proofs.Common.{map}
use Rattle.ctf_declared_class.specs.Views.{members}
use Rattle.ctf_declared_class.specs.Knowns.{field}
use Rattle.ctf_declared_class.proofs.ViewsLemmas.{shape-Variant}
use Rattle.ctf_declared_class.proofs.KeptLemmas.{Keeps-variant, told-is}
use Rattle.ctf_declared_class.proofs.known.Known.variant.Goals as goal

pub with_facts-requires : goal.with_facts-requires
with_facts-requires c =
    let all = map field c.args.fields.items in
    let ms = c.in_ok-options.options in
    let same = told-is all (members ms) c.in_ok-options.ensures in
    let kept = rw c.as_slice.ensures.value at c.facts_of.ensures in
    let more = c.around.ensures in
    rw (shape-Variant c.args.tag ms) (Keeps-variant c.args.tag c.one_bit-2.result all (members ms) c.facts_of.result _ same kept c.one_bit.ensures more.depth more.nodes more.float)
