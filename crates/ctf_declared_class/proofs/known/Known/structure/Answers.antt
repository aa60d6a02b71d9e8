use Rattle.std.proofs.Common.{map}
use Rattle.ctf_declared_class.specs.Views.{members}
use Rattle.ctf_declared_class.specs.Knowns.{field}
use Rattle.ctf_declared_class.proofs.ViewsLemmas.{shape-Structure}
use Rattle.ctf_declared_class.proofs.KeptLemmas.{Keeps-struct, told-is}
use Rattle.ctf_declared_class.proofs.known.Known.structure.Goals as goal

pub with_facts-requires : goal.with_facts-requires
with_facts-requires c =
    let all = map field c.args.fields.items in
    let ms = c.in_ok-members.members in
    let same = told-is all (members ms) c.in_ok-members.ensures in
    let facts = c.facts_of-facts.result in
    let kept = rw c.as_slice.ensures.value at c.facts_of-facts.ensures in
    let more = c.around.ensures in
    rw (shape-Structure facts.align ms) (Keeps-struct c.args.least all (members ms) facts c.around.result same kept more.align more.depth more.nodes more.float)
