use Rattle.std.proofs.Common.{IfSome, option_copied, sym, subst, arith}
use Rattle.std.proofs.lemmas.Option.{IfSome_then}
use Rattle.ctf_class.specs.HeaderPlans.{AreNear}
use Rattle.ctf_record_text.proofs.Planned.{other_told}
use Rattle.ctf_record_text.proofs.planned_header.read_other.Goals as goal

pub returns-clause-tells : goal.returns-clause-tells
returns-clause-tells c =
    let plan = c.args.plan.now in
    let bytes = c.args.packet.now.bytes.now in
    let header = c.up-begin.result in
    let up = c.up-begin.ensures in
    let b = c.in_ok-place.ensures in
    let n = c.number_at-number.result in
    let are = c.in_ok-other.other.now in
    let near : AreNear are = subst (λ o. IfSome o AreNear) (sym c.in_ok-other.ensures.value) c.requires.near.other in
    IfSome_then c.read_integers.result c.read_integers.ensures.reads (λ to read. λ k is. other_told (option_copied c.args.timeline) k bytes c.args.packet.now.end c.args.place header c.in_ok-place.place c.args.clock plan to c.in_ok-tag.tag.now are n is (sym c.in_ok-tag.ensures.value) (sym c.in_ok-other.ensures.value)
    c.number_at-number.ensures (omega (arith, c.if-number-tag.false, c.if-number-tag-gt1.false)) up.value up.least.multiple b.is b.multiple b.within (omega (arith, near.few)) read)
