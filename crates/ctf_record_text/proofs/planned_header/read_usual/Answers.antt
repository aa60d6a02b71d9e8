use Rattle.std.proofs.Common.{option_copied, sym, subst, arith}
use Rattle.std.proofs.lemmas.Option.{IfSome_then}
use Rattle.ctf_record_text.proofs.Planned.{ReadsTag, usual_told}
use Rattle.ctf_record_text.proofs.planned_header.read_usual.Goals as goal
use Rattle.ctf_record_text.proofs.planned_header.read_usual.Goals.{in-None, in-Some+else-number-tag+else-number-tag-2}

pub returns-clause-tells : goal.returns-clause-tells
returns-clause-tells c =
    let plan = c.args.plan.now in
    let bytes = c.args.packet.now.bytes.now in
    let header = c.up-begin.result in
    let up = c.up-begin.ensures in
    let b = c.in_ok-place.ensures in
    let tag = c.match-plan.tag in
    let told : ReadsTag bytes header plan.tag tag = elim c.match-plan.branch [
      | in-None w ↦ subst (λ t. ReadsTag bytes header t tag) (sym w.in-None.is) w.tag-is
      | in-Some+else-number-tag+else-number-tag-2 w ↦ subst (λ t. ReadsTag bytes header t tag) (sym w.in-Some.is) (w.number_at-number.result, w.tag-is, w.number_at-number.ensures, w.if-number-tag.false, w.if-number-tag-2.false)
    ] in
    IfSome_then c.read_integers.result c.read_integers.ensures.reads (λ to read. λ k is. usual_told (option_copied c.args.timeline) k bytes c.args.packet.now.end c.args.place header c.in_ok-place.place c.args.clock plan to tag is told up.value up.least.multiple b.is b.multiple b.within (omega (arith, c.requires.near.usual.few)) read)
