use Rattle.std.proofs.Common.{◌*◌, length}
use Rattle.ctf_packet.proofs.Measures.{none_told, told_short, told_seen, fitting}
use Rattle.ctf_packet.proofs.sizes.sizes_checked.Goals as goal

pub returns-in_default-clause-value : goal.returns-in_default-clause-value
returns-in_default-clause-value c =
    let told = rw c.in_default.is at c.in_ok-sizes.ensures in
    let rest = 8 * length c.args.left.now in
    none_told c.args.packet_size c.args.content_size c.args.ending rest c.args.end c.rest_sizes.result (told rest) c.rest_sizes.ensures.value

pub returns-then-left-sizes-clause-value : goal.returns-then-left-sizes-clause-value
returns-then-left-sizes-clause-value c =
    let told = rw c.in-Some.is at c.in_ok-sizes.ensures in
    told_short c.args.packet_size c.args.content_size c.args.ending (length c.args.left.now) c.args.end c.in-Some.sizes c.cut_short.result (told (8 * length c.args.left.now)) c.if-left-sizes.true c.cut_short.ensures

pub returns-clause-value : goal.returns-clause-value
returns-clause-value c =
    let told = rw c.in-Some.is at c.in_ok-sizes.ensures in
    told_seen c.args.packet_size c.args.content_size c.args.ending (length c.args.left.now) c.args.end c.in-Some.sizes (told (8 * length c.args.left.now)) c.if-left-sizes.false

pub returns-clause-fits : goal.returns-clause-fits
returns-clause-fits c =
    let told = rw c.in-Some.is at c.in_ok-sizes.ensures in
    fitting c.in-Some.sizes c.args.end (length c.args.left.now) (told 0).1 c.if-left-sizes.false
