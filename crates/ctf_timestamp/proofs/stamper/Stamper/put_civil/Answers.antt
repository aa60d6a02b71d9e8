use Rattle.std.proofs.Common.{◌≡◌, FitsSigned, w64, sym, rules}
use Rattle.std.proofs.lemmas.Int.{to_z-of_z}
use Rattle.ctf_timestamp.proofs.Putting.{put_as}
use Rattle.ctf_timestamp.proofs.Kept.{made_stamp, kept_stamp, put_first, head_from, keeps_head}
use Rattle.ctf_timestamp.specs.Civil.{second_of, within_second}
use Rattle.ctf_timestamp.proofs.stamper.Stamper.put_civil.Goals as goal

pub returns-in-Some-nanos_within-clause-put : goal.returns-in-Some-nanos_within-clause-put
returns-in-Some-nanos_within-clause-put c =
    let fits : FitsSigned w64 c.args.time = c.ranges.time in
    let fits_start : FitsSigned w64 c.in-Some.start = search rules in
    let second : second_of c.args.time ≡ second_of c.in-Some.start = simp to_z-of_z at c.in-Some-nanos_within.ensures.second in
    let nanos = simp to_z-of_z at c.in-Some-nanos_within.ensures.nanos in
    put_as c.put_second.ensures.put
    (kept_stamp _ _ c.args.time _ _ _ c.self.view_is (head_from _ _ _ _ c.in-Some.is c.self.invariant.1) second nanos c.in-Some-nanos_within.ensures.early)

pub returns-clause-put : goal.returns-clause-put
returns-clause-put c =
    let fits : FitsSigned w64 c.args.time = c.ranges.time in
    let nanos : c.nanos_of-nanos.result ≡ within_second c.args.time = simp to_z-of_z at c.nanos_of-nanos.ensures.nanos in
    let head = simp to_z-of_z at c.put_head-self-inside.ensures.put in
    put_as c.put_second-2.ensures.put
    (made_stamp _ _ c.args.time _ _ c.self.view_is (put_first head) nanos)

pub invariant_of-self : goal.invariant_of-self
invariant_of-self c =
    let start = c.start_to_keep-self-inside.ensures in
    let head = c.put_head-self-inside.ensures in
    (head.short, keeps_head _ _ _ _ _ _ start.second start.start start.early c.nanos_of-nanos.ensures.nanos head.steady (sym (put_first head.put)))
