use Rattle.std.proofs.Common.{◌≡◌, FitsSigned, w64, rules}
use Rattle.std.proofs.lemmas.Int.{to_z-of_z}
use Rattle.ctf_timestamp.proofs.Kept.{kept_short, head_from}
use Rattle.ctf_timestamp.specs.Civil.{second_of}
use Rattle.ctf_timestamp.proofs.stamper.Stamper.stamp_if_kept.Goals as goal

pub returns-clause-stamp : goal.returns-clause-stamp
returns-clause-stamp c =
    let fits : FitsSigned w64 c.args.moment.time = search rules in
    let fits_start : FitsSigned w64 c.in_ok-start.start = search rules in
    let second : second_of c.args.moment.time ≡ second_of c.in_ok-start.start = simp to_z-of_z at c.in_ok-nanos.ensures.second in
    let nanos = simp to_z-of_z at c.in_ok-nanos.ensures.nanos in
    kept_short _ _ c.args.moment _ c.self.inside.length c.self.inside.text _ c.self.view_is c.in-Time.is (head_from _ _ _ _ c.in_ok-start.was c.self.invariant.1)
    second nanos c.in_ok-nanos.ensures.early
