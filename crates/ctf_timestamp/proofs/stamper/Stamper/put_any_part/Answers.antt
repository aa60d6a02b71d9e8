use Rattle.std.proofs.Common.{◌≡◌, Some, to_z, of_z, w64, refl, arith}
use Rattle.std.proofs.lemmas.Int.{ints}
use Rattle.ctf_timestamp.proofs.Putting.{put_both, put_as}
use Rattle.ctf_timestamp.proofs.Parts.{whole_part}
use Rattle.ctf_timestamp.proofs.stamper.Stamper.put_any_part.Goals as goal

pub returns-clause-put : goal.returns-clause-put
returns-clause-put c =
    let time : to_z w64 (of_z w64 c.args.moment.time) ≡ c.args.moment.time = omega (arith, ints) in
    put_as (put_both (put_both c.put_byte-at.ensures c.put_stamp-at.ensures.put) c.put_end.ensures.put)
    (whole_part _ c.args.self.now (Some c.args.moment) c.args.moment c.args.last _ c.put_stamp-at.ensures.style refl time)
