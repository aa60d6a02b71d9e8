use Rattle.std.proofs.Common.{◌≡◌, List, ◌∷◌, ◌++◌, to_z, of_z, w64, refl, ap, ◌∙◌, arith}
use Rattle.std.proofs.lemmas.Int.{ints}
use Rattle.std.proofs.lemmas.List.{length-take}
use Rattle.ctf_timestamp.proofs.Putting.{put_both, put_as}
use Rattle.ctf_timestamp.proofs.Groups.{digits_long}
use Rattle.ctf_timestamp.proofs.Parts.{whole_part}
use Rattle.ctf_timestamp.specs.Stamps.{delta_part}
use Rattle.ctf_timestamp.proofs.stamper.Stamper.put_part.Goals as goal

pub put_end-requires : goal.put_end-requires
put_end-requires c = omega (arith, length-take 8 c.in-Some-stamp_if_kept.kept.text, digits_long 9 c.in-Some-stamp_if_kept.kept.nanos, c.put_bytes-at.ensures.ends, c.put_fraction-at.ensures.ends, c.requires)

pub returns-clause-put : goal.returns-clause-put
returns-clause-put c =
    let told = to_z w64 (of_z w64 c.in-Some.moment.time) in
    let time : told ≡ c.in-Some.moment.time = omega (arith, ints) in
    put_as (put_both (put_both (put_both c.put_byte-at.ensures c.put_bytes-at.ensures) c.put_fraction-at.ensures) c.put_end.ensures.put)
    (ap (λ (x : List _). 91 ∷ x ++ 93 ∷ 32 ∷ delta_part c.args.self.now c.args.last told) c.in-Some-stamp_if_kept.ensures.stamp
    ∙ whole_part c.args.self.now c.args.self.now c.args.moment c.in-Some.moment c.args.last told refl c.in-Some.is time)

pub returns-clause-short : goal.returns-clause-short
returns-clause-short c = omega (arith, length-take 8 c.in-Some-stamp_if_kept.kept.text, digits_long 9 c.in-Some-stamp_if_kept.kept.nanos, c.put_bytes-at.ensures.ends, c.put_fraction-at.ensures.ends, c.put_end.ensures.short)
