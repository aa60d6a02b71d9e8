use Rattle.std.proofs.Common.{◌<◌, sym, subst, arith}
use Rattle.std.specs.Simd.Lanes.{Each1}
use Rattle.ctf_format.proofs.HexadecimalLemmas.{moved_written, sixteens_below}
use Rattle.ctf_format.proofs.hexadecimal.put_hexadecimal.Goals as goal

pub glyphs-requires : goal.glyphs-requires
glyphs-requires c = subst (Each1 (λ number. number < 16)) (sym c.values.ensures) (sixteens_below 16 _)

pub returns-clause-text : goal.returns-clause-text
returns-clause-text c =
    moved_written c.args.line.now c.put_lanes.new.line c.values.result c.glyphs.result c.args.at c.args.number c.count_digits-count.result c.count_digits-count.ensures.value
    c.count_digits-count.ensures.few (omega arith) c.requires.room c.values.ensures c.glyphs.ensures c.put_lanes.ensures
