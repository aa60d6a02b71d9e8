use Rattle.std.proofs.Common.{add-one, subst, sym, arith}
use Rattle.ctf_stream.specs.Reader.{Reader}
use Rattle.ctf_merge.specs.Merges.{Fetched}
use Rattle.ctf_merge.proofs.Going.{fetched_more, fetched_all}
use Rattle.ctf_merge.proofs.merge.fetch_each.Goals as goal

pub loop-reader-preserved : goal.loop-reader-preserved
loop-reader-preserved g c =
    let here = subst (λ (r : Reader). Fetched r c.fetch.new.reader) (sym c.reader-item.is) c.fetch.ensures in
    rw add-one (fetched_more c.loop-reader.reader-index c.args.readers.now c.loop-reader.readers c.reader-item.result c.fetch.new.reader c.loop-reader.invariant (omega arith) c.reader-item.is here)

pub returns : goal.returns
returns g c = fetched_all c.loop-reader.reader-index c.args.readers.now c.loop-reader.readers c.loop-reader.invariant (omega arith)
